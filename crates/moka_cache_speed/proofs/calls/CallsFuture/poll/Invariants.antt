-- A call that waits can be polled, and the context is the poll's own.
use Rattle.std.specs.Prelude.{IfSome}
use Rattle.futures.specs.Task.{Keeps}
use Rattle.moka_cache_speed.proofs.calls.CallsFuture.poll.Given as goal

abbrev pub invariant-loop : goal.invariant-loop
invariant-loop g l = record {
  can : IfSome l.self.waits g.S.State.can_poll;
  kept : Keeps l.fn.cx l.cx;
}
