-- A call that found no memory can be polled again, and the context is the poll's own.
use Rattle.futures.specs.Task.{Keeps}
use Rattle.moka_cache_memory.proofs.patient.poll_with_memory.Given as goal

abbrev pub invariant-loop : goal.invariant-loop
invariant-loop g l = record {
  can : g.S.State.can_poll l.call;
  kept : Keeps l.fn.cx l.cx;
}
