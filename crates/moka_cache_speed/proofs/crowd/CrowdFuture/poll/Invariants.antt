-- The context is the poll's own.
use Rattle.futures.specs.Task.{Keeps}
use Rattle.moka_cache_speed.proofs.crowd.CrowdFuture.poll.Given as goal

abbrev pub invariant-loop-call : goal.invariant-loop-call
invariant-loop-call g l = record {
  kept : Keeps l.fn.cx l.cx;
}
