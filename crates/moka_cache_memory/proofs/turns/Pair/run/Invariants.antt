-- What has given no output can be polled.
use Rattle.std.specs.Prelude.{IfSome}
use Rattle.moka_cache_memory.proofs.turns.Pair.run.Given as goal

abbrev pub invariant-loop : goal.invariant-loop
invariant-loop g l = record {
  can : IfSome l.one.future g.F.Future.can_poll;
}
