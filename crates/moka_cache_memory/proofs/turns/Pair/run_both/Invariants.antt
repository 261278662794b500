-- What has given no output can be polled.
use Rattle.std.specs.Prelude.{IfSome}
use Rattle.moka_cache_memory.proofs.turns.Pair.run_both.Given as goal

abbrev pub invariant-loop : goal.invariant-loop
invariant-loop g l = record {
  first : IfSome l.one.future g.F.Future.can_poll;
  second : IfSome l.other.future g.G.Future.can_poll;
}
