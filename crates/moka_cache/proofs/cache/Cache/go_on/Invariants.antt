use Rattle.moka_kept.specs.Facts.{facts}
use Rattle.std.specs.Prelude.{◌≡◌, ◌⊎◌}
use Rattle.futures.specs.Task.{Keeps}
use Rattle.moka_kept.specs.Stops.{CameTo}
use Rattle.moka_cache.specs.Asked.{Accords}
use Rattle.moka_cache.specs.Polls.{CameToAsk}
use Rattle.moka_cache.specs.Stays.{AskedStays}
use Rattle.moka_cache.proofs.cache.Cache.go_on.Given as goal

abbrev pub invariant-loop : goal.invariant-loop
invariant-loop g l = record {
  came : CameTo (facts g.K.PartialEq.eq g.P.Fact.holds) (Accords (g.Q.Asked.gives l.fn.asked) (g.Q.Asked.tests l.fn.asked)) l.fn.flow l.flow;
  asked : AskedStays g.Q.Asked.can_poll g.Q.Asked.gives g.Q.Asked.tests l.fn.asked l.asked;
  kept : Keeps l.fn.cx l.cx;
  unasked : (l.asked ≡ l.fn.asked) ⊎ CameToAsk (facts g.K.PartialEq.eq g.P.Fact.holds) (Accords (g.Q.Asked.gives l.fn.asked) (g.Q.Asked.tests l.fn.asked)) l.fn.flow;
}
