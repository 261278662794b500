-- The ids so far are registered, so the first free one is among those that are left.
use Rattle.std.proofs.Common.{◌≡◌, ◌+◌, ◌-◌, ℕ}
use Rattle.moka_hist.specs.Visits.{free_id}
use Rattle.moka_desk.specs.Predicates.{PredicatePart, PredicatesAre}
use Rattle.moka_desk.proofs.predicates.Predicates.draw.Given as goal

abbrev pub invariant-loop : goal.invariant-loop
invariant-loop g l = record {
  taken : (p : PredicatePart) → PredicatesAre l.self p →
      free_id p.registered (g.G.Ids.stream l.fn.ids) 0 l.most ≡ free_id p.registered (g.G.Ids.stream l.fn.ids) l.counter (l.most - l.counter);
  left : (n : ℕ) → g.G.Ids.stream l.ids n ≡ g.G.Ids.stream l.fn.ids (l.counter + n);
}
