-- None that comes after these hits the record.
use Rattle.std.proofs.Common.{◌≡◌, take}
use Rattle.std.specs.List.{list_any}
use Rattle.moka_desk.specs.Predicates.{hit_by}
use Rattle.moka_desk.proofs.predicates.Predicates.hits.Given as goal

abbrev pub invariant-loop-place : goal.invariant-loop-place
invariant-loop-place g l =
    list_any (hit_by (g.T.Tests.hides l.tests) l.key l.stored.value l.stored.modified) l.self.registered.items
    ≡ list_any (hit_by (g.T.Tests.hides l.tests) l.key l.stored.value l.stored.modified) (take l.place l.self.registered.items)
