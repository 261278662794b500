-- The tests so far are listed.
use Rattle.std.proofs.Common.{◌≡◌, map, take}
use Rattle.moka_desk.proofs.state.Desk.tests.Given as goal

abbrev pub invariant-loop-registered : goal.invariant-loop-registered
invariant-loop-registered g l = l.tests.items ≡ map (λ r. (r.test, r.moment)) (take l.registered-index l.self.predicates.registered.items)
