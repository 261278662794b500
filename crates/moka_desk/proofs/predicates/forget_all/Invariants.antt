-- What is left once those so far have left.
use Rattle.std.proofs.Common.{◌≡◌, ℕ, List, take, nat_eq}
use Rattle.std.specs.HashMap.{get}
use Rattle.moka_hist.specs.declared.predicates.Registered.{Registered}
use Rattle.moka_desk.specs.Predicates.{left_by_all, registered_under}
use Rattle.moka_desk.proofs.predicates.forget_all.Given as goal

abbrev pub invariant-loop-named : goal.invariant-loop-named
invariant-loop-named l = (registered : List Registered) → ((n : ℕ) → get nat_eq l.fn.ids n ≡ registered_under registered n) →
    (n : ℕ) → get nat_eq l.ids n ≡ left_by_all (take l.named-index l.leaving) (registered_under registered n)
