-- No call has a place.
use Rattle.std.proofs.Common.{◌≡◌, ◌==◌, ℕ, nat_eq, Bool, true, false, cond, List, Option, None, refl, ap, ◌∙◌}
use Rattle.std.specs.Map.{lookup}
use Rattle.moka_machine.specs.declared.call_places.Running.{Running}
use Rattle.moka_machine.proofs.calls.Calls.new.Goals as goal

none : {A : Type 0} (b : Bool) → cond {A = Option A} b None None ≡ None
none true = refl
none false = refl

pub returns : goal.returns
returns g c = λ n.
    ap (λ (es : List (ℕ × Option (Running g.row.K.Denot g.row.V.Denot g.row.E.Denot))). cond (0 == n) None (lookup (nat_eq n) es)) c.new.ensures.empty
    ∙ none (0 == n)
