-- Nothing is sought, held or known.
use Rattle.std.proofs.Common.{◌≡◌, ℕ, nat_eq, None, refl}
use Rattle.std.specs.HashMap.{get}
use Rattle.moka_claims.proofs.Standing.{new_is}
use Rattle.moka_claims.proofs.claims.Claims.new.Goals as goal

pub returns : goal.returns
returns c =
    let calls : (r : ℕ) → get nat_eq c.new-2.result r ≡ None = λ r. rw c.new-2.ensures.empty refl in
    let seats : (q : ℕ) → get nat_eq c.new-3.result q ≡ None = λ q. rw c.new-3.ensures.empty refl in
    new_is _ c.in_ok-new.ensures.empty calls seats
