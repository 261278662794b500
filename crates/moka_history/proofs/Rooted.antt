-- Arrays that have been roots, where neither the arrays of a segment nor its root change.
use Rattle.std.proofs.Common.{◌≡◌, ℕ, ◌<◌, ◌∷◌, suc, sym, ap, subst, ◌∙◌}
use Rattle.std.specs.List.{slice_get}
use Rattle.moka_history.specs.States.{State}
use Rattle.moka_history.specs.Rules.{IsRooted}

module _ {K V : Type 0} (s new : State K V) (i a : ℕ) (segments : new.segments ≡ s.segments) (links : new.links i ≡ s.links i)
    (rooted : new.rooted i ≡ s.rooted i) where
  pub was_rooted : IsRooted new i a → IsRooted s i a
  was_rooted r = record {
    within = subst (λ n. i < n) segments r.within;
    rooted = record {
      place = r.rooted.place;
      before = subst (λ n. r.rooted.place < n) rooted r.rooted.before;
      there = ap (λ xs. slice_get (suc i ∷ xs) r.rooted.place) (sym links) ∙ r.rooted.there;
    };
  }
