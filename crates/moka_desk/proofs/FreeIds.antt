-- The first free id of a stream, among ids that are numbered from elsewhere.
use Rattle.std.proofs.Common.{◌≡◌, ◌<◌, ◌+◌, ◌-◌, ℕ, zero, suc, Bool, true, false, cond, List, Some, arith, refl, ap, ◌∙◌, subst}
use Rattle.std.specs.Option.{option_map}
use Rattle.moka_hist.specs.Visits.{free_id, is_registered}
use Rattle.moka_hist.specs.declared.predicates.Registered.{Registered}

module _ (rs : List Registered) (stream : ℕ → ℕ) (number left : ℕ) where
  -- where nothing is registered under this id, it is the first
  pub free_here : 0 < left → is_registered rs (stream number) ≡ false → free_id rs stream number left ≡ Some number
  free_here some free = ap (free_id rs stream number) more ∙ ap (λ b. cond b (free_id rs stream (suc number) (left - 1)) (Some number)) free where
    more : left ≡ suc (left - 1)
    more = omega arith

  -- else it is among the others
  pub free_later : 0 < left → is_registered rs (stream number) ≡ true → free_id rs stream number left ≡ free_id rs stream (number + 1) (left - 1)
  free_later some taken = ap (free_id rs stream number) more ∙ ap (λ b. cond b (free_id rs stream (suc number) (left - 1)) (Some number)) taken
      ∙ ap (λ n. free_id rs stream n (left - 1)) next where
        more : left ≡ suc (left - 1)
        more = omega arith

        next : suc number ≡ number + 1
        next = omega arith

module _ (rs : List Registered) (stream ids : ℕ → ℕ) (drawn : ℕ) (gives : (n : ℕ) → stream n ≡ ids (drawn + n)) where
  free_on : (number left : ℕ) → free_id rs ids (drawn + number) left ≡ option_map (λ n. drawn + n) (free_id rs stream number left)
  free_on number zero = refl
  free_on number (suc left) = subst (λ c. cond c (free_id rs ids (suc (drawn + number)) left) (Some (drawn + number)) ≡ option_map (λ n. drawn + n) (free_id rs stream number (suc left)))
      (ap (is_registered rs) (gives number)) (by (free_on (suc number) left) (is_registered rs (stream number))) where
        next : drawn + suc number ≡ suc (drawn + number)
        next = omega arith

        by : free_id rs ids (drawn + suc number) left ≡ option_map (λ n. drawn + n) (free_id rs stream (suc number) left) →
            (b : Bool) → cond b (free_id rs ids (suc (drawn + number)) left) (Some (drawn + number)) ≡ option_map (λ n. drawn + n) (cond b (free_id rs stream (suc number) left) (Some number))
        by on true = subst (λ m. free_id rs ids m left ≡ option_map (λ n. drawn + n) (free_id rs stream (suc number) left)) next on
        by on false = refl

  -- the first free id of the stream is that of the ids which it gives
  pub free_of : (left : ℕ) → free_id rs ids drawn left ≡ option_map (λ n. drawn + n) (free_id rs stream 0 left)
  free_of left = subst (λ m. free_id rs ids m left ≡ option_map (λ n. drawn + n) (free_id rs stream 0 left)) here (free_on 0 left) where
    here : drawn + 0 ≡ drawn
    here = omega arith
