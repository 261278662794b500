-- The count of the records that stand, as one more write is applied.
use Rattle.std.proofs.Common.{◌≡◌, ℕ, ◌+◌, ◌==◌, Bool, true, false, not, cond, ◌&&◌, ◌||◌, eqb-true, List, [], ◌∷◌, ◌++◌, Some, add-zero, zero-add, refl, sym, ap, ◌∙◌, arith}
use Rattle.std.specs.List.{sum_by}
use Rattle.std.specs.Option.{option_map_or}
use Rattle.std.proofs.lemmas.List.Sums.{sum_by-cons, sum_by-append}
use Rattle.std.proofs.lemmas.List.Folds.{list_any-append}
use Rattle.std.proofs.Math.Bool.{or-false}
use Rattle.std.proofs.lemmas.Bool.Decides.{nat_tests}
use Rattle.moka_hist.specs.Visits.{number_of, old_of, is_upsert, is_replaced}
use Rattle.moka_hist.specs.declared.writes.Write.{Write}
use Rattle.moka_desk.specs.Records.{and_this, count_of, is_made, standing_but}

-- where each part adds up, so do the sums
sum_by_parts : {X : Type 0} (f g h : X → ℕ) → ((x : X) → f x + g x ≡ h x) → (xs : List X) → sum_by f xs + sum_by g xs ≡ sum_by h xs
sum_by_parts f g h e [] = refl
sum_by_parts f g h e (x ∷ xs) =
    let here : f x + g x ≡ h x = e x in
    let rest : sum_by f xs + sum_by g xs ≡ sum_by h xs = sum_by_parts f g h e xs in
    rw (sum_by-cons f x xs, sum_by-cons g x xs, sum_by-cons h x xs) (omega arith)

-- one test of numbers is the same either way round
same_test : (a b : ℕ) → (a == b) ≡ (b == a)
same_test a b = grind (arith, nat_tests)

-- what stood and falls no longer stands
falls_bool : (gone falls : Bool) → (falls ≡ true → gone ≡ false) → cond (not (gone || falls)) 1 0 + cond falls 1 0 ≡ cond (not gone) 1 0
falls_bool false false h = refl
falls_bool false true h = refl
falls_bool true false h = refl
falls_bool true true h = let e : true ≡ false = h refl in cc

-- a record falls exactly where it stood and is of this stamp
falls_alone : (r : ℕ → Bool) (s n : ℕ) → r s ≡ false → cond (not (r n || (s == n))) 1 0 + cond (n == s) 1 0 ≡ cond (not (r n)) 1 0
falls_alone r s n h =
    rw (same_test s n) (falls_bool (r n) (n == s) (λ e. ap r (eqb-true n s e) ∙ h))

-- so it is of each write: one that made no record stands nowhere
falls_of : (r : ℕ → Bool) (s n : ℕ) (made : Bool) → r s ≡ false →
    cond (made && not (r n || (s == n))) 1 0 + cond (made && n == s) 1 0 ≡ cond (made && not (r n)) 1 0
falls_of r s n true h = falls_alone r s n h
falls_of r s n false h = refl

-- where the stamp's record was gone before, nothing falls
falls_again : (r : ℕ → Bool) (s n : ℕ) (b : Bool) → (s == n) ≡ b → r s ≡ true → (r n || (s == n)) ≡ r n
falls_again r s n false e h = rw e (or-false (r n))
falls_again r s n true e h = let same : r n ≡ true = ap r (sym (eqb-true s n e)) ∙ h in rw same refl

-- what stands once this record is gone too
pub falling_is : (gone : ℕ → Bool) (writes : List Write) (stamp : ℕ) (b : Bool) → gone stamp ≡ b
    → standing_but (and_this gone (Some stamp)) writes + cond b 0 (count_of stamp writes) ≡ standing_but gone writes
falling_is gone writes stamp false e =
    sum_by_parts _ _ _ (λ w. falls_of gone stamp (number_of w) (is_upsert w) e) writes
falling_is gone writes stamp true e =
    rw add-zero (λ i. sum_by (λ w. cond (is_upsert w
    && not (falls_again gone stamp (number_of w) (stamp == number_of w) refl e i)) 1 0) writes)

-- the stamps that the writes and one more replace
pub gone_then : (writes : List Write) (w : Write) (n : ℕ) → is_replaced (writes ++ w ∷ []) n ≡ and_this (is_replaced writes) (old_of w) n
gone_then writes w n =
    rw (list_any-append (λ v. option_map_or (λ old. old == n) (old_of v) false) writes (w ∷ [])) (simp or-false)

-- the records that the writes and one more made
pub made_then : (writes : List Write) (w : Write) (n : ℕ) → is_made (writes ++ w ∷ []) n ≡ (is_made writes n || (is_upsert w && number_of w == n))
made_then writes w n =
    rw (list_any-append (λ v. is_upsert v && number_of v == n) writes (w ∷ [])) (simp or-false)

-- what stands once one more write is there, and none is gone by it
pub but_then : (gone : ℕ → Bool) (writes : List Write) (w : Write) → standing_but gone (writes ++ w ∷ []) ≡ standing_but gone writes + cond (is_upsert w && not (gone (number_of w))) 1 0
but_then gone writes w = rw (sum_by-append, zero-add) refl

-- how many are of a number once one more write is applied
pub count_then : (n : ℕ) (writes : List Write) (w : Write) → count_of n (writes ++ w ∷ []) ≡ count_of n writes + cond (is_upsert w && number_of w == n) 1 0
count_then n writes w = rw (sum_by-append, zero-add) refl
