-- Those that wait for an owner, as one goes.
use Rattle.std.proofs.Common.{◌≡◌, ℕ, ◌+◌, ◌-◌, ◌==◌, Bool, true, false, cond, ◌&&◌, List, [], ◌∷◌, Option, None, Some, MatchOption, refl, sym, ap, ◌∙◌, arith}
use Rattle.std.specs.List.Sorted.{IsPermutation}
use Rattle.std.specs.Map.{lookup, remove_entry}
use Rattle.std.specs.Option.{option_map_or}
use Rattle.std.proofs.lemmas.Bool.{eqb-true}
use Rattle.std.proofs.lemmas.List.Sorted.{sum_by-IsPermutation}
use Rattle.std.proofs.lemmas.List.Sums.{sum_by-cons}
use Rattle.moka_desk.specs.Readers.{waiting_for}
use Rattle.moka_hist.specs.Finite.{put_at}

-- one fewer waits for the owner
pub readers_left : (readers : ℕ → ℕ) (owner n : ℕ) (b : Bool) → (owner == n) ≡ b → cond b (readers owner - 1) (readers n) ≡ cond b (readers n - 1) (readers n)
readers_left readers owner n true e = ap (λ m. readers m - 1) (eqb-true owner n e)
readers_left readers owner n false e = refl

-- the last one takes the settlement away
pub settled_left : {A : Type 0} (readers : ℕ → ℕ) (settled : ℕ → Option A) (owner n : ℕ) (a b : Bool) → (owner == n) ≡ a → (readers owner == 1) ≡ b
    → (cond b (put_at settled owner None) settled) n ≡ cond (a && (readers n == 1)) None (settled n)
settled_left readers settled owner n true true e f =
    let last : (readers n == 1) ≡ true = ap (λ m. readers m == 1) (sym (eqb-true owner n e)) ∙ f in
    rw (e, last) refl
settled_left readers settled owner n true false e f =
    let last : (readers n == 1) ≡ false = ap (λ m. readers m == 1) (sym (eqb-true owner n e)) ∙ f in
    rw last refl
settled_left readers settled owner n false true e f = rw e refl
settled_left readers settled owner n false false e f = refl

-- those that wait for each owner are as many in any order
pub waiting_reordered : (xs ys : List (ℕ × ℕ)) (n : ℕ) → IsPermutation xs ys →
    waiting_for ys n ≡ waiting_for xs n
waiting_reordered xs ys n same = sum_by-IsPermutation (λ e. cond (e.1 == n) 1 0) xs ys same

-- one more waits for the owner
pub waiting_more : (xs ys : List (ℕ × ℕ)) (call owner n : ℕ) → IsPermutation ((call, owner) ∷ xs) ys →
    waiting_for ys n ≡ cond (owner == n) 1 0 + waiting_for xs n
waiting_more xs ys call owner n more =
    waiting_reordered ((call, owner) ∷ xs) ys n more
    ∙ sum_by-cons (λ e. cond (e.1 == n) 1 0) (call, owner) xs

-- one that waited for the owner is gone
pub waiting_fewer : (test : ℕ → Bool) (xs : List (ℕ × ℕ)) (owner n : ℕ) → lookup test xs ≡ Some owner →
    waiting_for xs n ≡ cond (owner == n) 1 0 + waiting_for (remove_entry test xs) n
waiting_fewer test [] owner n is = absurd (nothing is) where
  nothing : None ≡ Some owner → ⊥
  nothing e = cc
waiting_fewer test (x ∷ xs) owner n is = by (test x.0) is (waiting_fewer test xs owner n) where
  one : ℕ × ℕ → ℕ
  one e = cond (e.1 == n) 1 0

  by : (b : Bool) → cond b (Some x.1) (lookup test xs) ≡ Some owner →
      (lookup test xs ≡ Some owner →
      waiting_for xs n ≡ cond (owner == n) 1 0 + waiting_for (remove_entry test xs) n) →
      waiting_for (x ∷ xs) n
      ≡ cond (owner == n) 1 0 + waiting_for (cond b xs (x ∷ remove_entry test xs)) n
  by true e rest =
      let same : x.1 ≡ owner = ap (λ o. option_map_or (λ m. m) o x.1) e in
      sum_by-cons one x xs ∙ ap (λ m. cond (m == n) 1 0 + waiting_for xs n) same
  by false e rest =
      let before = sum_by-cons one x xs in
      let after = sum_by-cons one x (remove_entry test xs) in
      let fewer = rest e in
      omega (arith, before, after, fewer)

-- the count of an owner falls with those that wait for it
pub counted_fewer : (counts : ℕ → ℕ) (xs : List (ℕ × ℕ)) (test : ℕ → Bool) (ys : List (ℕ × ℕ))
    (owner n : ℕ) → ((m : ℕ) → counts m ≡ waiting_for xs m) → lookup test xs ≡ Some owner →
    IsPermutation (remove_entry test xs) ys →
    cond (owner == n) (counts owner - 1) (counts n) ≡ waiting_for ys n
counted_fewer counts xs test ys owner n counted is same =
    by (owner == n) refl (counted n ∙ waiting_fewer test xs owner n is)
    ∙ sym (waiting_reordered (remove_entry test xs) ys n same) where
      by : (b : Bool) → (owner == n) ≡ b →
          counts n ≡ cond b 1 0 + waiting_for (remove_entry test xs) n →
          cond b (counts owner - 1) (counts n) ≡ waiting_for (remove_entry test xs) n
      by true e f =
          let here : counts owner ≡ counts n = ap counts (eqb-true owner n e) in
          omega (arith, here, f)
      by false e f = omega (arith, f)

-- the count of an owner rises with them
pub counted_more : (counts : ℕ → ℕ) (xs ys : List (ℕ × ℕ)) (call owner n : ℕ) →
    ((m : ℕ) → counts m ≡ waiting_for xs m) → IsPermutation ((call, owner) ∷ xs) ys →
    cond (owner == n) (counts owner + 1) (counts n) ≡ waiting_for ys n
counted_more counts xs ys call owner n counted more =
    by (owner == n) refl (counted n) ∙ sym (waiting_more xs ys call owner n more) where
      by : (b : Bool) → (owner == n) ≡ b → counts n ≡ waiting_for xs n →
          cond b (counts owner + 1) (counts n) ≡ cond b 1 0 + waiting_for xs n
      by true e f =
          let here : counts owner ≡ counts n = ap counts (eqb-true owner n e) in
          omega (arith, here, f)
      by false e f = omega (arith, f)

-- what holds where there is nothing
pub where_none : {A : Type 0} (o : Option A) (P : Type 0) (Q : A → Type 0) → MatchOption o P Q → o ≡ None → P
where_none None P Q h e = h
where_none (Some x) P Q h e = cc

-- how an owner ended is taken away, or not
pub taken_once : {A : Type 0} (b : Bool) (settled : ℕ → Option A) (owner n : ℕ) →
    cond (b && owner == n) None (settled n) ≡ (cond b (put_at settled owner None) settled) n
taken_once true settled owner n = refl
taken_once false settled owner n = refl
