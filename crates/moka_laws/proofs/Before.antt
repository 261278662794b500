-- Which of two numbers stands first in a list.
use Rattle.std.proofs.Common.{◌≡◌, ◌⊎◌, inl, inr, ℕ, ◌+◌, ◌<◌, ◌==◌, Bool, true, false, cond, List, [], ◌∷◌, ◌++◌, refl, sym, ap, ◌∙◌, subst, arith}
use Rattle.std.proofs.lemmas.Bool.{eqb-true}
use Rattle.moka_hist.specs.Finite.{times}
use Rattle.moka_hist.specs.Notices.{IsBefore}
use Rattle.moka_laws.proofs.Counting.{times_append, times_same}
use Rattle.moka_laws.proofs.Balance.{times_first, times_last}

-- the first number stands in the list, and the second one behind it
abbrev pub Before : List ℕ → ℕ → ℕ → Type 0
Before [] a b = ⊥
Before (x ∷ xs) a b = ((a ≡ x) × (0 < times b xs)) ⊎ Before xs a b

split : (b : ℕ) (xs : List ℕ) → 0 < times b xs → (mid : List ℕ) × (back : List ℕ) × (xs ≡ mid ++ b ∷ back)
split b [] h = absurd (omega arith)
split b (x ∷ xs) h = by (b == x) refl h (split b xs)
  where
    by : (t : Bool) → (b == x) ≡ t → 0 < cond t (times b xs + 1) (times b xs) →
        (0 < times b xs → (mid : List ℕ) × (back : List ℕ) × (xs ≡ mid ++ b ∷ back)) → (mid : List ℕ) × (back : List ℕ) × (x ∷ xs ≡ mid ++ b ∷ back)
    by true e h more = ([], xs, ap (λ v. v ∷ xs) (sym (eqb-true b x e)))
    by false e h more = let m = more h in (x ∷ m.0, m.1, ap (λ v. x ∷ v) m.2)

pub before_is : (xs : List ℕ) (a b : ℕ) → Before xs a b → IsBefore xs a b
before_is [] a b h = absurd h
before_is (x ∷ xs) a b (inl h) = let m = split b xs h.1 in ([], m.0, m.1, ap (λ v. v ∷ xs) (sym h.0) ∙ ap (λ v. a ∷ v) m.2)
before_is (x ∷ xs) a b (inr h) = let m = before_is xs a b h in (x ∷ m.0, m.1, m.2, ap (λ v. x ∷ v) m.3)

pub is_before : (xs : List ℕ) (a b : ℕ) → IsBefore xs a b → Before xs a b
is_before xs a b h = subst (λ v. Before v a b) (sym h.3) (by h.0)
  where
    by : (front : List ℕ) → Before (front ++ a ∷ h.1 ++ b ∷ h.2) a b
    by [] = inl (refl, omega (arith, times_append b h.1 (b ∷ h.2), times_same b h.2))
    by (x ∷ front) = inr (by front)

pub before_more : (xs ys : List ℕ) (a b : ℕ) → Before xs a b → Before (xs ++ ys) a b
before_more [] ys a b h = absurd h
before_more (x ∷ xs) ys a b (inl h) = inl (h.0, omega (arith, times_append b xs ys, h.1))
before_more (x ∷ xs) ys a b (inr h) = inr (before_more xs ys a b h)

pub before_last : (xs : List ℕ) (a b : ℕ) → 0 < times a xs → Before (xs ++ b ∷ []) a b
before_last [] a b h = absurd (omega arith)
before_last (x ∷ xs) a b h = by (a == x) refl h (before_last xs a b)
  where
    by : (t : Bool) → (a == x) ≡ t → 0 < cond t (times a xs + 1) (times a xs) → (0 < times a xs → Before (xs ++ b ∷ []) a b) →
        Before (x ∷ xs ++ b ∷ []) a b
    by true e h more = inl (eqb-true a x e, omega (arith, times_append b xs (b ∷ []), times_same b []))
    by false e h more = inr (more h)

-- with one number more at the end, that one is the second, or both stood before
pub before_split : (xs : List ℕ) (a b c : ℕ) → Before (xs ++ c ∷ []) a b → Before xs a b ⊎ ((b ≡ c) × (0 < times a xs))
before_split [] a b c (inl h) = absurd (omega (arith, h.1))
before_split [] a b c (inr h) = absurd h
before_split (x ∷ xs) a b c (inl h) = by (b == c) refl
  where
    first : 0 < times a (x ∷ xs)
    first = subst (λ v. 0 < times a (v ∷ xs)) h.0 (omega (arith, times_same a xs))

    by : (t : Bool) → (b == c) ≡ t → Before (x ∷ xs) a b ⊎ ((b ≡ c) × (0 < times a (x ∷ xs)))
    by true e = inr (eqb-true b c e, first)
    by false e = inl (inl (h.0, omega (arith, times_last b c xs, ap (λ v. cond {A = ℕ} v 1 0) e, h.1)))
before_split (x ∷ xs) a b c (inr h) = by (before_split xs a b c h)
  where
    by : Before xs a b ⊎ ((b ≡ c) × (0 < times a xs)) → Before (x ∷ xs) a b ⊎ ((b ≡ c) × (0 < times a (x ∷ xs)))
    by (inl k) = inl (inr k)
    by (inr k) = inr (k.0, omega (arith, times_first a x xs, k.1))

pub before_has : (xs : List ℕ) (a b : ℕ) → Before xs a b → (0 < times a xs) × (0 < times b xs)
before_has [] a b h = absurd h
before_has (x ∷ xs) a b (inl h) =
    (subst (λ v. 0 < times a (v ∷ xs)) h.0 (omega (arith, times_same a xs)), omega (arith, times_first b x xs, h.1))
before_has (x ∷ xs) a b (inr h) =
    let m = before_has xs a b h in (omega (arith, times_first a x xs, m.0), omega (arith, times_first b x xs, m.1))
