-- Lists by their places, and the fronts of a list.
use Rattle.std.proofs.Common.{◌≡◌, ◌≢◌, ◌⊎◌, ℕ, ◌+◌, ◌<◌, ◌==◌, Bool, true, false, cond, List, [], ◌∷◌, ◌++◌, map, length, set, Some, None, zero, suc, inl, inr, refl, sym, ap, ◌∙◌, arith, append_assoc, slice_index_or}
use Rattle.std.proofs.lemmas.Bool.Decides.{eqb_tells}
use Rattle.std.proofs.lemmas.List.{append-nil}
use Rattle.std.specs.List.{slice_get}
use Rattle.std.specs.Option.{option_map}
use mathlib.Core.List.{IsPrefix}
use Rattle.moka_hist.specs.Finite.{times}

pub no_item : {A : Type 0} {x : A} → None ≡ Some x → ⊥
no_item e = cc

pub one_item : {A : Type 0} {x y : A} → Some x ≡ Some y → x ≡ y
one_item e = cc

module _ {A : Type 0} where
  pub get_below : (xs : List A) (k : ℕ) (x : A) → slice_get xs k ≡ Some x → k < length xs
  get_below [] k x e = absurd (no_item e)
  get_below (y ∷ xs) zero x e = omega arith
  get_below (y ∷ xs) (suc k) x e = let rest = get_below xs k x e in omega (arith, rest)

  pub get_or : (xs : List A) (k : ℕ) (x d : A) → slice_get xs k ≡ Some x → slice_index_or xs k d ≡ x
  get_or [] k x d e = absurd (no_item e)
  get_or (y ∷ xs) zero x d e = one_item e
  get_or (y ∷ xs) (suc k) x d e = get_or xs k x d e

  pub set_get : (xs : List A) (k : ℕ) (x : A) → k < length xs → slice_get (set xs k x) k ≡ Some x
  set_get [] k x below = absurd (omega arith)
  set_get (y ∷ xs) zero x below = refl
  set_get (y ∷ xs) (suc k) x below = set_get xs k x (omega arith)

  pub other_get : (xs : List A) (k j : ℕ) (x : A) → j ≢ k → slice_get (set xs k x) j ≡ slice_get xs j
  other_get [] k j x other = refl
  other_get (y ∷ xs) zero zero x other = absurd (other refl)
  other_get (y ∷ xs) zero (suc j) x other = refl
  other_get (y ∷ xs) (suc k) zero x other = refl
  other_get (y ∷ xs) (suc k) (suc j) x other = other_get xs k j x (λ e. other (ap suc e))

  -- what stands in a list in which an item was set
  pub set_from : (xs : List A) (k : ℕ) (x : A) → k < length xs → (j : ℕ) (y : A) → slice_get (set xs k x) j ≡ Some y →
      ((j ≡ k) × (y ≡ x)) ⊎ ((j ≢ k) × (slice_get xs j ≡ Some y))
  set_from xs k x below j y at = elim (eqb_tells j k) [
    | inl p ↦ inl (p.1, one_item (sym at ∙ (ap (slice_get (set xs k x)) p.1 ∙ set_get xs k x below)))
    | inr p ↦ inr (p.1, sym (other_get xs k j x p.1) ∙ at)
  ]

  -- a list is what stands at its places
  pub list_is : (xs ys : List A) → ((k : ℕ) → slice_get xs k ≡ slice_get ys k) → xs ≡ ys
  list_is [] [] same = refl
  list_is [] (y ∷ ys) same = absurd (no_item (same 0))
  list_is (x ∷ xs) [] same = absurd (no_item (sym (same 0)))
  list_is (x ∷ xs) (y ∷ ys) same = ap (λ v. v ∷ xs) (one_item (same 0)) ∙ ap (λ vs. y ∷ vs) (list_is xs ys (λ k. same (suc k)))

  -- the item at a place before the second
  pub first_get : (x : A) (xs : List A) (p : ℕ) (y : A) → p < 1 → slice_get (x ∷ xs) p ≡ Some y → y ≡ x
  first_get x xs zero y below e = sym (one_item e)
  first_get x xs (suc p) y below e = absurd (omega (arith, below))

  pub front_get : (xs ys : List A) (k : ℕ) (x : A) → slice_get xs k ≡ Some x → slice_get (xs ++ ys) k ≡ Some x
  front_get [] ys k x e = absurd (no_item e)
  front_get (y ∷ xs) ys zero x e = e
  front_get (y ∷ xs) ys (suc k) x e = front_get xs ys k x e

  pub last_get : (xs : List A) (x : A) → slice_get (xs ++ x ∷ []) (length xs) ≡ Some x
  last_get [] x = refl
  last_get (y ∷ xs) x = last_get xs x

  -- what stands in a list that got one item more
  pub more_get : (xs : List A) (x : A) (k : ℕ) (y : A) → slice_get (xs ++ x ∷ []) k ≡ Some y →
      (slice_get xs k ≡ Some y) ⊎ ((k ≡ length xs) × (y ≡ x))
  more_get [] x zero y e = inr (refl, sym (one_item e))
  more_get [] x (suc k) y e = absurd (no_item e)
  more_get (z ∷ xs) x zero y e = inl e
  more_get (z ∷ xs) x (suc k) y e = elim (more_get xs x k y e) [ inl at ↦ inl at | inr at ↦ inr (ap suc at.0, at.1) ]

  pub prefix_through : (xs ys zs : List A) → IsPrefix xs ys → IsPrefix ys zs → IsPrefix xs zs
  prefix_through xs ys zs p q = (p.0 ++ q.0, sym (append_assoc xs p.0 q.0) ∙ (ap (λ w. w ++ q.0) p.1 ∙ q.1))

  pub prefix_self : (xs : List A) → IsPrefix xs xs
  prefix_self xs = ([], append-nil xs)

  -- the fronts of a list that got one item more
  pub prefix_more : (xs ys : List A) (y : A) → IsPrefix xs (ys ++ y ∷ []) → IsPrefix xs ys ⊎ (xs ≡ ys ++ y ∷ [])
  prefix_more [] ys y p = inl (ys, refl)
  prefix_more (x ∷ xs) [] y p = by xs p.0 p.1
    where
      by : (zs rest : List A) → x ∷ (zs ++ rest) ≡ y ∷ [] → IsPrefix (x ∷ zs) [] ⊎ (x ∷ zs ≡ y ∷ [])
      by [] rest e = inr (ap (λ v. v ∷ []) (cc (e)))
      by (z ∷ zs) rest e = absurd (cc (e))
  prefix_more (x ∷ xs) (z ∷ ys) y p =
      let heads : x ≡ z = cc (p.1) in
      let tails : xs ++ p.0 ≡ ys ++ y ∷ [] = cc (p.1) in
      elim (prefix_more xs ys y (p.0, tails)) [
        | inl r ↦ inl (r.0, ap (λ v. v ∷ (xs ++ r.0)) heads ∙ ap (λ vs. z ∷ vs) r.1)
        | inr e ↦ inr (ap (λ v. v ∷ xs) heads ∙ ap (λ vs. z ∷ vs) e)
      ]

pub map_get : {A B : Type 0} (f : A → B) (xs : List A) (k : ℕ) → slice_get (map f xs) k ≡ option_map f (slice_get xs k)
map_get f [] k = refl
map_get f (x ∷ xs) zero = refl
map_get f (x ∷ xs) (suc k) = map_get f xs k

pub map_length : {A B : Type 0} (f : A → B) (xs : List A) → length (map f xs) ≡ length xs
map_length f [] = refl
map_length f (x ∷ xs) = ap suc (map_length f xs)

pub map_more : {A B : Type 0} (f : A → B) (xs : List A) (x : A) → map f (xs ++ x ∷ []) ≡ map f xs ++ f x ∷ []
map_more f [] x = refl
map_more f (y ∷ xs) x = ap (λ v. f y ∷ v) (map_more f xs x)

pub map_set : {A B : Type 0} (f : A → B) (xs : List A) (k : ℕ) (x : A) → map f (set xs k x) ≡ set (map f xs) k (f x)
map_set f [] k x = refl
map_set f (y ∷ xs) zero x = refl
map_set f (y ∷ xs) (suc k) x = ap (λ v. f y ∷ v) (map_set f xs k x)

-- an item of a list that a function was applied to
pub unmap_get : {A B : Type 0} (f : A → B) (xs : List A) (k : ℕ) (y : B) → slice_get (map f xs) k ≡ Some y →
    (x : A) × (slice_get xs k ≡ Some x) × (y ≡ f x)
unmap_get f [] k y e = absurd (no_item e)
unmap_get f (x ∷ xs) zero y e = (x, refl, sym (one_item e))
unmap_get f (x ∷ xs) (suc k) y e = unmap_get f xs k y e

-- how often a number stands in a list that got one more
pub times_more : (n : ℕ) (xs : List ℕ) (x : ℕ) → times n (xs ++ x ∷ []) ≡ cond (n == x) (times n xs + 1) (times n xs)
times_more n [] x = refl
times_more n (y ∷ xs) x = ap (λ m. cond (n == y) (m + 1) m) (times_more n xs x) ∙ swap (n == y) (n == x) (times n xs)
  where
    swap : (a b : Bool) (m : ℕ) → cond a (cond b (m + 1) m + 1) (cond b (m + 1) m) ≡ cond b (cond a (m + 1) m + 1) (cond a (m + 1) m)
    swap true true m = refl
    swap true false m = refl
    swap false true m = refl
    swap false false m = refl
