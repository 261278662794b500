-- Keys of lists.
use Rattle.std.proofs.Common.{◌≡◌, Bool, true, false, ◌||◌, List, [], ◌∷◌, ◌++◌, refl, sym, ap, ◌∙◌}
use Rattle.std.proofs.lemmas.Bool.{false≢true}
use Rattle.std.specs.Cmp.{IsEquivalence}
use Rattle.std.specs.List.{AllByRecursion, IsDistinct}
use Rattle.std.specs.Set.{is_member}

pub or_true : (t u : Bool) → u ≡ true → (t || u) ≡ true
or_true true u e = refl
or_true false u e = e

pub or_right : (t u : Bool) → t ≡ false → (t || u) ≡ true → u ≡ true
or_right t u f e = sym (ap (λ x. x || u) f) ∙ e

pub all_both : {K : Type 0} (P Q : K → Type 0) (ks : List K) → AllByRecursion P ks → AllByRecursion Q ks → AllByRecursion (λ k. P k × Q k) ks
all_both P Q [] a b = tt
all_both P Q (k ∷ ks) a b = ((a.0, b.0), all_both P Q ks a.1 b.1)

pub all_mapped : {K : Type 0} (P Q : K → Type 0) → ((k : K) → P k → Q k) → (ks : List K) → AllByRecursion P ks → AllByRecursion Q ks
all_mapped P Q f [] a = tt
all_mapped P Q f (k ∷ ks) a = (f k a.0, all_mapped P Q f ks a.1)

-- all but the last, and the last
pub all_init : {K : Type 0} (P : K → Type 0) (ks : List K) (k : K) → AllByRecursion P (ks ++ k ∷ []) → AllByRecursion P ks × P k
all_init P [] k a = (tt, a.0)
all_init P (x ∷ xs) k a = let rest = all_init P xs k a.1 in ((a.0, rest.0), rest.1)

module _ {K : Type 0} (eq : K → K → Bool) where
  -- what follows from each key that a member may be equal to
  pub member_has : (P : K → Type 0) (R : Type 0) (q : K) → ((k : K) → eq q k ≡ true → P k → R) → (ks : List K) → AllByRecursion P ks → is_member eq ks q ≡ true → R
  member_has P R q f [] a m = absurd (false≢true m)
  member_has P R q f (k ∷ ks) a m = by (member_has P R q f ks a.1) (eq q k) refl m
    where
      by : (is_member eq ks q ≡ true → R) → (t : Bool) → eq q k ≡ t → (t || is_member eq ks q) ≡ true → R
      by rest true e n = f k e a.0
      by rest false e n = rest n

  pub member_last : (ks : List K) (k q : K) → is_member eq (ks ++ k ∷ []) q ≡ (is_member eq ks q || eq q k)
  member_last [] k q = by (eq q k)
    where
      by : (t : Bool) → (t || false) ≡ t
      by true = refl
      by false = refl
  member_last (x ∷ xs) k q = by (eq q x) (member_last xs k q)
    where
      by : (t : Bool) → is_member eq (xs ++ k ∷ []) q ≡ (is_member eq xs q || eq q k) → (t || is_member eq (xs ++ k ∷ []) q) ≡ ((t || is_member eq xs q) || eq q k)
      by true e = refl
      by false e = e

  pub distinct_none : IsDistinct eq []
  unfolding IsDistinct
  distinct_none = tt

  pub distinct_more : (x : K) (xs : List K) → AllByRecursion (λ y. eq x y ≡ false) xs → IsDistinct eq xs → IsDistinct eq (x ∷ xs)
  unfolding IsDistinct
  distinct_more x xs apart d = (apart, d)

  pub distinct_init : (ks : List K) (k : K) → IsDistinct eq (ks ++ k ∷ []) → IsDistinct eq ks × AllByRecursion (λ x. eq x k ≡ false) ks
  unfolding IsDistinct
  distinct_init [] k d = (tt, tt)
  distinct_init (x ∷ xs) k d =
      let all = all_init (λ y. eq x y ≡ false) xs k d.0 in
      let rest = distinct_init xs k d.1 in ((all.0, rest.0), (all.1, rest.1))

  -- each key of a list is a member
  pub all_member : IsEquivalence eq → (ks : List K) → AllByRecursion (λ k. is_member eq ks k ≡ true) ks
  all_member laws [] = tt
  all_member laws (x ∷ xs) = (
    ap (λ t. t || is_member eq xs x) (laws.refl x),
    all_mapped (λ k. is_member eq xs k ≡ true) (λ k. is_member eq (x ∷ xs) k ≡ true) (λ k m. or_true (eq k x) (is_member eq xs k) m) xs (all_member laws xs),
  )
