-- Numbers in order: those that a list has, each once, are in one order alone.
use Rattle.std.proofs.Common.{◌≡◌, ◌≢◌, ◌<◌, ◌≤◌, ◌+◌, ℕ, zero, suc, ◌==◌, nat_eq, Bool, true, false, cond, ◌||◌, List, [], ◌∷◌, ◌++◌, length, refl, sym, ap, ◌∙◌, subst, arith}
use Rattle.std.proofs.lemmas.Bool.{eqb-true, eq-eqb, false≢true}
use Rattle.std.proofs.lemmas.List.Folds.{list_any-append}
use Rattle.std.specs.List.{list_any}
use Rattle.std.specs.List.Sorted.{IsStrictlyIncreasing}
use Rattle.std.specs.Prelude.{slice_index}
use Rattle.moka_evaluator.specs.Evaluator.{numbers_to}

-- the number is one of the list
abbrev pub has : ℕ → List ℕ → Bool
has q xs = list_any (nat_eq q) xs

-- each is greater than the one before, and the first than this number
abbrev pub Rises : ℕ → List ℕ → Type 0
Rises n [] = Unit {0}
Rises n (x ∷ xs) = (n < x) × Rises x xs

or_first : (a b : Bool) → a ≡ true → (a || b) ≡ true
or_first true b e = refl
or_first false b e = absurd (false≢true e)

or_second : (a b : Bool) → b ≡ true → (a || b) ≡ true
or_second true b e = refl
or_second false b e = e

pub rises_from : (n : ℕ) (xs : List ℕ) → (0 < length xs → n < slice_index xs 0) → IsStrictlyIncreasing xs → Rises n xs
rises_from n [] first up = tt
rises_from n (x ∷ xs) first up = (
  first (omega arith),
  rises_from x xs (λ some. up 0 (omega (arith, some)))
      (λ k less. let same : suc k + 1 ≡ suc (k + 1) = omega arith in
      subst (λ m. slice_index xs k < slice_index (x ∷ xs) m) same (up (suc k) (omega (arith, less)))),
)

-- what is in such a list is greater than the number before it
above : (n : ℕ) (xs : List ℕ) (q : ℕ) → Rises n xs → has q xs ≡ true → n < q
above n [] q rises e = absurd (false≢true e)
above n (x ∷ xs) q rises e = by (above x xs q rises.1) (q == x) refl e
  where
    by : (has q xs ≡ true → x < q) → (b : Bool) → (q == x) ≡ b → (b || has q xs) ≡ true → n < q
    by more true same e = let is : q ≡ x = eqb-true q x same in let first = rises.0 in omega (arith, is, first)
    by more false other e = let then : x < q = more e in let first = rises.0 in omega (arith, then, first)

-- nor is the number itself
not_itself : (n : ℕ) (xs : List ℕ) → Rises n xs → has n xs ≡ false
not_itself n xs rises = by (has n xs) refl
  where
    by : (b : Bool) → has n xs ≡ b → b ≡ false
    by true e = let less : n < n = above n xs n rises e in absurd (omega (arith, less))
    by false e = refl

at_least : (x y : ℕ) (ys : List ℕ) → Rises y ys → has x (y ∷ ys) ≡ true → y ≤ x
at_least x y ys rises e = by (x == y) refl e
  where
    by : (b : Bool) → (x == y) ≡ b → (b || has x ys) ≡ true → y ≤ x
    by true same e = let is : x ≡ y = eqb-true x y same in omega (arith, is)
    by false other e = let less : y < x = above y ys x rises e in omega (arith, less)

pub one_order : (n : ℕ) (xs ys : List ℕ) → Rises n xs → Rises n ys → ((q : ℕ) → has q xs ≡ has q ys) → xs ≡ ys
one_order n [] [] r s same = refl
one_order n [] (y ∷ ys) r s same = absurd (false≢true (same y ∙ or_first (y == y) (has y ys) (eq-eqb y y refl)))
one_order n (x ∷ xs) [] r s same = absurd (false≢true (sym (same x) ∙ or_first (x == x) (has x xs) (eq-eqb x x refl)))
one_order n (x ∷ xs) (y ∷ ys) r s same =
    let rest = one_order x xs ys r.1 (subst (λ k. Rises k ys) (sym equal) s.1) tails in λ i. equal i ∷ rest i
  where
    equal : x ≡ y
    equal =
        let low : y ≤ x = at_least x y ys s.1 (sym (same x) ∙ or_first (x == x) (has x xs) (eq-eqb x x refl)) in
        let high : x ≤ y = at_least y x xs r.1 (same y ∙ or_first (y == y) (has y ys) (eq-eqb y y refl)) in
        omega (arith, low, high)

    tails : (q : ℕ) → has q xs ≡ has q ys
    tails q = by (q == x) refl (same q)
      where
        by : (b : Bool) → (q == x) ≡ b → (b || has q xs) ≡ (q == y || has q ys) → has q xs ≡ has q ys
        by true here all =
            let is : q ≡ x = eqb-true q x here in
            ap (λ k. has k xs) is ∙ not_itself x xs r.1 ∙ sym (not_itself y ys s.1) ∙ ap (λ k. has k ys) (sym (is ∙ equal))
        by false there all = all ∙ ap (λ b. b || has q ys) (ap (λ k. q == k) (sym equal) ∙ there)

-- ---- the numbers up to one

rises_push : (m : ℕ) (xs : List ℕ) (z : ℕ) → m < z → ((q : ℕ) → has q xs ≡ true → q < z) → Rises m xs → Rises m (xs ++ z ∷ [])
rises_push m [] z less all rises = (less, tt)
rises_push m (x ∷ xs) z less all rises = (
  rises.0,
  rises_push x xs z (all x (or_first (x == x) (has x xs) (eq-eqb x x refl)))
      (λ q e. all q (or_second (q == x) (has q xs) e)) rises.1,
)

-- they pass the test, and are in range
numbers_pass : (n : ℕ) (test : ℕ → Bool) (q : ℕ) → has q (numbers_to n test) ≡ true → (q ≤ n) × (test q ≡ true)
numbers_pass zero test q e = absurd (false≢true e)
numbers_pass (suc n) test q e = by (numbers_pass n test q) (test (suc n)) refl (has q (numbers_to n test)) refl
    (sym (list_any-append (nat_eq q) (numbers_to n test) (cond (test (suc n)) (suc n ∷ []) [])) ∙ e)
  where
    last : (b : Bool) → (q == suc n) ≡ b → (b || false) ≡ true → q ≡ suc n
    last true same e = eqb-true q (suc n) same
    last false other e = absurd (false≢true e)

    by : (has q (numbers_to n test) ≡ true → (q ≤ n) × (test q ≡ true)) → (b : Bool) → test (suc n) ≡ b → (c : Bool) →
        has q (numbers_to n test) ≡ c → (c || has q (cond (test (suc n)) (suc n ∷ []) [])) ≡ true → (q ≤ suc n) × (test q ≡ true)
    by earlier b passes true before e = let old = earlier before in let low = old.0 in (omega (arith, low), old.1)
    by earlier true passes false before e =
        let is : q ≡ suc n = last (q == suc n) refl (sym (ap (λ t. has q (cond t (suc n ∷ []) [])) passes) ∙ e) in
        (omega (arith, is), ap test is ∙ passes)
    by earlier false fails false before e = absurd (false≢true (sym (ap (λ t. has q (cond t (suc n ∷ []) [])) fails) ∙ e))

none_more : (m : ℕ) (xs : List ℕ) → Rises m xs → Rises m (xs ++ [])
none_more m [] rises = tt
none_more m (x ∷ xs) rises = (rises.0, none_more x xs rises.1)

pub numbers_rise : (n : ℕ) (test : ℕ → Bool) → Rises 0 (numbers_to n test)
numbers_rise zero test = tt
numbers_rise (suc n) test = by (numbers_rise n test) (test (suc n))
  where
    by : Rises 0 (numbers_to n test) → (b : Bool) → Rises 0 (numbers_to n test ++ cond b (suc n ∷ []) [])
    by rises true = rises_push 0 (numbers_to n test) (suc n) (omega arith)
        (λ q e. let low = (numbers_pass n test q e).0 in omega (arith, low)) rises
    by rises false = none_more 0 (numbers_to n test) rises

numbers_have : (n : ℕ) (test : ℕ → Bool) (q : ℕ) → 0 < q → q ≤ n → test q ≡ true → has q (numbers_to n test) ≡ true
numbers_have zero test q positive low passes = absurd (omega (arith, positive, low))
numbers_have (suc n) test q positive low passes =
    list_any-append (nat_eq q) (numbers_to n test) (cond (test (suc n)) (suc n ∷ []) []) ∙ by (numbers_have n test q positive) (q == suc n) refl
  where
    by : (q ≤ n → test q ≡ true → has q (numbers_to n test) ≡ true) → (b : Bool) → (q == suc n) ≡ b →
        (has q (numbers_to n test) || has q (cond (test (suc n)) (suc n ∷ []) [])) ≡ true
    by before true same =
        or_second (has q (numbers_to n test)) (has q (cond (test (suc n)) (suc n ∷ []) []))
        (ap (λ t. has q (cond t (suc n ∷ []) [])) (sym (ap test (eqb-true q (suc n) same)) ∙ passes) ∙ or_first (q == suc n) false same)
    by before false other =
        or_first (has q (numbers_to n test)) (has q (cond (test (suc n)) (suc n ∷ []) []))
        (before (within (λ is. false≢true (sym other ∙ eq-eqb q (suc n) is))) passes)
      where
        within : q ≢ suc n → q ≤ n
        within apart = omega (arith, low, apart)

same_truth : (a b : Bool) → (a ≡ true → b ≡ true) → (b ≡ true → a ≡ true) → a ≡ b
same_truth true b to from = sym (to refl)
same_truth false true to from = absurd (false≢true (from refl))
same_truth false false to from = refl

-- a list of those that pass, in order
pub numbers_are : (n : ℕ) (test : ℕ → Bool) (xs : List ℕ) → IsStrictlyIncreasing xs →
    ((q : ℕ) → test q ≡ true → (0 < q) × (q ≤ n)) → ((q : ℕ) → has q xs ≡ true → test q ≡ true) →
    ((q : ℕ) → test q ≡ true → has q xs ≡ true) → xs ≡ numbers_to n test
numbers_are n test xs up range pass have = one_order 0 xs (numbers_to n test)
    (rises_from 0 xs (λ some. (range (slice_index xs 0) (pass (slice_index xs 0) (first xs some))).0) up)
    (numbers_rise n test)
    (λ q. same_truth (has q xs) (has q (numbers_to n test))
    (λ e. let in_range = range q (pass q e) in numbers_have n test q in_range.0 in_range.1 (pass q e))
    (λ e. have q (numbers_pass n test q e).1))
  where
    first : (xs : List ℕ) → 0 < length xs → has (slice_index xs 0) xs ≡ true
    first [] some = absurd (omega (arith, some))
    first (x ∷ xs) some = or_first (x == x) (has x xs) (eq-eqb x x refl)
