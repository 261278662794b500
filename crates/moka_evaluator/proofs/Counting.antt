-- How many numbers pass a test.
use Rattle.std.proofs.Common.{◌≡◌, ◌≢◌, ◌<◌, ◌≤◌, ◌+◌, ℕ, zero, suc, ◌==◌, Bool, true, false, cond, List, [], ◌∷◌, ◌++◌, length, Some, refl, sym, ap, ◌∙◌, arith, length-append}
use Rattle.std.proofs.lemmas.Bool.{eqb-true, eq-eqb, false≢true}
use Rattle.std.proofs.lemmas.Option.{slice_get_within}
use Rattle.moka_evaluator.specs.Evaluator.{numbers_to}
use Rattle.moka_evaluator.specs.Plain.{rule_at}
use Rattle.moka_evaluator.specs.declared.rules.Rule.{Rule}
use Rattle.moka_evaluator.proofs.Basics.{none_some}

pub numbers_same : (n : ℕ) (f g : ℕ → Bool) → ((k : ℕ) → k ≤ n → f k ≡ g k) → numbers_to n f ≡ numbers_to n g
numbers_same zero f g same = refl
numbers_same (suc n) f g same =
    let here : f (suc n) ≡ g (suc n) = same (suc n) (omega arith) in
    let before : numbers_to n f ≡ numbers_to n g = numbers_same n f g (λ k le. same k (omega (arith, le))) in
    λ i. before i ++ cond (here i) (suc n ∷ []) []

-- the same number of them where the tests are the same
pub count_same : (n : ℕ) (f g : ℕ → Bool) → ((k : ℕ) → f k ≡ g k) → length (numbers_to n f) ≡ length (numbers_to n g)
count_same n f g same = ap length (numbers_same n f g (λ k le. same k))

-- none where no number passes
pub count_none : (n : ℕ) → length (numbers_to n (λ k. false)) ≡ 0
count_none zero = refl
count_none (suc n) =
    length-append (numbers_to n (λ k. false)) [] ∙ (let before : length (numbers_to n (λ k. false)) ≡ 0 = count_none n in nothing _ before)
  where
    nothing : (x : ℕ) → x ≡ 0 → x + 0 ≡ 0
    nothing x e = omega (arith, e)

pub count_most : (n : ℕ) (f : ℕ → Bool) → length (numbers_to n f) ≤ n
count_most zero f = omega arith
count_most (suc n) f = by (count_most n f) (f (suc n))
  where
    by : length (numbers_to n f) ≤ n → (b : Bool) → length (numbers_to n f ++ cond b (suc n ∷ []) []) ≤ suc n
    by before true = rw (length-append (numbers_to n f) (suc n ∷ [])) (omega (arith, before))
    by before false = rw (length-append (numbers_to n f) []) (omega (arith, before))

-- one more where one more number passes
pub count_more : (n : ℕ) (f g : ℕ → Bool) (q : ℕ) → 0 < q → q ≤ n → f q ≡ false → g q ≡ true → ((k : ℕ) → q ≢ k → f k ≡ g k) →
    length (numbers_to n g) ≡ length (numbers_to n f) + 1
count_more zero f g q positive le fails passes others = absurd (omega (arith, positive, le))
count_more (suc n) f g q positive le fails passes others =
    by (count_more n f g q positive) (q == suc n) refl
  where
    last : (b : Bool) (h : ℕ → Bool) → h (suc n) ≡ b → length (numbers_to (suc n) h) ≡ length (numbers_to n h) + length (cond b (suc n ∷ []) [])
    last b h e = ap (λ x. length (numbers_to n h ++ cond x (suc n ∷ []) [])) e ∙ length-append (numbers_to n h) (cond b (suc n ∷ []) [])

    by : (q ≤ n → f q ≡ false → g q ≡ true → ((k : ℕ) → q ≢ k → f k ≡ g k) → length (numbers_to n g) ≡ length (numbers_to n f) + 1) →
        (b : Bool) → (q == suc n) ≡ b → length (numbers_to (suc n) g) ≡ length (numbers_to (suc n) f) + 1
    by before true e =
        let same : q ≡ suc n = eqb-true q (suc n) e in
        let g_last = last true g (ap g (sym same) ∙ passes) in
        let f_last = last false f (ap f (sym same) ∙ fails) in
        let equal : length (numbers_to n f) ≡ length (numbers_to n g) =
        ap length (numbers_same n f g (λ k low. others k (λ is. beyond same k low is))) in
        g_last ∙ sum_so (length (numbers_to n g)) (length (numbers_to n f)) (length (numbers_to (suc n) f)) equal f_last
      where
        beyond : q ≡ suc n → (k : ℕ) → k ≤ n → q ≡ k → ⊥
        beyond same k low is = omega (arith, same, low, is)

        sum_so : (x y z : ℕ) → y ≡ x → z ≡ y + 0 → x + 1 ≡ z + 1
        sum_so x y z a b = omega (arith, a, b)
    by before false e =
        let apart : q ≢ suc n = λ is. false≢true (sym e ∙ eq-eqb q (suc n) is) in
        let more = before (within apart) fails passes others in
        let same = others (suc n) apart in
        let g_last = last (g (suc n)) g refl in
        let f_last = last (g (suc n)) f same in
        g_last ∙ sum_so (length (numbers_to n g)) (length (numbers_to n f)) (length (cond (g (suc n)) (suc n ∷ []) []))
        (length (numbers_to (suc n) f)) more f_last
      where
        within : q ≢ suc n → q ≤ n
        within apart = omega (arith, le, apart)

        sum_so : (x y z w : ℕ) → x ≡ y + 1 → w ≡ y + z → x + z ≡ w + 1
        sum_so x y z w a b = omega (arith, a, b)

-- a rule's number is at most how many rules there are
pub rule_within : (rules : List Rule) (r : ℕ) (rule : Rule) → rule_at rules r ≡ Some rule → (0 < r) × (r ≤ length rules)
rule_within rules zero rule e = absurd (none_some e)
rule_within rules (suc n) rule e =
    let less : n < length rules = slice_get_within rules n rule e in (omega arith, omega (arith, less))
