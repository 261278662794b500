-- Whether each operand is an earlier rule.
use Rattle.std.proofs.Common.{◌≡◌, ◌⊎◌, inl, inr, ℕ, zero, suc, ◌+◌, ◌<◌, ◌≤◌, nat_lt, Bool, true, false, ◌&&◌, List, length, get_or, slice_get, Some, None, IsTrue, refl, sym, ap, ◌∙◌, subst, arith}
use Rattle.std.specs.Bool.{Decides}
use Rattle.std.proofs.lemmas.Bool.{false≢true, leb-true, le-leb, ltb-true, ltb-false}
use Rattle.std.proofs.lemmas.Option.{get_or_from_slice_get, slice_get-get_or, slice_get_within}
use Rattle.std.proofs.lemmas.Bool.Decides.{Decides-and, Decides-ltb}
use Rattle.moka_evaluator.specs.Plain.{BuildsOn, IsAcyclic, IsOneOf, are_earlier, is_earlier, rule_at}
use Rattle.moka_evaluator.specs.declared.rules.Rule.{Rule}
use Rattle.moka_evaluator.specs.declared.rules.Rule.TheVariants.{Const, Add, Mul, Min, Max, If}
use Rattle.moka_evaluator.proofs.Basics.{none_some}
use Rattle.moka_evaluator.proofs.Worths.{builds_so}

earlier_Decides : (count a : ℕ) → Decides (is_earlier count a) (IsOneOf count a)
earlier_Decides count a = Decides-and _ _ (Decides-ltb 0 a) (leb-true a count, le-leb a count)

always : Decides true (Unit {0})
always = (λ _. tt, λ _. refl)

pub builds_Decides : (count : ℕ) (r : Rule) → Decides (are_earlier count r) (BuildsOn (IsOneOf count) r)
builds_Decides count (Const n) = always
builds_Decides count (Add a b) = Decides-and _ _ (earlier_Decides count a) (earlier_Decides count b)
builds_Decides count (Mul a b) = Decides-and _ _ (earlier_Decides count a) (earlier_Decides count b)
builds_Decides count (Min a b) = Decides-and _ _ (earlier_Decides count a) (earlier_Decides count b)
builds_Decides count (Max a b) = Decides-and _ _ (earlier_Decides count a) (earlier_Decides count b)
builds_Decides count (If a b c) =
    let d = Decides-and _ _ (Decides-and _ _ (earlier_Decides count a) (earlier_Decides count b)) (earlier_Decides count c) in
    (λ h. let e = d.0 h in (e.0.0, e.0.1, e.1), λ h. d.1 ((h.0, h.1), h.2))

less : (count a : ℕ) → IsOneOf count a → (0 < a) × (a < suc count)
less count a is = (is.0, omega (arith, is.1))

one_of : (count a : ℕ) → (0 < a) × (a < suc count) → IsOneOf count a
one_of count a is = (is.0, omega (arith, is.1))

-- where each passes the test they are acyclic
pub all_earlier : (rules : List Rule) → ((k : ℕ) (rule : Rule) → slice_get rules k ≡ Some rule → are_earlier k rule ≡ true) →
    IsAcyclic rules
all_earlier rules all zero rule none = absurd (none_some none)
all_earlier rules all (suc n) rule at =
    builds_so (IsOneOf n) (λ a. (0 < a) × (a < suc n)) rule (less n) ((builds_Decides n rule).0 (all n rule at))

-- and where one doesn't they aren't
pub not_earlier : (rules : List Rule) (n : ℕ) (rule : Rule) → slice_get rules n ≡ Some rule → are_earlier n rule ≡ false →
    IsAcyclic rules → ⊥
not_earlier rules n rule at fails acyclic =
    false≢true (sym fails ∙ (builds_Decides n rule).1
    (builds_so (λ a. (0 < a) × (a < suc n)) (IsOneOf n) rule (one_of n) (acyclic (suc n) rule at)))

-- ---- one rule after the other

-- each of so many rules passes the test
abbrev pub PassTo : List Rule → ℕ → Type 0
PassTo rules n = (k : ℕ) (rule : Rule) → k < n → slice_get rules k ≡ Some rule → are_earlier k rule ≡ true

pub pass_more : (rules : List Rule) (n : ℕ) (d : Rule) → PassTo rules n → are_earlier n (get_or rules n d) ≡ true → PassTo rules (n + 1)
pass_more rules n d pass here k rule less at = by (nat_lt k n) refl
  where
    by : (b : Bool) → nat_lt k n ≡ b → are_earlier k rule ≡ true
    by true below = pass k rule (ltb-true k n below) at
    by false above =
        let over : n ≤ k = ltb-false k n above in
        let same : k ≡ n = omega (arith, less, over) in
        ap (are_earlier k) (sym (get_or_from_slice_get rules k rule d at)) ∙
        ap (λ m. are_earlier m (get_or rules m d)) same ∙ here

pub all_pass : (rules : List Rule) (n : ℕ) → length rules ≤ n → PassTo rules n → IsAcyclic rules
all_pass rules n over pass = all_earlier rules (λ k rule at. pass k rule (within k rule at) at)
  where
    within : (k : ℕ) (rule : Rule) → slice_get rules k ≡ Some rule → k < n
    within k rule at = let less : k < length rules = slice_get_within rules k rule at in omega (arith, less, over)

pub one_fails : (rules : List Rule) (n : ℕ) (d : Rule) → n < length rules → are_earlier n (get_or rules n d) ≡ false → IsAcyclic rules → ⊥
one_fails rules n d less fails = not_earlier rules n (get_or rules n d) (slice_get-get_or rules n d less) fails
