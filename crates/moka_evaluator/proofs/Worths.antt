-- Plain values, and what follows from values that were handed down.
use Rattle.std.proofs.Common.{◌≡◌, ◌≢◌, ◌<◌, ◌≤◌, ℕ, zero, suc, ◌+◌, ◌*◌, ◌%◌, ◌^◌, ◌==◌, min, max, Bool, true, false, cond, List, [], ◌∷◌, Some, None, IfSome, refl, sym, ap, ◌∙◌, subst, arith}
use Rattle.std.proofs.lemmas.Bool.{eqb-true, eq-eqb, false≢true}
use Rattle.std.specs.Option.{option_map_or}
use Rattle.moka_evaluator.specs.Plain.{BuildsOn, IsAcyclic, next_operand, plain, rule_at, value_by, value_from, values_to, with_value}
use Rattle.moka_evaluator.specs.Sound.{AreWorth}
use Rattle.moka_evaluator.specs.declared.frames.Operands.{Operands}
use Rattle.moka_evaluator.specs.declared.frames.Operands.TheVariants.{Nothing, First, Both}
use Rattle.moka_evaluator.specs.declared.rules.Rule.{Rule}
use Rattle.moka_evaluator.specs.declared.rules.Rule.TheVariants.{Const, Add, Mul, Min, Max, If}
use Rattle.moka_evaluator.proofs.Basics.{none_some, same_number, some_same}

value_same : (f g : ℕ → ℕ) (rule : Rule) → BuildsOn (λ a. f a ≡ g a) rule → value_by f rule ≡ value_by g rule
value_same f g (Const n) h = refl
value_same f g (Add a b) h = λ i. (h.0 i + h.1 i) % 2 ^ 32
value_same f g (Mul a b) h = λ i. (h.0 i * h.1 i) % 2 ^ 32
value_same f g (Min a b) h = λ i. min (h.0 i) (h.1 i)
value_same f g (Max a b) h = λ i. max (h.0 i) (h.1 i)
value_same f g (If a b c) h = λ i. cond (h.0 i == 0) (h.2 i) (h.1 i)

pub builds_so : (P Q : ℕ → Type 0) (rule : Rule) → ((a : ℕ) → P a → Q a) → BuildsOn P rule → BuildsOn Q rule
builds_so P Q (Const n) f h = tt
builds_so P Q (Add a b) f h = (f a h.0, f b h.1)
builds_so P Q (Mul a b) f h = (f a h.0, f b h.1)
builds_so P Q (Min a b) f h = (f a h.0, f b h.1)
builds_so P Q (Max a b) f h = (f a h.0, f b h.1)
builds_so P Q (If a b c) f h = (f a h.0, f b h.1, f c h.2)

-- the values of further rules change nothing
values_stay : (rules : List Rule) (last r : ℕ) → r ≤ last → values_to rules last r ≡ plain rules r
values_stay rules zero r le = let is : r ≡ 0 = omega (arith, le) in ap (values_to rules 0) is ∙ ap (λ n. values_to rules n n) (sym is)
values_stay rules (suc last) r le = by (values_stay rules last r) (suc last == r) refl
  where
    by : (r ≤ last → values_to rules last r ≡ plain rules r) → (b : Bool) → (suc last == r) ≡ b →
        cond b (option_map_or (value_by (values_to rules last)) (rule_at rules (suc last)) 0) (values_to rules last r)
        ≡ values_to rules r r
    by before true same =
        ap (λ b. cond b (option_map_or (value_by (values_to rules last)) (rule_at rules (suc last)) 0) (values_to rules last (suc last)))
        (sym (same_number (suc last))) ∙ ap (λ n. values_to rules n n) (eqb-true (suc last) r same)
    by before false other = before (below (λ e. false≢true (sym other ∙ eq-eqb (suc last) r e)))
      where
        below : suc last ≢ r → r ≤ last
        below isnt = omega (arith, le, isnt)

-- a rule's plain value is by those of its operands
pub plain_is : (rules : List Rule) → IsAcyclic rules → (r : ℕ) (rule : Rule) → rule_at rules r ≡ Some rule →
    plain rules r ≡ value_by (plain rules) rule
plain_is rules acyclic zero rule e = absurd (none_some e)
plain_is rules acyclic (suc n) rule e =
    ap (λ b. cond b (option_map_or (value_by (values_to rules n)) (rule_at rules (suc n)) 0) (values_to rules n (suc n))) (same_number (suc n)) ∙
    ap (λ x. option_map_or (value_by (values_to rules n)) x 0) e ∙
    value_same (values_to rules n) (plain rules) rule
    (builds_so (λ a. (0 < a) × (a < suc n)) (λ a. values_to rules n a ≡ plain rules a) rule
    (λ a less. values_stay rules n a (omega (arith, less.1))) (acyclic (suc n) rule e))

-- ---- what was handed down

module _ (worth : ℕ → ℕ) where
  chosen : (t : Bool) (b c : ℕ) → worth (cond t c b) ≡ cond t (worth c) (worth b)
  chosen true b c = refl
  chosen false b c = refl

  -- where no operand is needed, the rule's value follows
  pub worked : (rule : Rule) (operands : Operands) → next_operand rule operands ≡ None → AreWorth worth rule operands →
      value_from rule operands ≡ value_by worth rule
  worked (Const n) operands none h = refl
  worked (Add a b) Nothing none h = absurd (none_some (sym none))
  worked (Add a b) (First x) none h = absurd (none_some (sym none))
  worked (Add a b) (Both x y) none h = λ i. (h.0 i + h.1 i) % 2 ^ 32
  worked (Mul a b) Nothing none h = absurd (none_some (sym none))
  worked (Mul a b) (First x) none h = absurd (none_some (sym none))
  worked (Mul a b) (Both x y) none h = λ i. (h.0 i * h.1 i) % 2 ^ 32
  worked (Min a b) Nothing none h = absurd (none_some (sym none))
  worked (Min a b) (First x) none h = absurd (none_some (sym none))
  worked (Min a b) (Both x y) none h = λ i. min (h.0 i) (h.1 i)
  worked (Max a b) Nothing none h = absurd (none_some (sym none))
  worked (Max a b) (First x) none h = absurd (none_some (sym none))
  worked (Max a b) (Both x y) none h = λ i. max (h.0 i) (h.1 i)
  worked (If a b c) Nothing none h = absurd (none_some (sym none))
  worked (If a b c) (First x) none h = absurd (none_some (sym none))
  worked (If a b c) (Both x y) none h =
      h.1 ∙ chosen (x == 0) b c ∙ ap (λ n. cond (n == 0) (worth c) (worth b)) h.0

  -- the operand that was needed is handed down
  pub handed : (rule : Rule) (operands : Operands) (a v : ℕ) → AreWorth worth rule operands →
      next_operand rule operands ≡ Some a → v ≡ worth a → AreWorth worth rule (with_value operands v)
  handed rule Nothing a v h e is = subst (λ x. IfSome x (λ b. v ≡ worth b)) (sym e) is
  handed rule (First x) a v h e is = (h, subst (λ o. IfSome o (λ b. v ≡ worth b)) (sym e) is)
  handed rule (Both x y) a v h e is = h

-- ---- operands

-- what holds of each operand holds of the one that is needed
pub needed : (P : ℕ → Type 0) (rule : Rule) (operands : Operands) (a : ℕ) → BuildsOn P rule →
    next_operand rule operands ≡ Some a → P a
needed P (Const n) operands x h e = absurd (none_some e)
needed P (Add a b) Nothing x h e = subst P (some_same e) h.0
needed P (Add a b) (First y) x h e = subst P (some_same e) h.1
needed P (Add a b) (Both y z) x h e = absurd (none_some e)
needed P (Mul a b) Nothing x h e = subst P (some_same e) h.0
needed P (Mul a b) (First y) x h e = subst P (some_same e) h.1
needed P (Mul a b) (Both y z) x h e = absurd (none_some e)
needed P (Min a b) Nothing x h e = subst P (some_same e) h.0
needed P (Min a b) (First y) x h e = subst P (some_same e) h.1
needed P (Min a b) (Both y z) x h e = absurd (none_some e)
needed P (Max a b) Nothing x h e = subst P (some_same e) h.0
needed P (Max a b) (First y) x h e = subst P (some_same e) h.1
needed P (Max a b) (Both y z) x h e = absurd (none_some e)
needed P (If a b c) Nothing x h e = subst P (some_same e) h.0
needed P (If a b c) (First y) x h e = subst P (some_same e) (by (y == 0))
  where
    by : (t : Bool) → P (cond t c b)
    by true = h.2
    by false = h.1
needed P (If a b c) (Both y z) x h e = absurd (none_some e)

-- a rule's number is that of one of the rules, and so is each smaller number but 0
rule_before : (rules : List Rule) (m n : ℕ) (rule : Rule) → rule_at rules (suc n) ≡ Some rule → m ≤ n →
    (other : Rule) × (rule_at rules (suc m) ≡ Some other)
rule_before [] m n rule e le = absurd (none_some e)
rule_before (x ∷ xs) zero n rule e le = (x, refl)
rule_before (x ∷ xs) (suc m) zero rule e le = absurd (omega (arith, le))
rule_before (x ∷ xs) (suc m) (suc n) rule e le = rule_before xs m n rule e (omega (arith, le))

pub earlier_rule : (rules : List Rule) (a r : ℕ) (rule : Rule) → rule_at rules r ≡ Some rule → 0 < a → a < r →
    (other : Rule) × (rule_at rules a ≡ Some other)
earlier_rule rules zero r rule e positive less = absurd (omega (arith, positive))
earlier_rule rules (suc a) zero rule e positive less = absurd (none_some e)
earlier_rule rules (suc a) (suc r) rule e positive less = rule_before rules a r rule e (omega (arith, less))
