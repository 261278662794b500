-- Rules that stand in place build on earlier ones.
use Rattle.std.proofs.Common.{◌≡◌, ℕ, zero, suc, ◌+◌, ◌<◌, List, [], ◌∷◌, ◌++◌, length, length-append, Some, refl, sym, ap, ◌∙◌, subst, arith}
use Rattle.std.specs.Prelude.{slice_get}
use Rattle.std.specs.List.{AllByRecursion}
use Rattle.std.proofs.lemmas.Option.{same_Some}
use Rattle.moka_lines.specs.Lines.{AreInPlace}
use Rattle.moka_evaluator.specs.Plain.{BuildsOn, IsAcyclic, IsOneOf}
use Rattle.moka_evaluator.specs.declared.rules.Rule.{Rule}
use Rattle.moka_evaluator.specs.declared.rules.Rule.TheVariants as rule
use Rattle.moka_memo_run.specs.Lines.{Fits, IsRule}
use Rattle.moka_memo_run.specs.Playing.{rules_in}
use Rattle.moka_memo_run.specs.declared.lines.Line.{Line}
use Rattle.moka_memo_run.specs.declared.lines.Line.TheVariants as line
use Rattle.moka_memo_run.proofs.Placed.{not_all, rules_more}

-- what builds on some builds on more
builds_more : (P Q : ℕ → Type 0) → ((a : ℕ) → P a → Q a) → (r : Rule) → BuildsOn P r → BuildsOn Q r
builds_more P Q more (rule.Const n) h = tt
builds_more P Q more (rule.Add a b) h = (more a h.0, more b h.1)
builds_more P Q more (rule.Mul a b) h = (more a h.0, more b h.1)
builds_more P Q more (rule.Min a b) h = (more a h.0, more b h.1)
builds_more P Q more (rule.Max a b) h = (more a h.0, more b h.1)
builds_more P Q more (rule.If a b c) h = (more a h.0, more b h.1, more c h.2)

-- no rule comes after another line
none_after : (before lines : List Line) → (AllByRecursion IsRule before → ⊥) → AreInPlace Fits before lines → rules_in lines ≡ []
none_after before [] other fit = refl
none_after before (line.Rule r ∷ lines) other fit = absurd (other fit.0.1.0)
none_after before (line.Ask n ∷ lines) other fit = none_after (before ++ line.Ask n ∷ []) lines (not_all before (line.Ask n) (λ x. x)) fit.1
none_after before (line.Turn n ∷ lines) other fit = none_after (before ++ line.Turn n ∷ []) lines (not_all before (line.Turn n) (λ x. x)) fit.1
none_after before (line.Drop n ∷ lines) other fit = none_after (before ++ line.Drop n ∷ []) lines (not_all before (line.Drop n) (λ x. x)) fit.1
none_after before (line.Finish ∷ lines) other fit = none_after (before ++ line.Finish ∷ []) lines (not_all before line.Finish (λ x. x)) fit.1

-- there is no rule in none
none_at : {P : Type 0} (rules : List Rule) (n : ℕ) (r : Rule) → rules ≡ [] → slice_get rules n ≡ Some r → P
none_at rules n r e at_n = let none = sym (ap (λ rs. slice_get rs n) e) ∙ at_n in absurd cc

-- the rule at a place builds on those before it
builds_at : (before lines : List Line) → AllByRecursion IsRule before → AreInPlace Fits before lines → (n : ℕ) (r : Rule) → slice_get (rules_in lines) n ≡ Some r → BuildsOn (IsOneOf (length before + n)) r
builds_at before [] all fit n r at_n = none_at [] n r refl at_n
builds_at before (line.Rule x ∷ lines) all fit zero r at_n =
    let same : x ≡ r = same_Some x r at_n in
    subst (BuildsOn (IsOneOf (length before + 0))) same (builds_more (IsOneOf (length before)) (IsOneOf (length before + 0)) (λ a h. (h.0, omega (arith, h.1))) x fit.0.1.2)
builds_at before (line.Rule x ∷ lines) all fit (suc n) r at_n =
    let counted = length-append before (line.Rule x ∷ []) in
    builds_more (IsOneOf (length (before ++ line.Rule x ∷ []) + n)) (IsOneOf (length before + suc n)) (λ a h. (h.0, omega (arith, h.1, counted))) r
    (builds_at (before ++ line.Rule x ∷ []) lines (rules_more before x all) fit.1 n r at_n)
builds_at before (line.Ask m ∷ lines) all fit n r at_n =
    none_at (rules_in lines) n r (none_after (before ++ line.Ask m ∷ []) lines (not_all before (line.Ask m) (λ x. x)) fit.1) at_n
builds_at before (line.Turn m ∷ lines) all fit n r at_n =
    none_at (rules_in lines) n r (none_after (before ++ line.Turn m ∷ []) lines (not_all before (line.Turn m) (λ x. x)) fit.1) at_n
builds_at before (line.Drop m ∷ lines) all fit n r at_n =
    none_at (rules_in lines) n r (none_after (before ++ line.Drop m ∷ []) lines (not_all before (line.Drop m) (λ x. x)) fit.1) at_n
builds_at before (line.Finish ∷ lines) all fit n r at_n =
    none_at (rules_in lines) n r (none_after (before ++ line.Finish ∷ []) lines (not_all before line.Finish (λ x. x)) fit.1) at_n

-- each operand is an earlier rule
pub acyclic : (lines : List Line) → AreInPlace Fits [] lines → IsAcyclic (rules_in lines)
acyclic lines fit zero r at_n = absurd cc
acyclic lines fit (suc n) r at_n =
    builds_more (IsOneOf (0 + n)) (λ a. (0 < a) × (a < suc n)) (λ a h. (h.0, omega (arith, h.1))) r (builds_at [] lines tt fit n r at_n)
