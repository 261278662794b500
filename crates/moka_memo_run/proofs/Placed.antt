-- Where a line may stand.
use Rattle.std.proofs.Common.{◌≡◌, ℕ, ◌+◌, ◌<◌, ◌≤◌, Bool, true, false, cond, ◌&&◌, leb, ltb, List, [], ◌∷◌, ◌++◌, length, length-append, Option, Some, None, IfSome, refl, sym, ap, ◌∙◌, subst, arith}
use Rattle.std.specs.Bool.{Decides}
use Rattle.std.specs.List.{AllByRecursion}
use Rattle.std.proofs.lemmas.Bool.Decides.{Decides-and, Decides-ltb}
use Rattle.moka_evaluator.specs.Plain.{BuildsOn, IsOneOf, are_earlier}
use Rattle.moka_evaluator.specs.declared.rules.Rule.{Rule}
use Rattle.moka_memo_run.specs.Lines.{IsRule, MayCome, most_rules}
use Rattle.moka_evaluator.proofs.Earlier.{builds_Decides}
use Rattle.moka_memo_run.specs.Places.{HasRead, next, next_rule}
use Rattle.moka_memo_run.specs.declared.lines.Line.{Line}
use Rattle.moka_memo_run.specs.declared.lines.Line.TheVariants as line
use Rattle.moka_memo_run.specs.declared.places.Lines.{Lines}
use Rattle.moka_memo_run.specs.declared.places.Lines.TheVariants as lines

may_Decides : (count : ℕ) (r : Rule) → Decides (ltb count most_rules && are_earlier count r) ((count < most_rules) × BuildsOn (IsOneOf count) r)
may_Decides count r = Decides-and _ _ (Decides-ltb count most_rules) (builds_Decides count r)

-- rules, and another one
pub rules_more : (before : List Line) (r : Rule) → AllByRecursion IsRule before → AllByRecursion IsRule (before ++ line.Rule r ∷ [])
rules_more [] r all = (tt, tt)
rules_more (l ∷ before) r all = (all.0, rules_more before r all.1)

-- not all are rules where the last is none
pub not_all : (before : List Line) (l : Line) → (IsRule l → ⊥) → AllByRecursion IsRule (before ++ l ∷ []) → ⊥
not_all [] l none all = none all.0
not_all (x ∷ before) l none all = not_all before l none all.1

-- what is read further, and may come there
abbrev pub GoesOn : List Line → Line → Lines → Type 0
GoesOn before l read = MayCome before l × HasRead read (before ++ l ∷ [])

chosen_if : (P : Lines → Type 0) (b : Bool) (s : Lines) → (b ≡ true → P s) → IfSome (cond b (Some s) None) P
chosen_if P true s h = h refl
chosen_if P false s h = tt

count_more : (before : List Line) (l : Line) (count : ℕ) → length before ≡ count → length (before ++ l ∷ []) ≡ count + 1
count_more before l count e = omega (arith, e, length-append before (l ∷ []))

rule_goes_on : (read : Lines) (r : Rule) (before : List Line) → HasRead read before → IfSome (next_rule read r) (GoesOn before (line.Rule r))
rule_goes_on (lines.Rules count) r before h =
    chosen_if (GoesOn before (line.Rule r)) (ltb count most_rules && are_earlier count r) (lines.Rules (count + 1)) (λ t.
    let may = (may_Decides count r).0 t in
    let here = subst (λ n. (n < most_rules) × BuildsOn (IsOneOf n) r) (sym h.1) may in (
      (h.0, here.0, here.1),
      (rules_more before r h.0, count_more before (line.Rule r) count h.1),
    ))
rule_goes_on lines.Begun r before h = tt

-- a line that may come goes on
pub goes_on : (read : Lines) (l : Line) (before : List Line) → HasRead read before → IfSome (next read l) (GoesOn before l)
goes_on read (line.Rule r) before h = rule_goes_on read r before h
goes_on read (line.Ask n) before h = (tt, not_all before (line.Ask n) (λ x. x))
goes_on read (line.Turn n) before h = (tt, not_all before (line.Turn n) (λ x. x))
goes_on read (line.Drop n) before h = (tt, not_all before (line.Drop n) (λ x. x))
goes_on read line.Finish before h = (tt, not_all before line.Finish (λ x. x))

refused_if : (b : Bool) (s : Lines) → cond b (Some s) None ≡ None → b ≡ true → ⊥
refused_if true s e t = absurd cc
refused_if false s e t = absurd cc

rule_refused : (read : Lines) (r : Rule) (before : List Line) → HasRead read before → next_rule read r ≡ None → MayCome before (line.Rule r) → ⊥
rule_refused (lines.Rules count) r before h none may =
    refused_if (ltb count most_rules && are_earlier count r) (lines.Rules (count + 1)) none
    ((may_Decides count r).1 (subst (λ n. (n < most_rules) × BuildsOn (IsOneOf n) r) h.1 (may.1, may.2)))
rule_refused lines.Begun r before h none may = h may.0

-- a line that doesn't go on may not come
pub refused : (read : Lines) (l : Line) (before : List Line) → HasRead read before → next read l ≡ None → MayCome before l → ⊥
refused read (line.Rule r) before h none may = rule_refused read r before h none may
refused read (line.Ask n) before h none may = absurd cc
refused read (line.Turn n) before h none may = absurd cc
refused read (line.Drop n) before h none may = absurd cc
refused read line.Finish before h none may = absurd cc
