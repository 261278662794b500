-- The lines of a source: how each is spelled, and which may come after those before it.
use Rattle.std.specs.Prelude.{ℕ, ◌^◌, ◌<◌, ◌≤◌, List, ◌∷◌, ◌++◌, length, codes, decimal}
use Rattle.std.specs.List.{AllByRecursion}
use Rattle.moka_evaluator.specs.Plain.{BuildsOn, IsOneOf}
use Rattle.moka_evaluator.specs.declared.rules.Rule.{Rule}
use Rattle.moka_evaluator.specs.declared.rules.Rule.TheVariants as rule
use Rattle.moka_memo_run.specs.declared.lines.Line.{Line}
use Rattle.moka_memo_run.specs.declared.lines.Line.TheVariants as line

-- two numbers with a space between them, and three
abbrev pub two_words : ℕ → ℕ → List ℕ
two_words a b = decimal a ++ 32 ∷ decimal b

abbrev pub three_words : ℕ → ℕ → ℕ → List ℕ
three_words a b c = decimal a ++ 32 ∷ two_words b c

-- the one spelling of a rule
abbrev pub rule_words : Rule → List ℕ
rule_words (rule.Const n) = codes "const " ++ decimal n
rule_words (rule.Add a b) = codes "add " ++ two_words a b
rule_words (rule.Mul a b) = codes "mul " ++ two_words a b
rule_words (rule.Min a b) = codes "min " ++ two_words a b
rule_words (rule.Max a b) = codes "max " ++ two_words a b
rule_words (rule.If a b c) = codes "if " ++ three_words a b c

-- the one spelling of a line
abbrev pub line_words : Line → List ℕ
line_words (line.Rule rule) = codes "rule " ++ rule_words rule
line_words (line.Ask rule) = codes "ask " ++ decimal rule
line_words (line.Turn query) = codes "turn " ++ decimal query
line_words (line.Drop query) = codes "drop " ++ decimal query
line_words line.Finish = codes "finish"

-- constants and rules are of 32 bits
abbrev pub RuleFits : Rule → Type 0
RuleFits (rule.Const n) = n < 2 ^ 32
RuleFits (rule.Add a b) = (a < 2 ^ 32) × (b < 2 ^ 32)
RuleFits (rule.Mul a b) = (a < 2 ^ 32) × (b < 2 ^ 32)
RuleFits (rule.Min a b) = (a < 2 ^ 32) × (b < 2 ^ 32)
RuleFits (rule.Max a b) = (a < 2 ^ 32) × (b < 2 ^ 32)
RuleFits (rule.If a b c) = (a < 2 ^ 32) × (b < 2 ^ 32) × (c < 2 ^ 32)

-- and queries of 64
abbrev pub LineFits : Line → Type 0
LineFits (line.Rule rule) = RuleFits rule
LineFits (line.Ask rule) = rule < 2 ^ 32
LineFits (line.Turn query) = query < 2 ^ 64
LineFits (line.Drop query) = query < 2 ^ 64
LineFits line.Finish = Unit {0}

abbrev pub IsRule : Line → Type 0
IsRule (line.Rule rule) = Unit {0}
IsRule (line.Ask rule) = ⊥
IsRule (line.Turn query) = ⊥
IsRule (line.Drop query) = ⊥
IsRule line.Finish = ⊥

-- the most rules that a source may have
abbrev pub most_rules : ℕ
most_rules = 10000

-- a rule comes after rules alone, builds on those, and is not the one too many; anything else may
-- always come
abbrev pub MayCome : List Line → Line → Type 0
MayCome before (line.Rule rule) =
    AllByRecursion IsRule before × (length before < most_rules) × BuildsOn (IsOneOf (length before)) rule
MayCome before (line.Ask rule) = Unit {0}
MayCome before (line.Turn query) = Unit {0}
MayCome before (line.Drop query) = Unit {0}
MayCome before line.Finish = Unit {0}

-- its numbers are in their ranges, and it may come there
abbrev pub Fits : List Line → Line → Type 0
Fits before l = LineFits l × MayCome before l
