-- How far the lines were read, and where the next may stand.
use Rattle.std.specs.Prelude.{◌≡◌, ℕ, ◌+◌, nat_lt, ◌&&◌, List, length, Option, Some, None, if◌then◌else◌}
use Rattle.std.specs.List.{AllByRecursion}
use Rattle.moka_evaluator.specs.Plain.{are_earlier}
use Rattle.moka_evaluator.specs.declared.rules.Rule.{Rule}
use Rattle.moka_memo_run.specs.Lines.{IsRule, most_rules}
use Rattle.moka_memo_run.specs.declared.lines.Line.{Line}
use Rattle.moka_memo_run.specs.declared.lines.Line.TheVariants as line
use Rattle.moka_memo_run.specs.declared.places.Lines.{Lines}
use Rattle.moka_memo_run.specs.declared.places.Lines.TheVariants as lines

-- these lines were read
abbrev pub HasRead : Lines → List Line → Type 0
HasRead (lines.Rules count) before = AllByRecursion IsRule before × (length before ≡ count)
HasRead lines.Begun before = AllByRecursion IsRule before → ⊥

-- how far the lines are read with this one, where it may come
abbrev pub next_rule : Lines → Rule → Option Lines
next_rule (lines.Rules count) rule =
    if nat_lt count most_rules && are_earlier count rule then Some (lines.Rules (count + 1)) else None
next_rule lines.Begun rule = None

abbrev pub next : Lines → Line → Option Lines
next read (line.Rule rule) = next_rule read rule
next read (line.Ask rule) = Some lines.Begun
next read (line.Turn query) = Some lines.Begun
next read (line.Drop query) = Some lines.Begun
next read line.Finish = Some lines.Begun
