-- Reading a line, wherever it stands.
use Rattle.std.specs.Prelude.{◌≡◌, ℕ, List, Option, Some, None, codes, bytes_eq, if◌then◌else◌}
use Rattle.std.specs.Option.{option_map, option_and_then}
use Rattle.moka_evaluator.specs.declared.rules.Rule.{Rule}
use Rattle.moka_evaluator.specs.declared.rules.Rule.TheVariants as rule
use Rattle.moka_lines.specs.Words.{after, after_byte, before_byte, on_front, u32_in, u64_in}
use Rattle.moka_memo_run.specs.Lines.{LineFits, line_words}
use Rattle.moka_memo_run.specs.declared.lines.Line.{Line}
use Rattle.moka_memo_run.specs.declared.lines.Line.TheVariants as line

-- two numbers with a space between them
unfoldable pub pair_of : List ℕ → Option (ℕ × ℕ)
pair_of bytes =
    option_and_then (λ a. option_and_then (λ b. Some (a, b)) (u32_in (after_byte 32 bytes)))
    (u32_in (before_byte 32 bytes))

-- three numbers with a space between each two
unfoldable pub three_of : List ℕ → Option (ℕ × (ℕ × ℕ))
three_of bytes =
    option_and_then (λ a. option_and_then (λ p. Some (a, p)) (pair_of (after_byte 32 bytes)))
    (u32_in (before_byte 32 bytes))

-- the rule of these bytes
unfoldable pub rule_of : List ℕ → Option Rule
rule_of bytes =
    on_front (after (codes "const ") bytes) (λ rest. option_map rule.Const (u32_in rest))
    (on_front (after (codes "add ") bytes) (λ rest. option_map (λ p. rule.Add p.0 p.1) (pair_of rest))
    (on_front (after (codes "mul ") bytes) (λ rest. option_map (λ p. rule.Mul p.0 p.1) (pair_of rest))
    (on_front (after (codes "min ") bytes) (λ rest. option_map (λ p. rule.Min p.0 p.1) (pair_of rest))
    (on_front (after (codes "max ") bytes) (λ rest. option_map (λ p. rule.Max p.0 p.1) (pair_of rest))
    (on_front (after (codes "if ") bytes)
    (λ rest. option_map (λ t. rule.If t.0 t.1.0 t.1.1) (three_of rest)) None)))))

-- the line of these bytes
unfoldable pub line_of : List ℕ → Option Line
line_of bytes =
    on_front (after (codes "turn ") bytes) (λ rest. option_map line.Turn (u64_in rest))
    (on_front (after (codes "rule ") bytes) (λ rest. option_map line.Rule (rule_of rest))
    (on_front (after (codes "ask ") bytes) (λ rest. option_map line.Ask (u32_in rest))
    (on_front (after (codes "drop ") bytes) (λ rest. option_map line.Drop (u64_in rest))
    (if bytes_eq bytes (codes "finish") then Some line.Finish else None))))

-- each line's own spelling is read as that line
abbrev pub LinesAreRead : Type 0
LinesAreRead = (l : Line) → LineFits l → line_of (line_words l) ≡ Some l

-- what is read as a line is its own spelling
abbrev pub ReadLinesAreSpelled : Type 0
ReadLinesAreSpelled =
    (bytes : List ℕ) (l : Line) → line_of bytes ≡ Some l → (bytes ≡ line_words l) × LineFits l
