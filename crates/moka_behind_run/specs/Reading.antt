-- Reading the calls of a source.
use Rattle.std.specs.Prelude.{◌≡◌, ℕ, List, Option, Some, None, codes, bytes_eq, if◌then◌else◌}
use Rattle.std.specs.Option.{option_map, option_and_then}
use Rattle.moka_lines.specs.Words.{after, after_byte, before_byte, on_front, u32_in}
use Rattle.moka_behind_run.specs.Calls.{Fits, call_line}
use Rattle.moka_behind_run.specs.declared.calls.Call.{Call}
use Rattle.moka_behind_run.specs.declared.calls.Call.TheVariants as call

-- a key and a value with a space between them
unfoldable pub pair_of : List ℕ → Option (ℕ × ℕ)
pair_of bytes =
    option_and_then (λ key. option_and_then (λ value. Some (key, value)) (u32_in (after_byte 32 bytes)))
    (u32_in (before_byte 32 bytes))

-- a call that is a word alone
unfoldable pub alone : List ℕ → Option Call
alone bytes =
    if bytes_eq bytes (codes "shed") then Some call.Shed
    else if bytes_eq bytes (codes "drain") then Some call.Drain
    else None

-- the call that a line spells
abbrev pub line_of : List ℕ → Option Call
line_of line =
    on_front (after (codes "set ") line) (λ rest. option_map (λ p. call.Set p.0 p.1) (pair_of rest))
    (on_front (after (codes "get ") line) (λ rest. option_map call.Get (u32_in rest))
    (on_front (after (codes "del ") line) (λ rest. option_map call.Del (u32_in rest)) (alone line)))

-- each call's own line is read as that call
abbrev pub LinesAreRead : Type 0
LinesAreRead = (c : Call) → Fits c → line_of (call_line c) ≡ Some c

-- what is read as a call is its own line
abbrev pub ReadLinesAreSpelled : Type 0
ReadLinesAreSpelled = (line : List ℕ) (c : Call) → line_of line ≡ Some c → (line ≡ call_line c) × Fits c
