-- Reading a line.
use Rattle.std.specs.Prelude.{◌≡◌, ℕ, List, Option, Some, None, Result, Ok, Err, codes, bytes_eq, if◌then◌else◌}
use Rattle.std.specs.Option.{option_map, option_and_then}
use Rattle.moka_lines.specs.Words.{after, after_byte, before_byte, on_front, u32_in, u64_in}
use Rattle.moka_gateway_run.specs.Lines.{LineFits, line_words}
use Rattle.moka_gateway_run.specs.Pieces.{piece_in}
use Rattle.moka_gateway_run.specs.declared.lines.Line.{Line}
use Rattle.moka_gateway_run.specs.declared.lines.Line.TheVariants as line

-- a client, and after a space its piece
unfoldable pub feed_of : List ℕ → Option Line
feed_of bytes =
    option_and_then (λ client. option_map (line.Feed client) (piece_in (after_byte 32 bytes)))
    (u64_in (before_byte 32 bytes))

-- what the upstream answers
unfoldable pub answer_of : List ℕ → Option (Result ℕ ℕ)
answer_of bytes =
    on_front (after (codes "value ") bytes) (λ rest. option_map Ok (u32_in rest))
    (on_front (after (codes "error ") bytes) (λ rest. option_map Err (u32_in rest)) None)

-- a key, and after a space what the upstream answers
unfoldable pub reply_of : List ℕ → Option Line
reply_of bytes =
    option_and_then (λ key. option_map (line.Reply key) (answer_of (after_byte 32 bytes)))
    (u32_in (before_byte 32 bytes))

-- the line of these bytes
unfoldable pub line_of : List ℕ → Option Line
line_of bytes =
    on_front (after (codes "feed ") bytes) feed_of
    (on_front (after (codes "reply ") bytes) reply_of
    (on_front (after (codes "close ") bytes) (λ rest. option_map line.Close (u64_in rest))
    (if bytes_eq bytes (codes "open") then Some line.Open else None)))

-- each line's own spelling is read as that line
abbrev pub LinesAreRead : Type 0
LinesAreRead = (l : Line) → LineFits l → line_of (line_words l) ≡ Some l

-- what is read as a line is its own spelling
abbrev pub ReadLinesAreSpelled : Type 0
ReadLinesAreSpelled =
    (bytes : List ℕ) (l : Line) → line_of bytes ≡ Some l → (bytes ≡ line_words l) × LineFits l
