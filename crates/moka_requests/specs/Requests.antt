-- The requests of a client's bytes: of all that it sent, and of what it sends further on.
use Rattle.std.specs.Prelude.{ℕ, ◌==◌, Bool, true, false, cond, List, [], ◌∷◌, ◌++◌, map, length, Option, Some, None, nat_lt, nat_le, codes}
use Rattle.std.specs.Option.{option_and_then, option_map_or, option_to_list}
use Rattle.moka_lines.specs.Words.{after, u32_in}
use Rattle.moka_requests.specs.declared.request.Request.{Request}
use Rattle.moka_requests.specs.declared.request.Request.TheVariants.{Get, Bad}

-- the byte that ends a line, and the most bytes that a line may have, its end not counted
abbrev pub end_byte : ℕ
end_byte = 10

abbrev pub longest : ℕ
longest = 64

-- the key of a line `get K`
abbrev pub key_of : List ℕ → Option ℕ
key_of line = option_and_then u32_in (after (codes "get ") line)

-- what a line asks for: `get K` the value of K, any other line nothing
abbrev pub request_of : List ℕ → Request
request_of line = option_map_or Get (key_of line) Bad

-- ---- all that a client sent

-- the whole lines of the bytes, without their ends, and what stands after the last of them; the
-- first line has these bytes already
abbrev pub whole_lines : List ℕ → List ℕ → List (List ℕ)
whole_lines line [] = []
whole_lines line (byte ∷ bytes) =
    cond (byte == end_byte) (line ∷ whole_lines [] bytes) (whole_lines (line ++ byte ∷ []) bytes)

abbrev pub last_line : List ℕ → List ℕ → List ℕ
last_line line [] = line
last_line line (byte ∷ bytes) =
    cond (byte == end_byte) (last_line [] bytes) (last_line (line ++ byte ∷ []) bytes)

-- a line that hasn't ended is a request once it is too long
abbrev pub if_too_long : List ℕ → List Request
if_too_long line = cond (nat_lt longest (length line)) (Bad ∷ []) []

-- the requests of all that a client sent: its whole lines, and one that is too long as soon as it is
abbrev pub requests_of : List ℕ → List Request
requests_of sent = map request_of (whole_lines [] sent) ++ if_too_long (last_line [] sent)

-- ---- what it sends further on

-- what was sent of a line that hasn't ended; one that is too long is passed over up to its end
pub record Unfinished : Type 0 where
  pub line : List ℕ
  pub passing : Bool

-- a line of which nothing was sent yet, and the end of one that is too long
abbrev pub nothing_yet : Unfinished
nothing_yet = record { line = []; passing = false }

abbrev pub passing_over : Unfinished
passing_over = record { line = []; passing = true }

-- the line has all the bytes that it may have
abbrev pub is_full : Unfinished → Bool
is_full u = nat_le longest (length u.line)

-- the request that is due at one byte more, if one is
abbrev pub due : Unfinished → ℕ → Option Request
due u byte =
    cond u.passing None
    (cond (byte == end_byte) (Some (request_of u.line)) (cond (is_full u) (Some Bad) None))

-- what is unfinished after one byte more
abbrev pub with_byte : Unfinished → ℕ → Unfinished
with_byte u byte =
    cond (byte == end_byte) nothing_yet
    (cond u.passing u
    (cond (is_full u) passing_over (record { line = u.line ++ byte ∷ []; passing = false })))

-- the requests that are due at these bytes, and what is unfinished after them
abbrev pub new_requests : Unfinished → List ℕ → List Request
new_requests u [] = []
new_requests u (byte ∷ bytes) =
    option_to_list (due u byte) ++ new_requests (with_byte u byte) bytes

abbrev pub unfinished_after : Unfinished → List ℕ → Unfinished
unfinished_after u [] = u
unfinished_after u (byte ∷ bytes) = unfinished_after (with_byte u byte) bytes
