-- The requests that came one after the other are those of all the bytes.
use Rattle.std.proofs.Common.{◌≡◌, ℕ, ◌+◌, ◌^◌, ◌==◌, ◌<◌, ◌≤◌, Bool, true, false, cond, List, [], ◌∷◌, ◌++◌, map, length, take, drop, Some, None, nat_lt, nat_le, codes, refl, sym, ap, ◌∙◌, arith, length-append, length-drop}
use Rattle.std.specs.Option.{option_and_then, option_map_or, option_to_list}
use Rattle.std.specs.Str.{bytes_eq}
use Rattle.std.proofs.lemmas.Fmt.{length-decimal-le}
use borrow.Author.Tests.{leb-true, leb-false, ltb-true}
use Rattle.moka_requests.specs.Laws.{AreOfAllBytes, OnlyAdds}
use Rattle.moka_requests.specs.Requests.{Unfinished, if_too_long, last_line, new_requests, nothing_yet, passing_over, request_of, unfinished_after, whole_lines}
use Rattle.moka_requests.specs.declared.request.Request.{Request}
use Rattle.moka_requests.specs.declared.request.Request.TheVariants.{Get, Bad}
use Rattle.moka_lines.specs.Words.{u32_in}
use Rattle.moka_lines.proofs.Numbers.{number_none}
use Rattle.moka_requests.proofs.Pieces.{in_pieces}

-- so many bytes spell no key
no_key : (bytes : List ℕ) → 10 < length bytes → u32_in bytes ≡ None
no_key bytes long = number_none (2 ^ 32) bytes (λ n small e.
    let short = length-decimal-le 10 n (omega arith) (omega arith) (omega arith) in
    let same = ap length e in
    absurd (omega arith))

-- a line that is too long asks for nothing
too_long : (line : List ℕ) → 64 < length line → request_of line ≡ Bad
too_long line long =
    let rest : 10 < length (drop 4 line) = omega (arith, length-drop 4 line) in
    ap (λ k. option_map_or Get k Bad)
    (elim (bytes_eq (take 4 line) (codes "get ")) as (λ t. option_and_then u32_in (cond t (Some (drop 4 line)) None) ≡ None) [
      | true ↦ no_key (drop 4 line) rest
      | false ↦ refl
    ])

-- the requests of bytes that go on from a line of which so much came already
abbrev all_from : List ℕ → List ℕ → List Request
all_from line bytes = map request_of (whole_lines line bytes) ++ if_too_long (last_line line bytes)

abbrev reading : List ℕ → Unfinished
reading line = record { line = line; passing = false }

record IsWhole (bytes : List ℕ) : Type 0 where
  pub short : (line : List ℕ) → length line ≤ 64 → new_requests (reading line) bytes ≡ all_from line bytes
  pub long : (line : List ℕ) → 64 < length line → Bad ∷ new_requests passing_over bytes ≡ all_from line bytes

not_long : (line : List ℕ) → length line ≤ 64 → [] ≡ if_too_long line
not_long line short = elim_lt (nat_lt 64 (length line)) refl
  where
    elim_lt : (t : Bool) → nat_lt 64 (length line) ≡ t → [] ≡ cond t (Bad ∷ []) []
    elim_lt true e = absurd (omega (arith, ltb-true 64 (length line) e))
    elim_lt false e = refl

is_long : (line : List ℕ) → 64 < length line → Bad ∷ [] ≡ if_too_long line
is_long line long = elim_lt (nat_lt 64 (length line)) refl
  where
    elim_lt : (t : Bool) → nat_lt 64 (length line) ≡ t → Bad ∷ [] ≡ cond t (Bad ∷ []) []
    elim_lt true e = refl
    elim_lt false e = absurd (grind (arith, e))

one_short : (byte : ℕ) (bytes line : List ℕ) → IsWhole bytes → length line ≤ 64 → new_requests (reading line) (byte ∷ bytes) ≡ all_from line (byte ∷ bytes)
one_short byte bytes line whole short = by (byte == 10) (nat_le 64 (length line)) refl
  where
    longer : length (line ++ byte ∷ []) ≡ length line + 1
    longer = length-append line (byte ∷ [])

    by : (t f : Bool) → nat_le 64 (length line) ≡ f →
        option_to_list (cond t (Some (request_of line)) (cond f (Some Bad) None)) ++ new_requests (cond t nothing_yet (cond f passing_over (reading (line ++ byte ∷ [])))) bytes
        ≡ map request_of (cond t (line ∷ whole_lines [] bytes) (whole_lines (line ++ byte ∷ []) bytes)) ++ if_too_long (cond t (last_line [] bytes) (last_line (line ++ byte ∷ []) bytes))
    by true f e = ap (λ l. request_of line ∷ l) (whole.short [] (omega arith))
    by false true e = whole.long (line ++ byte ∷ []) (omega (arith, longer, leb-true 64 (length line) e))
    by false false e = whole.short (line ++ byte ∷ []) (omega (arith, longer, leb-false 64 (length line) e))

one_long : (byte : ℕ) (bytes line : List ℕ) → IsWhole bytes → 64 < length line → Bad ∷ new_requests passing_over (byte ∷ bytes) ≡ all_from line (byte ∷ bytes)
one_long byte bytes line whole long = by (byte == 10)
  where
    by : (t : Bool) →
        Bad ∷ new_requests (cond t nothing_yet passing_over) bytes
        ≡ map request_of (cond t (line ∷ whole_lines [] bytes) (whole_lines (line ++ byte ∷ []) bytes)) ++ if_too_long (cond t (last_line [] bytes) (last_line (line ++ byte ∷ []) bytes))
    by true = ap (λ l. Bad ∷ l) (whole.short [] (omega arith)) ∙ ap (λ r. r ∷ all_from [] bytes) (sym (too_long line long))
    by false = whole.long (line ++ byte ∷ []) (omega (arith, length-append line (byte ∷ [])))

is_whole : (bytes : List ℕ) → IsWhole bytes
is_whole [] = record { short = not_long; long = is_long }
is_whole (byte ∷ bytes) =
    let rest = is_whole bytes in
    record {
      short = λ line short. one_short byte bytes line rest short;
      long = λ line long. one_long byte bytes line rest long;
    }

pub of_all_bytes : AreOfAllBytes
of_all_bytes sent = (is_whole sent).short [] (omega arith)

pub only_adds : OnlyAdds
only_adds sent more =
    sym (of_all_bytes (sent ++ more)) ∙ (in_pieces nothing_yet sent more).requests ∙ ap (λ l. l ++ new_requests (unfinished_after nothing_yet sent) more) (of_all_bytes sent)
