-- The bytes that a client sends or is sent, and their text in a line.
use Rattle.std.specs.Prelude.{◌≡◌, ◌<◌, ◌==◌, ℕ, List, [], ◌∷◌, map, length, Option, Some, None, if◌then◌else◌}
use Rattle.std.specs.List.{AllByRecursion, list_any}

-- the byte 10 stands as a semicolon
abbrev pub shown_byte : ℕ → ℕ
shown_byte b = if b == 10 then 59 else b

-- the text of bytes
abbrev pub shown : List ℕ → List ℕ
shown bytes = map shown_byte bytes

-- a client has sent a byte at least, and no semicolon
abbrev pub IsPiece : List ℕ → Type 0
IsPiece bytes = (0 < length bytes) × AllByRecursion (λ b. b ≡ 59 → ⊥) bytes

-- what a byte of a text stands for
abbrev pub read_byte : ℕ → ℕ
read_byte b = if b == 59 then 10 else b

-- the piece that a text spells: there is a byte at least, and none is 10
unfoldable pub piece_in : List ℕ → Option (List ℕ)
piece_in [] = None
piece_in (b ∷ text) =
    if list_any (λ c. c == 10) (b ∷ text) then None else Some (map read_byte (b ∷ text))
