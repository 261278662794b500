-- The parts of a line: numbers, what follows a word, and the two sides of a mark.
use Rattle.std.specs.Prelude.{ℕ, ◌^◌, ◌==◌, ◌&&◌, List, Option, Some, None, length, take, drop, nat_lt, decimal, bytes_eq, if◌then◌else◌}
use Rattle.std.specs.List.{before_first, after_first}
use Rattle.std.specs.Str.Parse.{digits_value}

-- the number below the limit of which these bytes are the decimal form
unfoldable pub number_in : ℕ → List ℕ → Option ℕ
number_in limit bytes =
    let value : ℕ = digits_value 10 bytes in
    if bytes_eq bytes (decimal value) && nat_lt value limit then Some value else None

-- a number of 64 bits
abbrev pub u64_in : List ℕ → Option ℕ
u64_in = number_in (2 ^ 64)

-- a number of 32 bits
abbrev pub u32_in : List ℕ → Option ℕ
u32_in = number_in (2 ^ 32)

-- what follows these bytes at the front of the line
abbrev pub after : List ℕ → List ℕ → Option (List ℕ)
after front line =
    if bytes_eq (take (length front) line) front then Some (drop (length front) line) else None

-- what stands before the first of such bytes, and what stands after it
abbrev pub before_byte : ℕ → List ℕ → List ℕ
before_byte mark bytes = before_first (λ b. b == mark) bytes

abbrev pub after_byte : ℕ → List ℕ → List ℕ
after_byte mark bytes = after_first (λ b. b == mark) bytes

-- what is read after a front, where the line has it, or else this
abbrev pub on_front : {X : Type 0} → Option (List ℕ) → (List ℕ → Option X) → Option X → Option X
on_front None read other = other
on_front (Some rest) read other = read rest
