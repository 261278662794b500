-- Counts in 64 bits.
use Rattle.std.specs.Prelude.{ℕ, ◌+◌, ◌-◌, ◌^◌, min}

-- the number after this one, but the greatest of 64 bits after itself
abbrev pub next_in_64 : ℕ → ℕ
next_in_64 n = min (n + 1) (2 ^ 64 - 1)
