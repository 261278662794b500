-- Two numbers by turns.
use Rattle.std.specs.Prelude.{ℕ, zero, suc}

-- the first, the second, the first again, and so on
abbrev pub by_turns : ℕ → ℕ → ℕ → ℕ
by_turns first second zero = first
by_turns first second (suc n) = by_turns second first n
