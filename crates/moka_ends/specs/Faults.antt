-- Counts of faults, which are kept in 64 bits.
use Rattle.std.specs.Prelude.{ℕ, ◌+◌, ◌<◌, ◌^◌}

-- the count rose, or stands at the greatest number, past which it can't rise
abbrev pub HasRisen : ℕ → ℕ → Type 0
HasRisen old new = new + 1 < 2 ^ 64 → old < new
