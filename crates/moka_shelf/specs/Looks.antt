-- What was hidden from a caller.
use Rattle.std.specs.Prelude.{◌≡◌, ◌⊎◌, ◌<◌, ℕ, ◌-◌, ◌^◌}

-- A count of 64 bits has risen. At the greatest number it stands still, and counts as risen.
abbrev pub Rises : ℕ → ℕ → Type 0
Rises old new = (old < new) ⊎ (new ≡ 2 ^ 64 - 1)

-- how many items were hidden from a look, and the number of the last of them
pub record Hiding : Type 0 where
  pub count : ℕ
  pub last : ℕ

-- the same of a look, by what its shelf says of looks
abbrev pub hiding : {H : Type 0} → (hidden last : H → ℕ) → H → Hiding
hiding hidden last look = record { count = hidden look; last = last look }
