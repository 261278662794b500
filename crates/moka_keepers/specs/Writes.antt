-- Writes of keys, and what a map has after them.
use Rattle.std.specs.Prelude.{ℕ, ◌+◌, ◌==◌, cond, List, [], ◌∷◌, Option, Some, None}
use Rattle.std.specs.Option.{option_or}
use Rattle.moka_hist.specs.Finite.{put_at}
use Rattle.moka_keepers.specs.declared.write.Write.{Write}

-- a finite map of numbers
abbrev pub Pairs : Type 0
Pairs = ℕ → Option ℕ

-- the write of this value under the key, or of none
abbrev pub write_of : ℕ → Option ℕ → Write
write_of key value = record { key = key; value = value }

-- the map once the write was made
abbrev pub made : Pairs → Write → Pairs
made pairs write = put_at pairs write.key write.value

-- the map once the writes were made, in their order
abbrev pub after : Pairs → List Write → Pairs
after pairs [] = pairs
after pairs (write ∷ writes) = after (made pairs write) writes

-- what the last write of the key left, if there is a write of it
abbrev pub last_of : ℕ → List Write → Option (Option ℕ)
last_of key [] = None
last_of key (write ∷ writes) =
    option_or (last_of key writes) (cond (write.key == key) (Some write.value) None)

-- how many writes of the key there are
abbrev pub count_of : ℕ → List Write → ℕ
count_of key [] = 0
count_of key (write ∷ writes) =
    cond (write.key == key) (count_of key writes + 1) (count_of key writes)
