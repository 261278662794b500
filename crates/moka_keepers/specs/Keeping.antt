-- What keepers tell, and what a put makes of it.
use Rattle.std.specs.Prelude.{◌≡◌, ◌⊎◌, List, [], ◌∷◌, ◌++◌, Option, Some, IfSome}
use Rattle.std.specs.Option.{option_map}
use Rattle.moka_keepers.specs.declared.write.Write.{Write}
use Rattle.moka_keepers.specs.Writes.{Pairs, made}

-- what a keeper tells: its map, and the puts that answered Ok, oldest first
pub record Kept : Type 0 where
  pub pairs : Option Pairs
  pub puts : Option (List Write)

-- the map with the write made, where the map was told
abbrev pub pairs_with : Option Pairs → Write → Option Pairs
pairs_with pairs write = option_map (λ before. made before write) pairs

-- the puts with the write after them, where they were told
abbrev pub puts_with : Option (List Write) → Write → Option (List Write)
puts_with puts write = option_map (λ before. before ++ write ∷ []) puts

-- a put that answered Ok: the map, where it is told, has the write made, and the list has it last
pub record HasPut (old : Kept) (write : Write) (new : Kept) : Type 0 where
  pub pairs : IfSome new.pairs (λ now. pairs_with old.pairs write ≡ Some now)
  pub puts : IfSome new.puts (λ now. puts_with old.puts write ≡ Some now)

-- a put that failed: the map, where it is told, is as it was, or has the write made all the same;
-- the list is as it was
pub record HasFailed (old : Kept) (write : Write) (new : Kept) : Type 0 where
  pub pairs : IfSome new.pairs
      (λ now. (old.pairs ≡ Some now) ⊎ (pairs_with old.pairs write ≡ Some now))
  pub puts : IfSome new.puts (λ now. old.puts ≡ Some now)
