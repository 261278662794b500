-- What contracts see of the keeper in memory whose calls may fail.
use Rattle.std.specs.Prelude.{◌≡◌, Bool, ◌==◌, nat_eq, Some}
use Rattle.std.specs.List.{list_any}
use Rattle.std.specs.HashMap.{get}
use Rattle.moka_keepers.specs.declared.map_keeper.MapKeeper.{MapKeeper}
use Rattle.moka_keepers.specs.Counts.{next_in_64}
use Rattle.moka_keepers.specs.Keeping.{Kept}

-- it tells all: its map, and its puts
abbrev pub told_all : MapKeeper → Kept
told_all k = record { pairs = Some (get nat_eq k.pairs); puts = Some k.puts.items }

-- the next call is to fail
abbrev pub fails_next : MapKeeper → Bool
fails_next k = list_any (λ call. call == k.calls) k.failing.items

-- one call was made, and which calls fail stays
pub record IsCalled (old new : MapKeeper) : Type 0 where
  pub counted : new.calls ≡ next_in_64 old.calls
  pub failing : new.failing.items ≡ old.failing.items
