-- How much stands with a desk, and whether an owner has ended.
use Rattle.std.specs.Prelude.{ℕ, Bool, length, is_some, nat_eq}
use Rattle.std.specs.HashMap.{get}
use Rattle.std.specs.Option.{option_and_then}
use Rattle.std.specs.declared.cmp.PartialEq as PartialEq
use Rattle.std.specs.declared.hash.Hash as Hash
use Rattle.std.specs.declared.hash.Hasher as Hasher
use Rattle.std.specs.declared.hash.BuildHasher as BuildHasher
use Rattle.moka_desk.specs.declared.state.Desk.{Desk}

module _ {K V E S H : Type 0} {same : PartialEq.Ghosts K} {hash : Hash.Ghosts K}
    {build : BuildHasher.Ghosts S H} {hasher : Hasher.Ghosts H} where
  -- how many writes dropped calls left, how many are logged, and how many the log has room for
  abbrev pub owed_in : Desk K V E S H same hash build hasher → ℕ
  owed_in desk = length desk.writes.owed.items

  abbrev pub logged_in : Desk K V E S H same hash build hasher → ℕ
  logged_in desk = length desk.writes.log.items

  abbrev pub room_in : Desk K V E S H same hash build hasher → ℕ
  room_in desk = desk.writes.size

  -- the owner has ended that the call waits for
  abbrev pub has_ended : Desk K V E S H same hash build hasher → ℕ → Bool
  has_ended desk call =
      is_some (option_and_then (get nat_eq desk.loads.settled) (get nat_eq desk.loads.joined call))
