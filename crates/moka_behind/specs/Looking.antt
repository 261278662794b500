-- What a look at a cache of pairs comes to, and how a load of it ends.
use Rattle.std.specs.Prelude.{◌≡◌, ℕ, nat_eq, List, Option, Some, None, is_some, length}
use Rattle.std.specs.List.{IsDistinct}
use Rattle.std.specs.Set.{is_member}
use Rattle.std.specs.declared.cmp.PartialEq as PartialEq
use Rattle.std.specs.declared.hash.Hash as Hash
use Rattle.moka_small.specs.declared.outcome.Outcome.{Outcome}
use Rattle.moka_small.specs.declared.outcome.Outcome.TheVariants as outcome
use Rattle.moka_small.specs.Small.{End, With_nothing, With_value}
use Rattle.moka_polled.specs.declared.machine.PolledMachine.{PolledMachine}
use Rattle.moka_keepers.specs.Writes.{Pairs}
use Rattle.moka_behind.specs.declared.pairs.Looked.{Looked}
use Rattle.moka_behind.specs.declared.pairs.Looked.TheVariants as looked
use Rattle.moka_behind.specs.Holding.{Holds, HoldsAsking}

-- what a look came to whose call was polled to this
abbrev pub looked_by : {E : Type 0} → ℕ → Outcome ℕ E → Looked
looked_by call outcome.Waits = looked.Asks call
looked_by call outcome.Asks = looked.Asks call
looked_by call (outcome.Loaded value fresh) = looked.Found value
looked_by call outcome.Nothing = looked.Asks call
looked_by call (outcome.Failed error) = looked.Asks call
looked_by call (outcome.Found found) = looked.Asks call
looked_by call outcome.Done = looked.Asks call
looked_by call outcome.Evicted = looked.Asks call
looked_by call outcome.Kept = looked.Asks call

-- how a load ends that found this
abbrev pub end_of : {E : Type 0} → Option ℕ → End ℕ E
end_of None = With_nothing
end_of (Some value) = With_value value

module _ {E : Type 0} {same : PartialEq.Ghosts ℕ} {hash : Hash.Ghosts ℕ} where
  -- A look at the key found its value, and no call is live; or the key isn't stored, and the call
  -- asks what it has.
  abbrev pub Looks : Looked → ℕ → Pairs → PolledMachine ℕ ℕ E same hash → Type 0
  Looks (looked.Found value) key pairs new = (pairs key ≡ Some value) × Holds new pairs
  Looks (looked.Asks call) key pairs new = (pairs key ≡ None) × HoldsAsking new call key pairs

-- there are so many keys of the map, in whatever list each of them stands once
abbrev pub CountsKeys : Pairs → ℕ → Type 0
CountsKeys pairs count =
    (keys : List ℕ) → IsDistinct nat_eq keys →
    ((key : ℕ) → is_some (pairs key) ≡ is_member nat_eq keys key) → count ≡ length keys
