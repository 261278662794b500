-- Taking records out of a cache of pairs, one after another.
use Rattle.std.specs.Prelude.{◌≡◌, ℕ, nat_eq, List, map, Some, None}
use Rattle.std.specs.declared.cmp.PartialEq as PartialEq
use Rattle.std.specs.declared.hash.Hash as Hash
use Rattle.moka_hist.specs.Finite.{Lists, put_key}
use Rattle.moka_hist.specs.declared.records.Stored.{Stored}
use Rattle.moka_small.specs.Seen.{small_record}
use Rattle.moka_small.specs.Small.{Small}
use Rattle.moka_polled.specs.Polled.{IsPolled}
use Rattle.moka_polled.specs.declared.machine.PolledMachine.{PolledMachine}
use Rattle.moka_behind.specs.Holding.{IsIdle}

-- a stored pair as the small state has it
abbrev pub small_pair : ℕ × Stored ℕ → ℕ × (ℕ × ℕ)
small_pair pair = (pair.0, small_record pair)

module _ {E : Type 0} {same : PartialEq.Ghosts ℕ} {hash : Hash.Ghosts ℕ} where
  -- the cache holds just these pairs, and no call is live
  pub record HoldsPairs (cache : PolledMachine ℕ ℕ E same hash) (pairs : List (ℕ × Stored ℕ))
      : Type 0 where
    pub small : Small ℕ ℕ E
    pub stands : IsPolled nat_eq cache small
    pub idle : IsIdle small
    pub lists : Lists nat_eq (map small_pair pairs) small.stored

  -- the record under the key was taken out of what this small state has
  pub record HasEvicted (m : Small ℕ ℕ E) (key : ℕ) (new : PolledMachine ℕ ℕ E same hash)
      : Type 0 where
    pub small : Small ℕ ℕ E
    pub stands : IsPolled nat_eq new small
    pub idle : IsIdle small
    pub stored : (q : ℕ) → small.stored q ≡ put_key nat_eq m.stored key None q

  -- so of each small state that the cache stood for, and that has a record of this stamp there
  abbrev pub Evicts : PolledMachine ℕ ℕ E same hash → ℕ → ℕ → PolledMachine ℕ ℕ E same hash → Type 0
  Evicts old key stamp new =
      (m : Small ℕ ℕ E) (value : ℕ) → IsPolled nat_eq old m → IsIdle m →
      m.stored key ≡ Some (value, stamp) → HasEvicted m key new
