-- What a cache of pairs holds between two calls, and within a load.
use Rattle.std.specs.Prelude.{◌≡◌, ◌+◌, ℕ, nat_eq, Option, Some, None, IsSome}
use Rattle.std.specs.declared.cmp.PartialEq as PartialEq
use Rattle.std.specs.declared.hash.Hash as Hash
use Rattle.moka_hist.specs.Finite.{put_at}
use Rattle.moka_hist.specs.declared.events.Start.{Start}
use Rattle.moka_hist.specs.declared.events.Start.TheVariants as start
use Rattle.moka_hist.specs.declared.loads.Load.{Load}
use Rattle.moka_hist.specs.declared.loads.Kind.TheVariants as kind
use Rattle.moka_small.specs.declared.outcome.Outcome.{Outcome}
use Rattle.moka_small.specs.Small.{Asks, Begun, Small, started}
use Rattle.moka_small.specs.Polled.{polled, value_under}
use Rattle.moka_polled.specs.Polled.{IsPolled}
use Rattle.moka_polled.specs.declared.machine.PolledMachine.{PolledMachine}
use Rattle.moka_keepers.specs.Writes.{Pairs}

-- no call is live, and the cache has a capacity, so that a record may leave for want of room
pub record IsIdle {E : Type 0} (m : Small ℕ ℕ E) : Type 0 where
  pub calls : (n : ℕ) → m.stands n ≡ None
  pub bounded : IsSome m.capacity

-- the load of a key that may find nothing
abbrev pub load_of : ℕ → Load ℕ
load_of key = record { key = key; kind = kind.Optional }

-- this call asks what to store under the key, which isn't stored, and no other call is live
pub record IsAsking {E : Type 0} (call key : ℕ) (m : Small ℕ ℕ E) : Type 0 where
  pub calls : (n : ℕ) → m.stands n ≡ put_at (λ other. None) call (Some (Asks (load_of key))) n
  pub bounded : IsSome m.capacity
  pub absent : value_under m key ≡ None

-- how a write starts: a set as an insert, a del as an invalidate
abbrev pub start_by : ℕ → Option ℕ → Start ℕ ℕ
start_by key None = start.Invalidate key
start_by key (Some value) = start.Insert key value

-- what a call that is started so and polled once comes to, and the small state then
abbrev pub run_of : {E : Type 0} → Small ℕ ℕ E → Start ℕ ℕ → Outcome ℕ E × Small ℕ ℕ E
run_of m begin = polled nat_eq (started m begin) (m.last + 1) (Begun begin)

module _ {E : Type 0} {same : PartialEq.Ghosts ℕ} {hash : Hash.Ghosts ℕ} where
  -- the cache stands for some small state
  abbrev pub IsOpen : PolledMachine ℕ ℕ E same hash → Type 0
  IsOpen cache = (m : Small ℕ ℕ E) × IsPolled nat_eq cache m

  -- a call was started so and polled once, on this small state, under this number
  pub record HasRun (m : Small ℕ ℕ E) (begin : Start ℕ ℕ) (call : ℕ) (outcome : Outcome ℕ E)
      (new : PolledMachine ℕ ℕ E same hash) : Type 0 where
    pub number : call ≡ m.last + 1
    pub came : outcome ≡ (run_of m begin).0
    pub stands : IsPolled nat_eq new (run_of m begin).1

  -- so of each small state that the cache stood for
  abbrev pub Runs : PolledMachine ℕ ℕ E same hash → Start ℕ ℕ → ℕ → Outcome ℕ E →
      PolledMachine ℕ ℕ E same hash → Type 0
  Runs old begin call outcome new =
      (m : Small ℕ ℕ E) → IsPolled nat_eq old m → HasRun m begin call outcome new

  -- the cache stands for a small state of which P holds, with these values
  pub record HoldsSuch (cache : PolledMachine ℕ ℕ E same hash) (P : Small ℕ ℕ E → Type 0)
      (pairs : Pairs) : Type 0 where
    pub small : Small ℕ ℕ E
    pub stands : IsPolled nat_eq cache small
    pub such : P small
    pub values : (key : ℕ) → value_under small key ≡ pairs key

  -- the cache holds these pairs, and no call is live
  abbrev pub Holds : PolledMachine ℕ ℕ E same hash → Pairs → Type 0
  Holds cache pairs = HoldsSuch cache IsIdle pairs

  -- the cache holds these pairs, and the call asks what to store under the key, which it lacks
  abbrev pub HoldsAsking : PolledMachine ℕ ℕ E same hash → ℕ → ℕ → Pairs → Type 0
  HoldsAsking cache call key pairs = HoldsSuch cache (IsAsking call key) pairs

  -- it holds some pairs, and no call is live; or the call asks
  abbrev pub IsReady : PolledMachine ℕ ℕ E same hash → Type 0
  IsReady cache = (pairs : Pairs) × Holds cache pairs

  abbrev pub IsLoading : PolledMachine ℕ ℕ E same hash → ℕ → ℕ → Type 0
  IsLoading cache call key = (pairs : Pairs) × HoldsAsking cache call key pairs
