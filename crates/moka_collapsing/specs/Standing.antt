-- How the gateway stands on the cache: which calls are live, and why.
use Rattle.std.specs.Prelude.{◌≡◌, ◌≢◌, ◌⊎◌, ℕ, ◌+◌, ◌<◌, ◌≤◌, List, [], ◌∷◌, drop, length, Option, Some, IsSome, nat_eq}
use Rattle.std.specs.Option.{option_map_or}
use Rattle.std.specs.declared.result.Result.{Result}
use Rattle.std.specs.declared.result.Result.TheVariants.{Ok, Err}
use Rattle.moka_hist.specs.declared.events.Start.TheVariants as start
use Rattle.moka_hist.specs.declared.events.Told.{Told}
use Rattle.moka_hist.specs.declared.events.Told.TheVariants as told
use Rattle.moka_hist.specs.declared.loads.Load.{Load}
use Rattle.moka_hist.specs.declared.loads.Kind.TheVariants as kind
use Rattle.moka_small.specs.declared.outcome.Outcome.{Outcome}
use Rattle.moka_small.specs.Small.{Asks, Begun, Small, Stand, Waits, started, waiting}
use Rattle.moka_small.specs.Polled.{polled, value_under}
use Rattle.moka_collapsing.specs.declared.slot.Place.{Place}
use Rattle.moka_collapsing.specs.Upstream.{Upstream, Waiter}
use Rattle.moka_collapsing.specs.Waiting.{Waiting, place_of}

-- the small state of the cache
abbrev pub Cache : Type 0
Cache = Small ℕ ℕ ℕ

-- the load of a request
abbrev pub load_of : ℕ → Load ℕ
load_of key = record { key = key; kind = kind.Try }

-- what the call of a request comes to that is started and polled, and the small state then
abbrev pub begun : Cache → ℕ → Outcome ℕ ℕ × Cache
begun m key =
    polled nat_eq (started m (start.Try key)) (m.last + 1) (Begun (start.Try key))

-- what the call that asks is told
abbrev pub told_by : Result ℕ ℕ → Told ℕ ℕ
told_by (Ok value) = told.Value value
told_by (Err error) = told.Err error

-- the requests on the list, if there is one
abbrev pub requests_on : Option Waiting → List Waiter
requests_on list = option_map_or (λ w. w.requests) list []

-- P holds of each of these, and no two have one number
abbrev pub Each : (Waiter → Type 0) → List Waiter → Type 0
Each P [] = Unit {0}
Each P (waiter ∷ waiters) = P waiter × Each P waiters

abbrev pub AreDistinct : List Waiter → Type 0
AreDistinct [] = Unit {0}
AreDistinct (waiter ∷ waiters) =
    Each (λ other. other.0 ≢ waiter.0) waiters × AreDistinct waiters

-- the call of this number waits for the one that asks for the key
abbrev pub WaitsOn : Cache → ℕ → ℕ → ℕ → Type 0
WaitsOn m asking key n = m.stands n ≡ Some (Waits asking (load_of key))

-- The list of this key is not empty, and its numbers were given out. One call asks, and the call of
-- each request but the first waits for that.
pub record IsListOf (m : Cache) (key : ℕ) (w : Waiting) : Type 0 where
  pub some : 0 < length w.requests
  pub distinct : AreDistinct w.requests
  pub numbered : Each (λ waiter. waiter.0 ≤ m.last) w.requests
  pub asks : m.stands w.asking ≡ Some (Asks (load_of key))
  pub waits : Each (λ waiter. WaitsOn m w.asking key waiter.0) (drop 1 w.requests)

-- the call can be dropped: it is live, and nobody waits for it
pub record IsFree (m : Cache) (call : ℕ) : Type 0 where
  pub live : IsSome (m.stands call)
  pub alone : waiting m call ≡ 0

-- why a call stands there: it asks for the key of a list, or it waits for the call that does
pub record AsksFor (lists : ℕ → Option Waiting) (n : ℕ) (stand : Stand ℕ ℕ ℕ) : Type 0 where
  pub key : ℕ
  pub list : Waiting
  pub on : lists key ≡ Some list
  pub call : n ≡ list.asking
  pub stands : stand ≡ Asks (load_of key)

pub record WaitsFor (lists : ℕ → Option Waiting) (n : ℕ) (stand : Stand ℕ ℕ ℕ) : Type 0 where
  pub key : ℕ
  pub list : Waiting
  pub on : lists key ≡ Some list
  pub place : Place
  pub call : place_of (drop 1 list.requests) n ≡ Some place
  pub stands : stand ≡ Waits list.asking (load_of key)

-- the cache serves the lists: it has what is stored, and the calls of the requests that wait
pub record Serves (m : Cache) (lists : ℕ → Option Waiting) (u : Upstream) : Type 0 where
  pub stored : (key : ℕ) → value_under m key ≡ u.stored key
  pub last : m.last ≡ u.last
  pub waiting : (key : ℕ) → requests_on (lists key) ≡ u.waiting key
  pub listed : (key : ℕ) (w : Waiting) → lists key ≡ Some w → IsListOf m key w
  pub only : (n : ℕ) (stand : Stand ℕ ℕ ℕ) → m.stands n ≡ Some stand →
      AsksFor lists n stand ⊎ WaitsFor lists n stand
