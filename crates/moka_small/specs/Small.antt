-- The small state of a cache whose calls are polled whole: what is stored, where each live call
-- stands, and how owners ended for whom some call still waits.
use Rattle.std.specs.Prelude.{ℕ, ◌+◌, ◌==◌, Bool, true, false, not, Option, Some, None, is_some}
use Rattle.std.specs.Option.{option_and_then, option_map_or}
use Rattle.moka_hist.specs.declared.events.Start.{Start}
use Rattle.moka_hist.specs.declared.events.Start.TheVariants as start
use Rattle.moka_hist.specs.declared.loads.Load.{Load}
use Rattle.moka_hist.specs.Finite.{put_at}
use Rattle.moka_laws.specs.Readers.{how_many}

-- how a load ended: with a value, with neither a value nor an error, or with an error
pub data End (V E : Type 0) : Type 0 where
  With_value : (value : V) → End V E
  With_nothing : End V E
  With_error : (error : E) → End V E

-- Where a live call stands: it was started so and hasn't been polled yet; it asks what the load
-- gives; it was told how that ended; or it waits for the call that owns an equal load.
pub data Stand (K V E : Type 0) : Type 0 where
  Begun : (start : Start K V) → Stand K V E
  Asks : (load : Load K) → Stand K V E
  Was_told : (load : Load K) → (end : End V E) → Stand K V E
  Waits : (owner : ℕ) → (load : Load K) → Stand K V E

pub record Small (K V E : Type 0) : Type 0 where
  -- the value and the stamp under each key
  pub stored : K → Option (V × ℕ)
  -- where each live call stands
  pub stands : ℕ → Option (Stand K V E)
  -- how an owner ended, while some call that waited for it has still to be polled
  pub ends : ℕ → Option (End V E)
  -- the last number given out
  pub last : ℕ
  -- the capacity that the cache was built with, if any
  pub capacity : Option ℕ

-- nothing is stored, and no call was started
abbrev pub empty : {K V E : Type 0} → Option ℕ → Small K V E
empty capacity =
    record {
      stored = λ _. None;
      stands = λ _. None;
      ends = λ _. None;
      last = 0;
      capacity = capacity;
    }

-- the call can be started here: it has no replace test, and is no compute, no invalidation of all and
-- no walk
abbrev pub is_plain_start : {K V : Type 0} → Start K V → Bool
is_plain_start (start.Get key) = true
is_plain_start (start.Insert key value) = true
is_plain_start (start.GetWith key replace) = not (is_some replace)
is_plain_start (start.Optional key) = true
is_plain_start (start.Try key) = true
is_plain_start (start.OrInsert key value) = true
is_plain_start (start.Compute key) = false
is_plain_start (start.TryCompute key) = false
is_plain_start (start.ComputeAlone key) = false
is_plain_start (start.Upsert key) = false
is_plain_start (start.Invalidate key) = true
is_plain_start (start.Remove key) = true
is_plain_start (start.Evict key stamp cause) = true
is_plain_start start.InvalidateAll = false
is_plain_start (start.InvalidateIf test) = false
is_plain_start start.Iter = false
is_plain_start start.Pending = false

module _ {K V E : Type 0} where
  -- the load that a call owns: it asks what that gives, or was told
  abbrev pub load_at : Stand K V E → Option (Load K)
  load_at (Begun start) = None
  load_at (Asks load) = Some load
  load_at (Was_told load end) = Some load
  load_at (Waits owner load) = None

  -- the owner that a call waits for
  abbrev pub owner_at : Stand K V E → Option ℕ
  owner_at (Begun start) = None
  owner_at (Asks load) = None
  owner_at (Was_told load end) = None
  owner_at (Waits owner load) = Some owner

  -- a call that stands there, if it is live, waits for this owner
  abbrev pub waits_for : Option (Stand K V E) → ℕ → Bool
  waits_for stand owner = option_map_or (λ o. o == owner) (option_and_then owner_at stand) false

  -- how many calls wait for the owner
  abbrev pub waiting : Small K V E → ℕ → ℕ
  waiting m owner = how_many m.last (λ n. waits_for (m.stands n) owner)

  -- the state with the call of this number standing there, or gone
  abbrev pub with_stand : Small K V E → ℕ → Option (Stand K V E) → Small K V E
  with_stand m n stand = record m { stands = put_at m.stands n stand }

  -- the state once a call was started, under the next number
  abbrev pub started : Small K V E → Start K V → Small K V E
  started m start =
      record (with_stand m (m.last + 1) (Some (Begun start))) { last = m.last + 1 }
