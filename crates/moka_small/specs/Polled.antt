-- What one whole poll of a call comes to, as a function of the small state: one row a case.
use Rattle.std.specs.Prelude.{ℕ, zero, suc, ◌==◌, nat_lt, Bool, true, false, cond, ◌&&◌, Option, Some, None, is_some}
use Rattle.std.specs.Option.{option_map, option_and_then, option_map_or}
use Rattle.moka_hist.specs.Finite.{put_key, load_eq}
use Rattle.moka_hist.specs.declared.events.Start.{Start}
use Rattle.moka_hist.specs.declared.events.Start.TheVariants as start
use Rattle.moka_hist.specs.declared.loads.Load.{Load}
use Rattle.moka_hist.specs.declared.loads.Kind.TheVariants as kind
use Rattle.moka_hist.specs.declared.rules.Cause.{Cause}
use Rattle.moka_hist.specs.declared.rules.Cause.TheVariants.{Expired, Explicit, Replaced, Size}
use Rattle.moka_small.specs.declared.outcome.Outcome.{Outcome}
use Rattle.moka_small.specs.declared.outcome.Outcome.TheVariants as outcome
use Rattle.moka_small.specs.Small.{End, With_value, With_nothing, With_error, Stand, Begun, Asks, Was_told, Waits, Small, load_at, waits_for, waiting, with_stand}

-- the greatest of the numbers up to the last that passes the test
abbrev pub greatest : ℕ → (ℕ → Bool) → Option ℕ
greatest zero test = cond (test 0) (Some 0) None
greatest (suc k) test = cond (test (suc k)) (Some (suc k)) (greatest k test)

-- without durations a record has to leave for want of room alone, where there is a capacity
abbrev pub cause_holds : Option ℕ → Cause → Bool
cause_holds capacity Size = is_some capacity
cause_holds capacity Explicit = false
cause_holds capacity Expired = false
cause_holds capacity Replaced = false

-- nothing is stored under the key any more, if anything was
abbrev pub taken_out : {K A : Type 0} → (K → K → Bool) → (K → Option A) → K → K → Option A
taken_out eq stored key = cond (is_some (stored key)) (put_key eq stored key None) stored

-- what a call answers whose load ended so: the value, as fresh if it is the owner
abbrev pub outcome_of : {V E : Type 0} → End V E → Bool → Outcome V E
outcome_of (With_value value) fresh = outcome.Loaded value fresh
outcome_of With_nothing fresh = outcome.Nothing
outcome_of (With_error error) fresh = outcome.Failed error

module _ {K V E : Type 0} where
  -- a call that stands there, if it is live, asks what an equal load gives, or was told
  abbrev pub owns : (K → K → Bool) → Option (Stand K V E) → Load K → Bool
  owns eq stand load =
      option_map_or (λ own. load_eq eq own load) (option_and_then load_at stand) false

  -- the call that owns an equal load: there is at most one
  abbrev pub owner_of : (K → K → Bool) → Small K V E → Load K → Option ℕ
  owner_of eq m load = greatest m.last (λ n. owns eq (m.stands n) load)

  -- the value under the key
  abbrev pub value_under : Small K V E → K → Option V
  value_under m key = option_map (λ kept. kept.0) (m.stored key)

  -- ---- what changes

  -- the call is gone
  abbrev pub gone : Small K V E → ℕ → Small K V E
  gone m n = with_stand m n None

  -- the value is stored under the key, with the call's number as its stamp, and the call is gone
  abbrev pub gone_storing : (K → K → Bool) → Small K V E → ℕ → K → V → Small K V E
  gone_storing eq m n key value =
      record (gone m n) { stored = put_key eq m.stored key (Some (value, n)) }

  -- nothing is stored under the key, and the call is gone
  abbrev pub gone_taking : (K → K → Bool) → Small K V E → ℕ → K → Small K V E
  gone_taking eq m n key = record (gone m n) { stored = taken_out eq m.stored key }

  -- the call is gone; where it was the last that waited for its owner, how that ended is no longer
  -- kept
  abbrev pub gone_waiter : Small K V E → ℕ → Small K V E
  gone_waiter m n = record (gone m n) {
    ends = λ o. cond (waits_for (m.stands n) o && waiting m o == 1) None (m.ends o);
  }

  -- how an owner ended is kept where some call waits for it
  abbrev pub ends_with : Small K V E → ℕ → End V E → ℕ → Option (End V E)
  ends_with m n end o = cond (nat_lt 0 (waiting m n) && n == o) (Some end) (m.ends o)

  -- the call ended its load so, and is gone
  abbrev pub gone_owner : Small K V E → ℕ → End V E → Small K V E
  gone_owner m n end = record (gone m n) { ends = ends_with m n end }

  -- it ended its load with a value, which is stored, and is gone
  abbrev pub gone_loading : (K → K → Bool) → Small K V E → ℕ → K → V → Small K V E
  gone_loading eq m n key value =
      record (gone_storing eq m n key value) { ends = ends_with m n (With_value value) }

  -- ---- the rows

  -- a load of an absent key asks, unless another call owns an equal load
  abbrev pub claims : Small K V E → ℕ → Load K → Option ℕ → Outcome V E × Small K V E
  claims m n load None = (outcome.Asks, with_stand m n (Some (Asks load)))
  claims m n load (Some owner) = (outcome.Waits, with_stand m n (Some (Waits owner load)))

  -- a load whose key is stored answers what is there, and does the other thing where it isn't
  abbrev pub or_else : Small K V E → ℕ → Option V → Outcome V E × Small K V E →
      Outcome V E × Small K V E
  or_else m n None other = other
  or_else m n (Some value) other = (outcome.Loaded value false, gone m n)

  abbrev pub loads : (K → K → Bool) → Small K V E → ℕ → Load K → Outcome V E × Small K V E
  loads eq m n load =
      or_else m n (value_under m load.key) (claims m n load (owner_of eq m load))

  -- the record of this stamp stands under the key, and has to leave for the cause
  abbrev pub has_to_leave : Small K V E → K → ℕ → Cause → Bool
  has_to_leave m key stamp cause =
      option_map_or (λ kept. kept.1 == stamp && cause_holds m.capacity cause) (m.stored key) false

  -- the first poll of a call that was started so; none is a compute, an invalidation of all or a walk
  abbrev pub begins : (K → K → Bool) → Small K V E → ℕ → Start K V → Outcome V E × Small K V E
  begins eq m n (start.Get key) = (outcome.Found (value_under m key), gone m n)
  begins eq m n (start.Insert key value) = (outcome.Done, gone_storing eq m n key value)
  begins eq m n (start.GetWith key replace) =
      loads eq m n (record { key = key; kind = kind.GetWith })
  begins eq m n (start.Optional key) = loads eq m n (record { key = key; kind = kind.Optional })
  begins eq m n (start.Try key) = loads eq m n (record { key = key; kind = kind.Try })
  begins eq m n (start.OrInsert key value) =
      or_else m n (value_under m key) (outcome.Loaded value true, gone_storing eq m n key value)
  begins eq m n (start.Compute key) = (outcome.Waits, m)
  begins eq m n (start.TryCompute key) = (outcome.Waits, m)
  begins eq m n (start.ComputeAlone key) = (outcome.Waits, m)
  begins eq m n (start.Upsert key) = (outcome.Waits, m)
  begins eq m n (start.Invalidate key) = (outcome.Done, gone_taking eq m n key)
  begins eq m n (start.Remove key) = (outcome.Found (value_under m key), gone_taking eq m n key)
  begins eq m n (start.Evict key stamp cause) =
      cond (has_to_leave m key stamp cause)
      (outcome.Evicted, record (gone m n) { stored = put_key eq m.stored key None })
      (outcome.Kept, gone m n)
  begins eq m n start.InvalidateAll = (outcome.Waits, m)
  begins eq m n (start.InvalidateIf test) = (outcome.Waits, m)
  begins eq m n start.Iter = (outcome.Waits, m)
  begins eq m n start.Pending = (outcome.Waits, m)

  -- a load that waits answers as its owner ended, if that has, and waits on if not
  abbrev pub reads : Small K V E → ℕ → Option (End V E) → Outcome V E × Small K V E
  reads m n None = (outcome.Waits, m)
  reads m n (Some end) = (outcome_of end false, gone_waiter m n)

  -- an owner that was told how its load ended answers that, and stores a value
  abbrev pub ends_so : (K → K → Bool) → Small K V E → ℕ → Load K → End V E →
      Outcome V E × Small K V E
  ends_so eq m n load (With_value value) =
      (outcome.Loaded value true, gone_loading eq m n load.key value)
  ends_so eq m n load With_nothing = (outcome.Nothing, gone_owner m n With_nothing)
  ends_so eq m n load (With_error error) = (outcome.Failed error, gone_owner m n (With_error error))

  -- what the poll of the live call comes to that stands there, and the small state then
  abbrev pub polled : (K → K → Bool) → Small K V E → ℕ → Stand K V E → Outcome V E × Small K V E
  polled eq m n (Begun start) = begins eq m n start
  polled eq m n (Asks load) = (outcome.Waits, m)
  polled eq m n (Was_told load end) = ends_so eq m n load end
  polled eq m n (Waits owner load) = reads m n (m.ends owner)
