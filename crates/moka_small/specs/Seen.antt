-- Which small state a state of the reference cache is seen as.
use Rattle.std.specs.Prelude.{◌≡◌, ◌≤◌, ◌<◌, ℕ, Bool, true, false, [], ◌∷◌, Option, Some, None}
use Rattle.std.specs.Option.{option_map, option_and_then}
use Rattle.moka_hist.specs.State.{Call, State}
use Rattle.moka_hist.specs.Plan.{Item, is_disabled}
use Rattle.moka_hist.specs.Plan as plan
use Rattle.moka_hist.specs.Step.{takes_of}
use Rattle.moka_hist.specs.Run.{IsReached, fresh_call}
use Rattle.moka_hist.specs.declared.events.Start.{Start}
use Rattle.moka_hist.specs.declared.events.Told.{Told}
use Rattle.moka_hist.specs.declared.events.Told.TheVariants as told
use Rattle.moka_hist.specs.declared.records.Mode.TheVariants as mode
use Rattle.moka_hist.specs.declared.records.Stored.{Stored}
use Rattle.moka_hist.specs.declared.replies.Answer.TheVariants as answer
use Rattle.moka_hist.specs.declared.replies.Ask.TheVariants as ask
use Rattle.moka_hist.specs.declared.replies.Reply.{Reply}
use Rattle.moka_hist.specs.declared.replies.Reply.TheVariants as reply
use Rattle.moka_hist.specs.declared.rules.Rules.{Rules}
use Rattle.moka_hist.specs.declared.visits.Settled.{Settled}
use Rattle.moka_hist.specs.declared.visits.Settled.TheVariants as settled
use Rattle.moka_hist.specs.declared.visits.Takes.{Takes}
use Rattle.moka_polls.specs.Calm.{IsCalm}
use Rattle.moka_small.specs.declared.outcome.Outcome.{Outcome}
use Rattle.moka_small.specs.declared.outcome.Outcome.TheVariants as outcome
use Rattle.moka_small.specs.Small.{End, With_value, With_nothing, With_error, Stand, Begun, Asks, Was_told, Waits, Small, is_plain_start, load_at, owner_at}

-- the rules of a cache of this capacity, if one is set: no durations, no listener
abbrev pub rules_of : Option ℕ → Rules
rules_of capacity =
    record {
      max_capacity = capacity;
      time_to_live = None;
      time_to_idle = None;
      listener = false;
      closures = false;
    }

-- the reply to a poll that came to this
abbrev pub reply_to : {K V E : Type 0} → Outcome V E → Reply K V E
reply_to outcome.Waits = reply.Wait
reply_to outcome.Asks = reply.Ask ask.Init
reply_to (outcome.Loaded value fresh) = reply.Answer (answer.Loaded value fresh)
reply_to outcome.Nothing = reply.Answer answer.Nothing
reply_to (outcome.Failed error) = reply.Answer (answer.InitErr error)
reply_to (outcome.Found found) = reply.Answer (answer.Found found)
reply_to outcome.Done = reply.Answer answer.Done
reply_to outcome.Evicted = reply.Answer answer.Evicted
reply_to outcome.Kept = reply.Answer answer.Kept

module _ {V E : Type 0} where
  -- what a call was told whose load ended so, and what is kept for those that wait for it
  abbrev pub answer_of : End V E → Told V E
  answer_of (With_value value) = told.Value value
  answer_of With_nothing = told.Nothing
  answer_of (With_error error) = told.Err error

  abbrev pub settled_as : End V E → Settled V E
  settled_as (With_value value) = settled.Ready value
  settled_as With_nothing = settled.Nothing
  settled_as (With_error error) = settled.Err error

-- the value and the stamp of a stored pair
abbrev pub small_record : {K V : Type 0} → K × Stored V → V × ℕ
small_record pair = (pair.1.value, pair.1.stamp)

module _ {K V E : Type 0} where
  -- a call of a cache of these rules that has been polled, and has still this to do
  abbrev pub still : Rules → Item K V E → Call K V E
  still rules item =
      record { rules = rules; mode = mode.Parked; plan = item ∷ []; aborts = 0; carried = None }

  -- the call that stands there; what a plain one has to do is the same on a table of one part
  abbrev pub call_at : Rules → Stand K V E → Call K V E
  call_at rules (Begun start) = fresh_call 1 rules start
  call_at rules (Asks load) = still rules (plan.Told load)
  call_at rules (Was_told load end) = still rules (plan.Told load)
  call_at rules (Waits owner load) =
      still rules (plan.Read (record { load = load; replace = None }))

  -- what its open ask takes, and what it was told
  abbrev pub takes_at : Stand K V E → Option Takes
  takes_at (Begun start) = None
  takes_at (Asks load) = Some (takes_of load.kind)
  takes_at (Was_told load end) = None
  takes_at (Waits owner load) = None

  abbrev pub told_at : Stand K V E → Option (Told V E)
  told_at (Begun start) = None
  told_at (Asks load) = None
  told_at (Was_told load end) = Some (answer_of end)
  told_at (Waits owner load) = None

-- What holds of each small state: only calls that may be started here were; the numbers of live
-- calls were given out; and an owner whose end is kept is gone.
pub record IsOrderly {K V E : Type 0} (m : Small K V E) : Type 0 where
  pub begun : (n : ℕ) (start : Start K V) → m.stands n ≡ Some (Begun start) →
      is_plain_start start ≡ true
  pub numbered : (n : ℕ) → m.last < n → m.stands n ≡ None
  pub ended : (n : ℕ) (end : End V E) → m.ends n ≡ Some end →
      (m.stands n ≡ None) × (n ≤ m.last)

-- the state has what the small state has, part by part; no duration is set, and nothing was
-- invalidated, so that what is stored is seen
pub record Views {K V E : Type 0} (s : State K V E) (m : Small K V E) : Type 0 where
  pub rules : s.world.desk.rules ≡ rules_of m.capacity
  pub stores : is_disabled (rules_of m.capacity) ≡ false
  pub valid : s.world.desk.valid_after ≡ None
  pub unhit : s.world.desk.registered ≡ []
  pub last : s.world.desk.last ≡ m.last
  pub stored : (key : K) → option_map small_record (s.world.table.stored key) ≡ m.stored key
  pub calls : (n : ℕ) → s.calls n ≡ option_map (call_at (rules_of m.capacity)) (m.stands n)
  pub owning : (n : ℕ) → s.world.desk.owning n ≡ option_and_then load_at (m.stands n)
  pub joined : (n : ℕ) → s.world.desk.joined n ≡ option_and_then owner_at (m.stands n)
  pub asks : (n : ℕ) → s.world.desk.asks n ≡ option_and_then takes_at (m.stands n)
  pub told : (n : ℕ) → s.world.desk.told n ≡ option_and_then told_at (m.stands n)
  pub settled : (n : ℕ) → s.world.desk.settled n ≡ option_map settled_as (m.ends n)
  pub orderly : IsOrderly m

-- a reached calm state is seen as the small one
pub record IsSeenAs {K V E : Type 0} (eq : K → K → Bool) (s : State K V E) (m : Small K V E)
    : Type 0 where
  pub reached : IsReached eq s
  pub calm : IsCalm s
  pub views : Views s m
