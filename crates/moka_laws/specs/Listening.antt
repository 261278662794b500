-- Key locks, notices and open asks in every reached state.
use Rattle.std.specs.Prelude.{◌≡◌, ◌≢◌, ◌⊎◌, ℕ, Bool, true, List, [], ◌∷◌, map, Option, Some, None, IsSome, Contains}
use Rattle.moka_hist.specs.State.{Call, State}
use Rattle.moka_hist.specs.Plan.{Aim, Change, Item, hearing}
use Rattle.moka_hist.specs.Plan as plan
use Rattle.moka_hist.specs.Notices.{LocksAreHeld, NoticesAreApart, NoticesAreInOrder, NoticesAreSettled}
use Rattle.moka_hist.specs.Places.{Initializes}
use Rattle.moka_hist.specs.Run.{Any, Happens, IsReached}
use Rattle.moka_hist.specs.Visits.{is_running, key_under}
use Rattle.moka_hist.specs.declared.events.Event.TheVariants as event
use Rattle.moka_hist.specs.declared.events.Told.TheVariants as told
use Rattle.moka_hist.specs.declared.loads.Load.{Load}
use Rattle.moka_hist.specs.declared.notices.Notice.{Notice}
use Rattle.moka_hist.specs.declared.replies.Reply.TheVariants as reply
use Rattle.moka_laws.specs.Starting.{Leads}

-- in every reached state each replaced or removed record has its notice, and no write is logged
-- while its notice runs
abbrev pub ReachedNoticesAreSettled : (K V E : Type 0) → (K → K → Bool) → Type 0
ReachedNoticesAreSettled K V E eq = (s : State K V E) → IsReached eq s → NoticesAreSettled s

-- in every reached state those calls hold locks that are between their locking and their freeing,
-- and those notices keep one that run though their calls were dropped
abbrev pub ReachedLocksAreHeld : (K V E : Type 0) → (K → K → Bool) → Type 0
ReachedLocksAreHeld K V E eq = (s : State K V E) → IsReached eq s → LocksAreHeld s

module _ {K V : Type 0} where
  -- the key that a moment is taken for
  abbrev pub changed_key : Change K V → K
  changed_key (plan.To_store key value) = key
  changed_key (plan.To_take_out removal key) = key

  -- the key that a look is made at under the key's lock: that of a record which was chosen to leave
  abbrev pub locked_by : Aim K V → K → Option K
  locked_by (plan.To_show form) at = None
  locked_by (plan.To_load sought) at = None
  locked_by (plan.To_own sought) at = None
  locked_by (plan.To_insert key value) at = None
  locked_by (plan.To_compute compute) at = None
  locked_by (plan.To_evict key stamp cause) at = Some at

module _ {K V E : Type 0} where
  -- the key that the plan is to write or to take out, to look up for that, or to tell the listener
  -- of
  abbrev pub locked_key : List (Item K V E) → Option K
  locked_key [] = None
  locked_key (plan.Drain ∷ rest) = None
  locked_key (plan.Ended notice ∷ rest) = None
  locked_key (plan.Post held ∷ rest) = None
  locked_key (plan.Turn ∷ rest) = None
  locked_key (plan.Apply ∷ rest) = None
  locked_key (plan.End ∷ rest) = None
  locked_key (plan.Get aim at ∷ rest) = locked_by aim at
  locked_key (plan.Judge aim key stored ∷ rest) = None
  locked_key (plan.Own sought ∷ rest) = None
  locked_key (plan.Read sought ∷ rest) = None
  locked_key (plan.Settle with ∷ rest) = None
  locked_key (plan.Ask load ∷ rest) = None
  locked_key (plan.Told load ∷ rest) = None
  locked_key (plan.Own_key compute ∷ rest) = None
  locked_key (plan.Own_alone key ∷ rest) = None
  locked_key (plan.Read_key compute ∷ rest) = None
  locked_key (plan.Ask_op compute found ∷ rest) = None
  locked_key (plan.Told_op compute found ∷ rest) = None
  locked_key (plan.Holds key stamp cause there found ∷ rest) = Some key
  locked_key (plan.Lock key ∷ rest) = None
  locked_key (plan.Unlock wrote ∷ rest) = None
  locked_key (plan.Notice key old cause upsert ∷ rest) = Some key
  locked_key (plan.Heard ∷ rest) = None
  locked_key (plan.Moment change ∷ rest) = Some (changed_key change)
  locked_key (plan.Write key value moment ∷ rest) = Some key
  locked_key (plan.Out removal key ∷ rest) = Some key
  locked_key (plan.Idle ∷ rest) = None
  locked_key (plan.Invalidate_all ∷ rest) = None
  locked_key (plan.Register test ∷ rest) = None
  locked_key (plan.List_keys part ∷ rest) = None
  locked_key (plan.Find key ∷ rest) = None
  locked_key (plan.Scan there found ∷ rest) = None
  locked_key (plan.Candidates parts ∷ rest) = None
  locked_key (plan.Strike there found ∷ rest) = None
  locked_key (plan.Retire ∷ rest) = None
  locked_key (plan.Reply answer ∷ rest) = None

-- in every reached state under a listener a call holds the lock of the key that it is to write or
-- to take out, to look up for that, or to tell of
abbrev pub KeysAreLocked : (K V E : Type 0) → (K → K → Bool) → Type 0
KeysAreLocked K V E eq =
    (s : State K V E) (n : ℕ) (c : Call K V E) (key : K) → IsReached eq s →
    s.world.desk.rules.listener ≡ true → s.calls n ≡ Some c → locked_key c.plan ≡ Some key →
    s.world.desk.locked n ≡ Some key

-- in every reached state a notice that keeps a lock runs, and tells of the key of that lock
abbrev pub KeptAreTold : (K V E : Type 0) → (K → K → Bool) → Type 0
KeptAreTold K V E eq =
    (s : State K V E) (n : ℕ) (key : K) → IsReached eq s → s.world.desk.kept n ≡ Some key →
    (is_running s.world.desk n ≡ true)
    × ((x : Notice K V) × (s.world.desk.notices n ≡ Some x) × (x.key ≡ key))

-- in every reached state locks of equal keys are held under one number: no two calls hold them, no
-- two notices keep them, and no notice keeps one that a call holds
abbrev pub LocksAreOne : (K V E : Type 0) → (K → K → Bool) → Type 0
LocksAreOne K V E eq =
    (s : State K V E) (n m : ℕ) (a b : K) → IsReached eq s → key_under s.world.desk n ≡ Some a →
    key_under s.world.desk m ≡ Some b → eq a b ≡ true → n ≡ m

-- in every reached state the notices of a key stand in the order of its writes
abbrev pub ReachedNoticesAreInOrder : (K V E : Type 0) → (K → K → Bool) → Type 0
ReachedNoticesAreInOrder K V E eq = (s : State K V E) → IsReached eq s → NoticesAreInOrder eq s

-- in every reached state no two notices of equal keys run
abbrev pub ReachedNoticesAreApart : (K V E : Type 0) → (K → K → Bool) → Type 0
ReachedNoticesAreApart K V E eq = (s : State K V E) → IsReached eq s → NoticesAreApart eq s

-- in every reached state no number has two open asks: a call's own, and the listener's
abbrev pub AsksAreOne : (K V E : Type 0) → (K → K → Bool) → Type 0
AsksAreOne K V E eq =
    (s : State K V E) (n : ℕ) → IsReached eq s →
    IsSome (s.world.desk.asks n) → is_running s.world.desk n ≢ true

-- in every reached state an open ask of a call is that of a live one, which waits for the answer
abbrev pub AsksAreLive : (K V E : Type 0) → (K → K → Bool) → Type 0
AsksAreLive K V E eq =
    (s : State K V E) (n : ℕ) → IsReached eq s → IsSome (s.world.desk.asks n) →
    (load : Load K) × Initializes s n load

module _ {K V E : Type 0} where
  -- a live call is to hear how the notice of this number ended: its own, or that of an owed write
  -- that it took up
  pub record HasHearer (s : State K V E) (number : ℕ) : Type 0 where
    pub hearer : ℕ
    pub call : Call K V E
    pub live : s.calls hearer ≡ Some call
    pub hears : hearing hearer call.plan ≡ Some number

  -- an owed write was left with the notice of this number
  abbrev pub IsOwedWith : State K V E → ℕ → Type 0
  IsOwedWith s number = Contains (map (λ o. o.notice) s.world.desk.owed) (Some number)

-- in every reached state a notice that runs, whose number is that of the listener's open ask, is
-- heard by a live call, or will be by that which takes the owed write up that has it; its own call
-- may be gone
abbrev pub RunningAreHeard : (K V E : Type 0) → (K → K → Bool) → Type 0
RunningAreHeard K V E eq =
    (s : State K V E) (number : ℕ) → IsReached eq s → is_running s.world.desk number ≡ true →
    HasHearer s number ⊎ IsOwedWith s number

-- On a reached state the listener was told off, as the answer to a notice that ran, and then some
-- events led here.
pub record WasTurnedOff {K V E : Type 0} (eq : K → K → Bool) (s : State K V E) : Type 0 where
  pub before : State K V E
  pub reached : IsReached eq before
  pub number : ℕ
  pub running : is_running before.world.desk number ≡ true
  pub after : State K V E
  pub told : Happens eq Any before (event.Tell number told.Off) reply.Told after
  pub led : Leads eq after s

-- in every reached state the listener is off only where it was turned off
abbrev pub OffWasTold : (K V E : Type 0) → (K → K → Bool) → Type 0
OffWasTold K V E eq =
    (s : State K V E) → IsReached eq s → s.world.desk.off ≡ true → WasTurnedOff eq s
