-- What is taken out and what is kept, what such a call answers, and what a disabled cache does.
use Rattle.std.specs.Prelude.{◌≡◌, ◌↔◌, ◌⊎◌, ℕ, Bool, true, false, List, [], ◌∷◌, Option, Some, None, IsSome, IsSomeAnd, Contains}
use Rattle.moka_hist.specs.State.{Call, State}
use Rattle.moka_hist.specs.Plan.{Item, Removal, held_by}
use Rattle.moka_hist.specs.Plan as plan
use Rattle.moka_hist.specs.Causes.{chosen_holds}
use Rattle.moka_hist.specs.Visits.{is_hit, times_at}
use Rattle.moka_hist.specs.Tables.{removed}
use Rattle.moka_hist.specs.Writing.{stamp_asked, removed_answer, nothing_answer, nothing_rest}
use Rattle.moka_hist.specs.Step.{Step}
use Rattle.moka_hist.specs.Places.{Holds}
use Rattle.moka_hist.specs.Run.{IsReached}
use Rattle.moka_laws.specs.Starts.{removal_started}
use Rattle.moka_hist.specs.declared.accesses.Turn.{Turn}
use Rattle.moka_hist.specs.declared.accesses.Turn.TheVariants as turn
use Rattle.moka_hist.specs.declared.events.Start.{Start}
use Rattle.moka_hist.specs.declared.events.Start.TheVariants as start
use Rattle.moka_hist.specs.declared.records.Mode.TheVariants as mode
use Rattle.moka_hist.specs.declared.records.Stored.{Stored}
use Rattle.moka_hist.specs.declared.replies.Answer.{Answer}
use Rattle.moka_hist.specs.declared.replies.Answer.TheVariants as answer
use Rattle.moka_hist.specs.declared.writes.Holding.{Holding}
use Rattle.moka_hist.specs.declared.writes.Holding.TheVariants as holding
use Rattle.moka_hist.specs.declared.rules.Cause.{Cause}
use Rattle.moka_hist.specs.declared.writes.Write.{Write}
use Rattle.moka_hist.specs.declared.writes.Write.TheVariants.{Remove}
use Rattle.moka_laws.specs.Starting.{Leads, WasStarted}

module _ {K V E : Type 0} where
  -- the record of this stamp stands under the key; and no record of the stamp stands under any
  abbrev pub StandsAs : State K V E → K → ℕ → Type 0
  StandsAs s key stamp = IsSomeAnd (s.world.table.stored key) (λ pair. pair.1.stamp ≡ stamp)

  abbrev pub IsGone : State K V E → ℕ → Type 0
  IsGone s stamp = (q : K) → StandsAs s q stamp → ⊥

-- ---- a disabled cache

-- no record is stored, none ever was, and no write or notice stands anywhere
pub record StoresNothing {K V E : Type 0} (s : State K V E) : Type 0 where
  pub stored : (q : K) → s.world.table.stored q ≡ None
  pub committed : s.world.table.committed ≡ []
  pub held : (n : ℕ) (c : Call K V E) → s.calls n ≡ Some c → held_by c.plan ≡ None
  pub owed : s.world.desk.owed ≡ []
  pub log : s.world.desk.log ≡ []
  pub applied : s.world.desk.applied ≡ []
  pub unnoticed : (n : ℕ) → s.world.desk.notices n ≡ None

-- in every reached state of a cache of capacity 0 nothing is stored
abbrev pub DisabledStoresNothing : (K V E : Type 0) → (K → K → Bool) → Type 0
DisabledStoresNothing K V E eq =
    (s : State K V E) → IsReached eq s → s.world.desk.rules.max_capacity ≡ Some 0 → StoresNothing s

-- ---- places of writes

-- What has places for this number is a live call: it holds the write of its own number, or has the
-- moment of a change that is not decided; or it holds the write that it took up.
pub record PlacesAreUsed {K V E : Type 0} (s : State K V E) (n : ℕ) : Type 0 where
  pub live : (held : Holding) → s.world.desk.holding n ≡ Some held → IsSome (s.calls n)
  pub own : (pending : Option ℕ) → s.world.desk.holding n ≡ Some (holding.Own pending) →
      IsSome pending ⊎ Holds s n n
  pub taken_up : (c : Call K V E) (write : Write) → s.calls n ≡ Some c →
      s.world.desk.holding n ≡ Some (holding.TookUp write) → held_by c.plan ≡ Some write

-- in every reached state only a live call has a place, and for a write or a change of its own:
-- where a removal found nothing its places come back, and so do those of a call that has answered
-- or was dropped
abbrev pub PlacesComeBack : (K V E : Type 0) → (K → K → Bool) → Type 0
PlacesComeBack K V E eq = (s : State K V E) (n : ℕ) → IsReached eq s → PlacesAreUsed s n

-- ---- what a removal answers

-- the stamp is the one that is asked for, if any is
abbrev pub IsAsked : Option ℕ → ℕ → Type 0
IsAsked None stamp = Unit {0}
IsAsked (Some asked) stamp = stamp ≡ asked

-- The step on the way to this state, after the call's start, by which the call took the pair out
-- that stood under the key, and committed that.
pub record TookOut {K V E : Type 0} (eq : K → K → Bool) (start : Start K V) (n : ℕ) (key : K)
    (pair : K × Stored V) (s : State K V E) : Type 0 where
  pub before : State K V E
  pub was : WasStarted eq start n before
  pub stood : before.world.table.stored key ≡ Some pair
  pub after : State K V E
  pub turn : Turn K V E
  pub step : Step eq before n turn after
  pub out : after.world.table ≡ removed eq n before.world.table key
  pub led : Leads eq after s

-- The call has taken out the pair that was asked for: its answer is of that, its removal is
-- committed and logged, and no record of that stamp is stored.
pub record SaysTaken {K V E : Type 0} (eq : K → K → Bool) (start : Start K V) (s : State K V E)
    (n : ℕ) (removal : Removal K) (key : K) (a : Answer K V E) : Type 0 where
  pub pair : K × Stored V
  pub took : TookOut eq start n key pair s
  pub asked : IsAsked (stamp_asked removal) pair.1.stamp
  pub answer : a ≡ removed_answer removal pair.1.value
  pub committed : Contains s.world.table.committed n
  pub logged : Contains s.world.desk.log (Remove n pair.1.stamp)
  pub gone : IsGone s pair.1.stamp

-- the call has taken nothing out, which is its answer
pub record SaysNothing {K V E : Type 0} (s : State K V E) (n : ℕ) (removal : Removal K)
    (a : Answer K V E) : Type 0 where
  pub answer : a ≡ nothing_answer removal
  pub uncommitted : Contains s.world.table.committed n → ⊥

-- a call that was started to take a record out, and answers, has committed a removal, and answers
-- the record that it took out; or it has committed none, and answers so
abbrev pub RemovalsAnswer : (K V E : Type 0) → (K → K → Bool) → Type 0
RemovalsAnswer K V E eq =
    (s t : State K V E) (start : Start K V) (removal : Removal K) (key : K) (n : ℕ)
    (a : Answer K V E) →
    removal_started start ≡ Some (removal, key) → WasStarted eq start n s →
    Step eq s n (turn.Answer a) t →
    SaysTaken eq start t n removal key a ⊎ SaysNothing t n removal a

-- a call that was started to remove what a key has answers a value exactly where it has committed a
-- removal
abbrev pub RemoveAnswersTaken : (K V E : Type 0) → (K → K → Bool) → Type 0
RemoveAnswersTaken K V E eq =
    (s t : State K V E) (key : K) (n : ℕ) (value : Option V) →
    WasStarted eq (start.Remove key) n s →
    Step eq s n (turn.Answer (answer.Found value)) t →
    IsSome value ↔ Contains t.world.table.committed n

-- a call that was started to evict a record, and answers Evicted, has committed the removal of the
-- record of that stamp: it is logged, and no such record is stored
pub record EvictedThat {K V E : Type 0} (s : State K V E) (n stamp : ℕ) : Type 0 where
  pub committed : Contains s.world.table.committed n
  pub logged : Contains s.world.desk.log (Remove n stamp)
  pub gone : IsGone s stamp

abbrev pub EvictedIsOut : (K V E : Type 0) → (K → K → Bool) → Type 0
EvictedIsOut K V E eq =
    (s t : State K V E) (key : K) (stamp : ℕ) (cause : Cause) (n : ℕ) →
    WasStarted eq (start.Evict key stamp cause) n s → Step eq s n (turn.Answer answer.Evicted) t →
    EvictedThat t n stamp

-- ---- what is kept

module _ {K V E : Type 0} where
  -- nothing is left but to answer that the record was kept: once the lock is freed, or the clock is
  -- read; such a plan is one of these two
  abbrev pub IsToKeep : List (Item K V E) → Type 0
  IsToKeep (plan.Unlock false ∷ plan.Reply answer.Kept ∷ []) = Unit {0}
  IsToKeep (plan.Idle ∷ plan.Reply answer.Kept ∷ []) = Unit {0}
  IsToKeep _ = ⊥

  -- why the record is kept: at the look, and where it was to be taken out, the record that was
  -- chosen stands under the key no longer; where it was judged the cause didn't hold. No other item
  -- decides that.
  abbrev pub StaysByCause : State K V E → Item K V E → Type 0
  StaysByCause s (plan.Get (plan.To_evict key stamp cause) at) = StandsAs s at stamp → ⊥
  StaysByCause s (plan.Holds key stamp cause there found) =
      chosen_holds s.world.desk.rules (times_at s.world.desk found.stamp found.modified)
      (is_hit s.world.desk there found) cause
      ≡ false
  StaysByCause s (plan.Out (plan.To_evict_chosen stamp cause) key) = StandsAs s key stamp → ⊥
  StaysByCause s _ = ⊥

  -- after a step with this reply the call has answered Kept, or nothing else is left to it
  abbrev pub HasKept : State K V E → ℕ → Turn K V E → Type 0
  HasKept t n reply = (reply ≡ turn.Answer answer.Kept) ⊎ IsSomeAnd (t.calls n) (λ c. IsToKeep c.plan)

  -- The call keeps the record by this step exactly where there is cause, or it had done so before,
  -- and then answers that; where there is cause its table operation may also stay undecided.
  pub record KeepsByCause (s : State K V E) (n : ℕ) (c : Call K V E) (item : Item K V E)
      (rest : List (Item K V E)) (reply : Turn K V E) (t : State K V E) : Type 0 where
    pub only : HasKept t n reply → StaysByCause s item ⊎ IsToKeep (item ∷ rest)
    pub each : StaysByCause s item → HasKept t n reply ⊎ (t.calls n ≡ Some (record c { mode = mode.Mid }))
    pub told : IsToKeep (item ∷ rest) → reply ≡ turn.Answer answer.Kept

-- on a reached state a record is kept by cause
abbrev pub KeptByCause : (K V E : Type 0) → (K → K → Bool) → Type 0
KeptByCause K V E eq =
    (s t : State K V E) (n : ℕ) (c : Call K V E) (item : Item K V E) (rest : List (Item K V E))
    (reply : Turn K V E) →
    IsReached eq s → s.calls n ≡ Some c → c.plan ≡ item ∷ rest → Step eq s n reply t →
    KeepsByCause s n c item rest reply t

-- ---- what is missed

module _ {K V E : Type 0} where
  -- after a step of this call nothing is left to it but to say that it found nothing, once the lock
  -- is freed or the clock is read
  abbrev pub HasMissed : State K V E → ℕ → Call K V E → Removal K → Type 0
  HasMissed t n c removal =
      IsSomeAnd (t.calls n) (λ d. d.plan ≡ nothing_rest c.rules.listener removal)

  -- The call goes on by this step as one that found nothing only where nothing stands under the
  -- key; where nothing does it goes on so, and where something does it takes that out, or its table
  -- operation stays undecided.
  pub record MissesByCause (eq : K → K → Bool) (s : State K V E) (n : ℕ) (c : Call K V E)
      (removal : Removal K) (key : K) (t : State K V E) : Type 0 where
    pub only : HasMissed t n c removal → s.world.table.stored key ≡ None
    pub each : s.world.table.stored key ≡ None →
        HasMissed t n c removal ⊎ (t.calls n ≡ Some (record c { mode = mode.Mid }))
    pub taken : IsSome (s.world.table.stored key) →
        (t.world.table ≡ removed eq n s.world.table key) ⊎
        (t.calls n ≡ Some (record c { mode = mode.Mid }))

-- in every state a removal of whatever stands under the key misses by cause
abbrev pub MissedByCause : (K V E : Type 0) → (K → K → Bool) → Type 0
MissedByCause K V E eq =
    (s t : State K V E) (n : ℕ) (c : Call K V E) (removal : Removal K) (key : K)
    (rest : List (Item K V E)) (reply : Turn K V E) →
    s.calls n ≡ Some c → c.plan ≡ plan.Out removal key ∷ rest → stamp_asked removal ≡ None →
    Step eq s n reply t →
    MissesByCause eq s n c removal key t

-- in every reached state under a listener the chosen record that is about to be taken out stands
-- under its key: the key's lock was held since it was found
abbrev pub ChosenStands : (K V E : Type 0) → (K → K → Bool) → Type 0
ChosenStands K V E eq =
    (s : State K V E) (n : ℕ) (c : Call K V E) (key : K) (stamp : ℕ) (cause : Cause)
    (rest : List (Item K V E)) →
    IsReached eq s → s.world.desk.rules.listener ≡ true → s.calls n ≡ Some c →
    c.plan ≡ plan.Out (plan.To_evict_chosen stamp cause) key ∷ rest → StandsAs s key stamp

-- in every reached state records of one stamp stand under equal keys
abbrev pub StampsAreOne : (K V E : Type 0) → (K → K → Bool) → Type 0
StampsAreOne K V E eq =
    (s : State K V E) (stamp : ℕ) (q r : K) → IsReached eq s → StandsAs s q stamp →
    StandsAs s r stamp → eq q r ≡ true
