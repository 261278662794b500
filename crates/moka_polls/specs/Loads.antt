-- What the polls of a load do.
use Rattle.std.specs.Prelude.{◌≡◌, ℕ, Bool, true, false, ◌∷◌, [], Option, Some, None}
use Rattle.moka_hist.specs.State.{Call, DeskPart, State}
use Rattle.moka_hist.specs.Plan.{seek}
use Rattle.moka_hist.specs.Plan as plan
use Rattle.moka_hist.specs.Visits.{claimed, opened, read, settled_as, settlement_for, took_told}
use Rattle.moka_hist.specs.Step.{takes_of}
use Rattle.moka_hist.specs.Run.{Any, Happens}
use Rattle.moka_hist.specs.declared.events.Event.TheVariants as event
use Rattle.moka_hist.specs.declared.events.Start.{Start}
use Rattle.moka_hist.specs.declared.events.Start.TheVariants as start
use Rattle.moka_hist.specs.declared.events.Told.TheVariants as told
use Rattle.moka_hist.specs.declared.loads.Load.{Load}
use Rattle.moka_hist.specs.declared.loads.Kind.TheVariants as kind
use Rattle.moka_hist.specs.declared.loads.Sought.{Sought}
use Rattle.moka_hist.specs.declared.replies.Answer.{Answer}
use Rattle.moka_hist.specs.declared.replies.Answer.TheVariants as answer
use Rattle.moka_hist.specs.declared.replies.Ask.TheVariants as ask
use Rattle.moka_hist.specs.declared.replies.Reply.{Reply}
use Rattle.moka_hist.specs.declared.replies.Reply.TheVariants as reply
use Rattle.moka_hist.specs.declared.visits.Settled.{Settled}
use Rattle.moka_hist.specs.declared.visits.Settled.TheVariants as settled
use Rattle.moka_polls.specs.Polls.{begun_in, IsQuiet, IsBegun, HasToDo, parked, seen_in, stored_now, PollGives}

-- what a call that is started so seeks to load, if it loads
abbrev pub sought_by : {K V : Type 0} → Start K V → Option (Sought K)
sought_by (start.GetWith key replace) = Some (seek kind.GetWith key replace)
sought_by (start.Optional key) = Some (seek kind.Optional key None)
sought_by (start.Try key) = Some (seek kind.Try key None)
sought_by _ = None

module _ {K V E : Type 0} where
  -- the desk once the call owns the load and asks its initializer
  abbrev pub asking : (K → K → Bool) → DeskPart K V E → ℕ → Load K → DeskPart K V E
  asking eq w n load = opened (claimed eq w n load None) n (takes_of load.kind)

  -- the desk once the call waits for this owner of the load
  abbrev pub waiting : (K → K → Bool) → DeskPart K V E → ℕ → Load K → ℕ → DeskPart K V E
  waiting eq w n load owner = claimed eq w n load (Some owner)

  -- the desk once the call has taken what it was told, and has ended its load so
  abbrev pub ending : DeskPart K V E → ℕ → Settled V E → DeskPart K V E
  ending w n with = settled_as (took_told w n) n with

  -- what a load answers that waited for an owner that ended so; none where that was dropped
  abbrev pub answer_to : Settled V E → Option (Answer K V E)
  answer_to settled.NotYet = None
  answer_to (settled.Ready value) = Some (answer.Loaded value false)
  answer_to (settled.Err error) = Some (answer.InitErr error)
  answer_to settled.Nothing = Some answer.Nothing
  answer_to settled.Aborted = None

-- ---- the first poll of a load

-- a load that sees a value answers it, not fresh, and is gone; table and desk stay
abbrev pub LoadHits : (K V E : Type 0) → (K → K → Bool) → Type 0
LoadHits K V E eq =
    (s new : State K V E) (n : ℕ) (start : Start K V) (sought : Sought K) (value : V)
    (r : Reply K V E) →
    IsQuiet s.world.desk → IsBegun s n start → sought_by start ≡ Some sought →
    seen_in s.world.table s.world.desk sought.replace sought.load.key ≡ Some value →
    Happens eq Any s (event.Poll n) r new →
    PollGives s n (reply.Answer (answer.Loaded value false)) None s.world.table s.world.desk r new

-- a load that sees none, and that nobody owns, asks; it has to take what it is told
abbrev pub LoadAsks : (K V E : Type 0) → (K → K → Bool) → Type 0
LoadAsks K V E eq =
    (s new : State K V E) (n : ℕ) (start : Start K V) (sought : Sought K) (r : Reply K V E) →
    IsQuiet s.world.desk → IsBegun s n start → sought_by start ≡ Some sought →
    seen_in s.world.table s.world.desk sought.replace sought.load.key ≡ None →
    s.world.desk.owners sought.load ≡ None →
    Happens eq Any s (event.Poll n) r new →
    PollGives s n (reply.Ask ask.Init)
    (Some (parked (begun_in s start) (plan.Told sought.load ∷ [])))
    s.world.table (asking eq s.world.desk n sought.load) r new

-- a load that sees none, and that another call owns which hasn't ended, waits for that one
abbrev pub LoadWaits : (K V E : Type 0) → (K → K → Bool) → Type 0
LoadWaits K V E eq =
    (s new : State K V E) (n : ℕ) (start : Start K V) (sought : Sought K) (owner : ℕ)
    (r : Reply K V E) →
    IsQuiet s.world.desk → IsBegun s n start → sought_by start ≡ Some sought →
    seen_in s.world.table s.world.desk sought.replace sought.load.key ≡ None →
    s.world.desk.owners sought.load ≡ Some owner → s.world.desk.settled owner ≡ None →
    Happens eq Any s (event.Poll n) r new →
    PollGives s n reply.Wait
    (Some (parked (begun_in s start) (plan.Read sought ∷ [])))
    s.world.table (waiting eq s.world.desk n sought.load owner) r new

-- ---- the poll of a load that has asked

-- told a value it stores that under its key, ends its load with it, answers it, fresh, and is gone
abbrev pub ToldValue : (K V E : Type 0) → (K → K → Bool) → Type 0
ToldValue K V E eq =
    (s new : State K V E) (n : ℕ) (c : Call K V E) (load : Load K) (value : V) (r : Reply K V E) →
    IsQuiet s.world.desk → HasToDo s n c (plan.Told load ∷ []) → c.rules ≡ s.world.desk.rules →
    s.world.desk.told n ≡ Some (told.Value value) →
    Happens eq Any s (event.Poll n) r new →
    PollGives s n (reply.Answer (answer.Loaded value true)) None
    (stored_now eq s n load.key value) (ending s.world.desk n (settled.Ready value)) r new

-- told nothing it ends its load so, answers that, and is gone; the table stays
abbrev pub ToldNothing : (K V E : Type 0) → (K → K → Bool) → Type 0
ToldNothing K V E eq =
    (s new : State K V E) (n : ℕ) (c : Call K V E) (load : Load K) (r : Reply K V E) →
    HasToDo s n c (plan.Told load ∷ []) → s.world.desk.told n ≡ Some told.Nothing →
    Happens eq Any s (event.Poll n) r new →
    PollGives s n (reply.Answer answer.Nothing) None s.world.table
    (ending s.world.desk n settled.Nothing) r new

-- told an error it ends its load with that, answers it, and is gone; the table stays
abbrev pub ToldError : (K V E : Type 0) → (K → K → Bool) → Type 0
ToldError K V E eq =
    (s new : State K V E) (n : ℕ) (c : Call K V E) (load : Load K) (error : E) (r : Reply K V E) →
    HasToDo s n c (plan.Told load ∷ []) → s.world.desk.told n ≡ Some (told.Err error) →
    Happens eq Any s (event.Poll n) r new →
    PollGives s n (reply.Answer (answer.InitErr error)) None s.world.table
    (ending s.world.desk n (settled.Err error)) r new

-- told nothing yet it waits, and nothing changes
abbrev pub NotTold : (K V E : Type 0) → (K → K → Bool) → Type 0
NotTold K V E eq =
    (s new : State K V E) (n : ℕ) (c : Call K V E) (load : Load K) (r : Reply K V E) →
    HasToDo s n c (plan.Told load ∷ []) → s.world.desk.told n ≡ None →
    Happens eq Any s (event.Poll n) r new →
    PollGives s n reply.Wait (Some (parked c (plan.Told load ∷ []))) s.world.table s.world.desk r
    new

-- ---- the poll of a load that waits for an owner

-- once the owner has ended it answers as that one did, a value as not fresh, and is gone
abbrev pub WaiterAnswers : (K V E : Type 0) → (K → K → Bool) → Type 0
WaiterAnswers K V E eq =
    (s new : State K V E) (n : ℕ) (c : Call K V E) (sought : Sought K) (with : Settled V E)
    (a : Answer K V E) (r : Reply K V E) →
    HasToDo s n c (plan.Read sought ∷ []) → settlement_for s.world.desk n ≡ Some with →
    answer_to with ≡ Some a → Happens eq Any s (event.Poll n) r new →
    PollGives s n (reply.Answer a) None s.world.table (read s.world.desk n) r new

-- until then it waits, and nothing changes
abbrev pub WaiterWaits : (K V E : Type 0) → (K → K → Bool) → Type 0
WaiterWaits K V E eq =
    (s new : State K V E) (n : ℕ) (c : Call K V E) (sought : Sought K) (r : Reply K V E) →
    HasToDo s n c (plan.Read sought ∷ []) → settlement_for s.world.desk n ≡ None →
    Happens eq Any s (event.Poll n) r new →
    PollGives s n reply.Wait (Some (parked c (plan.Read sought ∷ []))) s.world.table s.world.desk r
    new
