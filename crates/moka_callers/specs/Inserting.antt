-- What an insert that is done has put in, and what stands under its key afterwards.
use Rattle.std.specs.Prelude.{◌≡◌, ℕ, Bool, true, false, List, Option, Some, None}
use Rattle.moka_hist.specs.Plan.{is_disabled}
use Rattle.moka_hist.specs.State.{Call, State}
use Rattle.moka_hist.specs.Step.{Step}
use Rattle.moka_hist.specs.Run.{Any, Run}
use Rattle.moka_hist.specs.declared.accesses.Turn.{Turn}
use Rattle.moka_hist.specs.declared.accesses.Turn.TheVariants as turn
use Rattle.moka_hist.specs.declared.events.Event.{Event}
use Rattle.moka_hist.specs.declared.entries.CompResult.TheVariants as done
use Rattle.moka_hist.specs.declared.events.Start.{Start}
use Rattle.moka_hist.specs.declared.events.Start.TheVariants as start
use Rattle.moka_hist.specs.declared.records.Stored.{Stored}
use Rattle.moka_hist.specs.declared.replies.Answer.{Answer}
use Rattle.moka_hist.specs.declared.replies.Answer.TheVariants as answer
use Rattle.moka_hist.specs.declared.replies.Reply.{Reply}
use Rattle.moka_laws.specs.Starting.{HasMade, WasStarted}
use Rattle.moka_callers.specs.Contents.{HasValue, PutsIn, StandsSince}

-- the record of a value, as the call of this number writes it at a moment
abbrev pub record_of : {V : Type 0} → ℕ → V → ℕ → Stored V
record_of n value moment = record { value = value; stamp = n; modified = moment }

-- the step puts the value in under the key, as the call of this number does at some moment
abbrev pub PutsValue : {K V E : Type 0} → (K → K → Bool) → ℕ → K → V → State K V E → Call K V E →
    Turn K V E → State K V E → Type 0
PutsValue eq n key value s c reply t =
    (moment : ℕ) × PutsIn eq key (record_of n value moment) s c reply t

-- an insert that answers has put its pair in, by a step that it made since its start, unless the
-- cache is disabled
abbrev pub InsertsPutIn : (K V E : Type 0) → (K → K → Bool) → Type 0
InsertsPutIn K V E eq =
    (s t : State K V E) (n : ℕ) (key : K) (value : V) (a : Answer K V E) →
    WasStarted eq (start.Insert key value) n s → is_disabled s.world.desk.rules ≡ false →
    Step eq s n (turn.Answer a) t → HasMade eq t n (PutsValue eq n key value)

-- The insert's record stood under the key once it was written; and what stands there in this state
-- is that, or what a later step left.
pub record StandsInserted {K V E : Type 0} (eq : K → K → Bool) (n : ℕ) (key q : K) (value : V)
    (u : State K V E) : Type 0 where
  pub written : State K V E
  pub moment : ℕ
  pub stood : written.world.table.stored q ≡ Some (key, record_of n value moment)
  pub since : StandsSince eq q written u

-- whatever events follow an insert that answered, each equal key has the value that it put in, or
-- what a later step left there: another value, or nothing
abbrev pub InsertsStand : (K V E : Type 0) → (K → K → Bool) → Type 0
InsertsStand K V E eq =
    (s t u : State K V E) (n : ℕ) (key q : K) (value : V) (a : Answer K V E)
    (es : List (Event K V E)) (rs : List (Reply K V E)) →
    WasStarted eq (start.Insert key value) n s → is_disabled s.world.desk.rules ≡ false →
    Step eq s n (turn.Answer a) t → eq key q ≡ true → Run eq Any t es rs u →
    StandsInserted eq n key q value u

-- the value that an answer tells as stored by its own call, if it does: that of a load or of a get by
-- entry, as fresh, or that of a compute which inserted or replaced
abbrev pub fresh_value : {K V E : Type 0} → Answer K V E → Option V
fresh_value (answer.Loaded value true) = Some value
fresh_value (answer.Computed (done.Inserted entry)) = Some entry.value
fresh_value (answer.Computed (done.ReplacedWith entry)) = Some entry.value
fresh_value _ = None

-- The step puts the value in, under a key for which the call, which was started so, has it.
abbrev pub PutsHad : {K V E : Type 0} → (K → K → Bool) → Start K V → ℕ → V → State K V E →
    Call K V E → Turn K V E → State K V E → Type 0
PutsHad {K} eq begin n value s c reply t =
    (key : K) × PutsValue eq n key value s c reply t × HasValue eq begin n s key value

-- a call that answers a value as its own has put just that value in, by a step that it made since its
-- start, unless the cache is disabled
abbrev pub FreshIsPut : (K V E : Type 0) → (K → K → Bool) → Type 0
FreshIsPut K V E eq =
    (s t : State K V E) (begin : Start K V) (n : ℕ) (a : Answer K V E) (value : V) →
    WasStarted eq begin n s → is_disabled s.world.desk.rules ≡ false →
    Step eq s n (turn.Answer a) t → fresh_value a ≡ Some value →
    HasMade eq t n (PutsHad eq begin n value)
