-- What stands in the table, by whom it was put there, and what a call that committed has done.
use Rattle.std.specs.Prelude.{◌≡◌, ◌⊎◌, ℕ, Bool, true, false, List, ◌∷◌, Some, None, Contains, MatchOption}
use Rattle.moka_hist.specs.Finite.{put_key}
use Rattle.moka_hist.specs.State.{Call, State}
use Rattle.moka_hist.specs.Plan.{Item, Removal}
use Rattle.moka_hist.specs.Plan as plan
use Rattle.moka_hist.specs.Run.{Any, IsReached, Run}
use Rattle.moka_hist.specs.Step.{Step}
use Rattle.moka_hist.specs.declared.accesses.Turn.{Turn}
use Rattle.moka_hist.specs.declared.accesses.Turn.TheVariants as turn
use Rattle.moka_hist.specs.declared.entries.CompResult.TheVariants as done
use Rattle.moka_hist.specs.declared.events.Event.{Event}
use Rattle.moka_hist.specs.declared.events.Start.{Start}
use Rattle.moka_hist.specs.declared.events.Start.TheVariants as start
use Rattle.moka_hist.specs.declared.events.Told.{Told}
use Rattle.moka_hist.specs.declared.records.Stored.{Stored}
use Rattle.moka_hist.specs.declared.replies.Answer.{Answer}
use Rattle.moka_hist.specs.declared.replies.Answer.TheVariants as answer
use Rattle.moka_hist.specs.declared.replies.Reply.{Reply}
use Rattle.moka_laws.specs.Given.{asked_key, value_in}
use Rattle.moka_laws.specs.Starting.{HasMade, Leads, WasStarted}
use Rattle.moka_laws.specs.Starts.{brought, key_started}

-- ---- single steps

-- the step writes: the record stands under the key from then on
pub record PutsIn {K V E : Type 0} (eq : K → K → Bool) (key : K) (stored : Stored V)
    (s : State K V E) (c : Call K V E) (reply : Turn K V E) (t : State K V E) : Type 0 where
  pub rest : List (Item K V E)
  pub writing : c.plan ≡ plan.Write key stored.value stored.modified ∷ rest
  pub put : t.world.table.stored ≡ put_key eq s.world.table.stored key (Some (key, stored))

-- the step takes out what stood under the key
pub record TakesOut {K V E : Type 0} (eq : K → K → Bool) (key : K) (pair : K × Stored V)
    (s : State K V E) (c : Call K V E) (reply : Turn K V E) (t : State K V E) : Type 0 where
  pub removal : Removal K
  pub rest : List (Item K V E)
  pub taking : c.plan ≡ plan.Out removal key ∷ rest
  pub stood : s.world.table.stored key ≡ Some pair
  pub out : t.world.table.stored ≡ put_key eq s.world.table.stored key None

-- the step takes an answer with this value, which the call of this number was told as it had asked
-- for the key
pub record TakesValue {K V E : Type 0} (n : ℕ) (key : K) (value : V)
    (s : State K V E) (c : Call K V E) (reply : Turn K V E) (t : State K V E) : Type 0 where
  pub asked : asked_key c.plan ≡ Some key
  pub given : Told V E
  pub told : s.world.desk.told n ≡ Some given
  pub has : value_in given ≡ Some value

-- ---- calls

-- The call of this number, which was started so, has the value for the key: it was started with
-- both, or started for the key, and told the value since.
abbrev pub HasValue : {K V E : Type 0} → (K → K → Bool) → Start K V → ℕ → State K V E → K → V →
    Type 0
HasValue eq start n s key value =
    MatchOption (brought start)
    ((key_started start ≡ Some key) × HasMade eq s n (TakesValue n key value))
    (λ pair. pair ≡ (key, value))

-- The step of the call of this number writes a record that is its own: stamped with its number, of a
-- value that the call has for the key.
pub record PutsOwn {K V E : Type 0} (eq : K → K → Bool) (n : ℕ) (key : K) (stored : Stored V)
    (s : State K V E) (c : Call K V E) (reply : Turn K V E) (t : State K V E) : Type 0 where
  pub puts : PutsIn eq key stored s c reply t
  pub stamp : stored.stamp ≡ n
  pub start : Start K V
  pub was : WasStarted eq start n s
  pub value : HasValue eq start n s key stored.value

-- a stored record was put in by a step of the call of its stamp, as that call's own
abbrev pub RecordsAreOfCalls : (K V E : Type 0) → (K → K → Bool) → Type 0
RecordsAreOfCalls K V E eq =
    (s : State K V E) (q key : K) (stored : Stored V) → IsReached eq s →
    s.world.table.stored q ≡ Some (key, stored) →
    HasMade eq s stored.stamp (PutsOwn eq stored.stamp key stored)

-- what a call of this number that committed has done by one of its steps
abbrev pub ChangesTable : {K V E : Type 0} → (K → K → Bool) → ℕ → State K V E → Call K V E →
    Turn K V E → State K V E → Type 0
ChangesTable {K} {V} eq n s c reply t =
    ((key : K) × (stored : Stored V) × PutsOwn eq n key stored s c reply t) ⊎
    ((key : K) × (pair : K × Stored V) × TakesOut eq key pair s c reply t)

-- a call that committed has put in a record of its own, or taken one out
abbrev pub CommitsAreMade : (K V E : Type 0) → (K → K → Bool) → Type 0
CommitsAreMade K V E eq =
    (s : State K V E) (n : ℕ) → IsReached eq s → Contains s.world.table.committed n →
    HasMade eq s n (ChangesTable eq n)

-- the answer tells of a change: of a value that the call stored or took out, or that the call is done
abbrev pub tells_change : {K V E : Type 0} → Answer K V E → Bool
tells_change answer.Done = true
tells_change (answer.Found (Some value)) = true
tells_change (answer.Found None) = false
tells_change (answer.Loaded value fresh) = fresh
tells_change answer.Nothing = false
tells_change (answer.InitErr error) = false
tells_change (answer.Computed (done.Inserted entry)) = true
tells_change (answer.Computed (done.ReplacedWith entry)) = true
tells_change (answer.Computed (done.Removed entry)) = true
tells_change (answer.Computed (done.Unchanged entry)) = false
tells_change (answer.Computed (done.StillNone key)) = false
tells_change (answer.ComputeErr error) = false
tells_change answer.RetriesExhausted = false
tells_change answer.Evicted = true
tells_change answer.Kept = false
tells_change answer.End = false
tells_change (answer.Id id) = false
tells_change answer.ClosuresDisabled = false
tells_change answer.NoId = false

-- a call whose answer tells of no change has committed nothing
abbrev pub QuietCommitNothing : (K V E : Type 0) → (K → K → Bool) → Type 0
QuietCommitNothing K V E eq =
    (s t : State K V E) (n : ℕ) (a : Answer K V E) → IsReached eq s →
    Step eq s n (turn.Answer a) t → tells_change a ≡ false →
    Contains t.world.table.committed n → ⊥

-- and so has a get, whatever it answers
abbrev pub GetsCommitNothing : (K V E : Type 0) → (K → K → Bool) → Type 0
GetsCommitNothing K V E eq =
    (s t : State K V E) (n : ℕ) (key : K) (a : Answer K V E) →
    WasStarted eq (start.Get key) n s → Step eq s n (turn.Answer a) t →
    Contains t.world.table.committed n → ⊥

-- ---- what is left standing

-- A step that a call made on the way from the first state to the second, and what it was.
pub record MadeSince {K V E : Type 0} (eq : K → K → Bool) (s t : State K V E)
    (What : State K V E → Call K V E → Turn K V E → State K V E → Type 0) : Type 0 where
  pub number : ℕ
  pub before : State K V E
  pub since : Leads eq s before
  pub call : Call K V E
  pub live : before.calls number ≡ Some call
  pub turn : Turn K V E
  pub after : State K V E
  pub step : Step eq before number turn after
  pub what : What before call turn after
  pub led : Leads eq after t

-- What stands under a key in the second state, where some events lead there from the first: what
-- stood there before them, the record that a step on the way put in under an equal key, or nothing,
-- which a step on the way left by taking out.
pub data StandsSince {K V E : Type 0} (eq : K → K → Bool) (q : K) (s t : State K V E) : Type 0 where
  As_before : t.world.table.stored q ≡ s.world.table.stored q → StandsSince eq q s t
  As_put : (key : K) (stored : Stored V) → eq key q ≡ true →
      t.world.table.stored q ≡ Some (key, stored) → MadeSince eq s t (PutsIn eq key stored) →
      StandsSince eq q s t
  As_taken : (key : K) → eq key q ≡ true → t.world.table.stored q ≡ None →
      MadeSince eq s t (λ u c turn v. (pair : K × Stored V) × TakesOut eq key pair u c turn v) →
      StandsSince eq q s t

-- whatever events follow, each key has what it had, or what a step on the way left there
abbrev pub RecordsStand : (K V E : Type 0) → (K → K → Bool) → Type 0
RecordsStand K V E eq =
    (s t : State K V E) (q : K) (es : List (Event K V E)) (rs : List (Reply K V E)) →
    Run eq Any s es rs t → StandsSince eq q s t
