-- What a load answers that was told, and what it does whose owner was dropped.
use Rattle.std.specs.Prelude.{◌≡◌, ◌≢◌, ◌⊎◌, ℕ, ◌+◌, Bool, true, [], ◌∷◌, Option, Some, None, IsSome}
use Rattle.moka_hist.specs.Loading.{retries}
use Rattle.moka_hist.specs.Plan.{Item, end_load}
use Rattle.moka_hist.specs.Plan as plan
use Rattle.moka_hist.specs.Run.{IsReached}
use Rattle.moka_hist.specs.State.{Call, State}
use Rattle.moka_hist.specs.Step.{Step}
use Rattle.moka_hist.specs.Visits.{settlement_for}
use Rattle.moka_hist.specs.declared.accesses.Turn.{Turn}
use Rattle.moka_hist.specs.declared.accesses.Turn.TheVariants as turn
use Rattle.moka_hist.specs.declared.events.Start.{Start}
use Rattle.moka_hist.specs.declared.events.Told.{Told}
use Rattle.moka_hist.specs.declared.events.Told.TheVariants as told
use Rattle.moka_hist.specs.declared.loads.Compute.{Compute}
use Rattle.moka_hist.specs.declared.loads.Kind.TheVariants as kind
use Rattle.moka_hist.specs.declared.loads.Load.{Load}
use Rattle.moka_hist.specs.declared.replies.Answer.{Answer}
use Rattle.moka_hist.specs.declared.replies.Answer.TheVariants as answer
use Rattle.moka_hist.specs.declared.visits.Settled.{Settled}
use Rattle.moka_hist.specs.declared.visits.Settled.TheVariants as settled
use Rattle.moka_laws.specs.Loads.{Reads, TakesTold}
use Rattle.moka_laws.specs.Starting.{HasMade, Leads, WasStarted}
use Rattle.moka_laws.specs.Starts.{kind_loaded}

-- ---- owners

-- how the owner of a load ends that was told this, and what it answers: the value, as fresh; that
-- there is none; or the error. An ask of a load takes nothing else
abbrev pub end_told : {K V E : Type 0} → Told V E → Option (Settled V E × Answer K V E)
end_told (told.Value value) = Some (settled.Ready value, answer.Loaded value true)
end_told told.Nothing = Some (settled.Nothing, answer.Nothing)
end_told (told.Err error) = Some (settled.Err error, answer.InitErr error)
end_told (told.Op op) = None
end_told told.Done = None
end_told told.Off = None

-- a load that took what it was told answers just that, by the step with which it ends so for those
-- that wait for it
abbrev pub LoadsAnswerTold : (K V E : Type 0) → (K → K → Bool) → Type 0
LoadsAnswerTold K V E eq =
    (s t u v : State K V E) (n : ℕ) (c d : Call K V E) (given : Told V E) (with : Settled V E)
    (said a : Answer K V E) (reply : Turn K V E) →
    IsReached eq s → s.calls n ≡ Some c → TakesTold s n c given → Step eq s n reply t →
    end_told given ≡ Some (with, said) → Leads eq t u → u.calls n ≡ Some d →
    Step eq u n (turn.Answer a) v → (a ≡ said) × (d.plan ≡ end_load with said)

-- the step takes the value as the answer to the own ask of a load
abbrev pub TakesLoaded : {K V E : Type 0} → ℕ → V → State K V E → Call K V E → Turn K V E →
    State K V E → Type 0
TakesLoaded n value s c reply t = TakesTold s n c (told.Value value)

-- a load that answers a value as fresh was told it
abbrev pub FreshWasTold : (K V E : Type 0) → (K → K → Bool) → Type 0
FreshWasTold K V E eq =
    (s t : State K V E) (begin : Start K V) (n : ℕ) (value : V) →
    WasStarted eq begin n s → IsSome (kind_loaded begin) →
    Step eq s n (turn.Answer (answer.Loaded value true)) t →
    HasMade eq t n (TakesLoaded n value)

-- ---- those whose owner has ended

-- by a step of this call from the first state to the second it owns the load, where nobody did, or
-- waits for the owner
abbrev pub OwnsOrJoins : {K V E : Type 0} → ℕ → Load K → State K V E → State K V E → Type 0
OwnsOrJoins n load s t =
    ((s.world.desk.owners load ≡ None) × (t.world.desk.owning n ≡ Some load)) ⊎
    ((owner : ℕ) × (s.world.desk.owners load ≡ Some owner) × (t.world.desk.joined n ≡ Some owner))

-- The step leaves the call going. It has so many aborts then, and takes part in the load anew: as
-- long as it stands so, its next step makes it the owner, or one that waits for the owner.
pub record GoesOnAnew {K V E : Type 0} (eq : K → K → Bool) (n : ℕ) (load : Load K) (count : ℕ)
    (reply : Turn K V E) (t : State K V E) : Type 0 where
  pub going : reply ≡ turn.Going
  pub call : Call K V E
  pub live : t.calls n ≡ Some call
  pub aborts : call.aborts ≡ count
  pub anew : (u v : State K V E) (next : Turn K V E) → u.calls n ≡ Some call →
      Step eq u n next v → OwnsOrJoins n load u v

-- a load that reads that its owner was dropped takes part in the load anew, unless it gives up
abbrev pub AbortedGoesOn : (K V E : Type 0) → (K → K → Bool) → Type 0
AbortedGoesOn K V E eq =
    (s t : State K V E) (n : ℕ) (c : Call K V E) (reply : Turn K V E) → s.calls n ≡ Some c →
    (reads : Reads s n c settled.Aborted) → c.aborts + 1 ≢ retries → Step eq s n reply t →
    GoesOnAnew eq n reads.sought.load (c.aborts + 1) reply t

-- a compute that reads how its owner ended takes part in the computes of its key anew
abbrev pub ComputesBeginAnew : (K V E : Type 0) → (K → K → Bool) → Type 0
ComputesBeginAnew K V E eq =
    (s t : State K V E) (n : ℕ) (c : Call K V E) (compute : Compute K) (with : Settled V E)
    (reply : Turn K V E) →
    s.calls n ≡ Some c → c.plan ≡ plan.Read_key compute ∷ [] →
    settlement_for s.world.desk n ≡ Some with → with ≢ settled.NotYet → Step eq s n reply t →
    GoesOnAnew eq n (record { key = compute.key; kind = kind.Compute }) c.aborts reply t
