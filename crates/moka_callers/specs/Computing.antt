-- Who owns a load and until when, and what a call has changed that takes an answer.
use Rattle.std.specs.Prelude.{◌≡◌, ◌⊎◌, ℕ, Bool, true, Option, Some, None}
use Rattle.moka_hist.specs.Computing.{end_compute}
use Rattle.moka_hist.specs.Entries.{put_answer, unchanged}
use Rattle.moka_hist.specs.Run.{Any, Happens, IsReached}
use Rattle.moka_hist.specs.State.{Call, State}
use Rattle.moka_hist.specs.Step.{Step}
use Rattle.moka_hist.specs.declared.accesses.Turn.{Turn}
use Rattle.moka_hist.specs.declared.accesses.Turn.TheVariants as turn
use Rattle.moka_hist.specs.declared.events.Event.TheVariants as event
use Rattle.moka_hist.specs.declared.events.Op.TheVariants as op
use Rattle.moka_hist.specs.declared.events.Start.{Start}
use Rattle.moka_hist.specs.declared.events.Told.{Told}
use Rattle.moka_hist.specs.declared.events.Told.TheVariants as told
use Rattle.moka_hist.specs.declared.loads.Compute.{Compute}
use Rattle.moka_hist.specs.declared.replies.Answer.{Answer}
use Rattle.moka_hist.specs.declared.replies.Answer.TheVariants as answer
use Rattle.moka_hist.specs.declared.replies.Reply.TheVariants as reply
use Rattle.moka_laws.specs.Computes.{IsSettling, OwnsComputes, TakesOp, leaves_map}
use Rattle.moka_laws.specs.Given.{asked_key}
use Rattle.moka_laws.specs.Starting.{HasMade, Leads, WasStarted}
use Rattle.moka_laws.specs.Starts.{computed_key}
use Rattle.moka_callers.specs.Contents.{MadeSince}

-- ---- what a call changes that is told

-- a call that has asked, and has still to take the answer, has changed nothing that is stored by any
-- of its steps
abbrev pub AsksComeFirst : (K V E : Type 0) → (K → K → Bool) → Type 0
AsksComeFirst K V E eq =
    (u v s : State K V E) (n : ℕ) (c : Call K V E) (key : K) (turn : Turn K V E) →
    IsReached eq u → Step eq u n turn v → Leads eq v s → s.calls n ≡ Some c →
    asked_key c.plan ≡ Some key → v.world.table.stored ≡ u.world.table.stored

-- No step of the call changes what is stored: none before the first state, nor the one from there
-- to the second, nor a later one.
pub record ChangesNothing {K V E : Type 0} (eq : K → K → Bool) (n : ℕ) (s t : State K V E)
    : Type 0 where
  pub before : (u v : State K V E) (turn : Turn K V E) → IsReached eq u → Step eq u n turn v →
      Leads eq v s → v.world.table.stored ≡ u.world.table.stored
  pub now : t.world.table.stored ≡ s.world.table.stored
  pub after : (u v : State K V E) (turn : Turn K V E) → Leads eq t u → Step eq u n turn v →
      v.world.table.stored ≡ u.world.table.stored

-- a compute that takes a nop or an error changes nothing, from its start to its end
abbrev pub NopsLeaveAll : (K V E : Type 0) → (K → K → Bool) → Type 0
NopsLeaveAll K V E eq =
    (s t : State K V E) (n : ℕ) (c : Call K V E) (compute : Compute K) (pair : Option (K × V))
    (given : Told V E) (turn : Turn K V E) →
    IsReached eq s → s.calls n ≡ Some c → Step eq s n turn t →
    TakesOp n compute pair given s c turn t → leaves_map given ≡ true → ChangesNothing eq n s t

-- what a compute of the key answers that asked with the pair and was told this, where that alone
-- says so: what a removal answers goes by what it takes out. No ask of a compute takes anything else
abbrev pub answer_told : {K V E : Type 0} → K → Option (K × V) → Told V E → Option (Answer K V E)
answer_told key pair (told.Op op.Nop) = Some (unchanged key pair)
answer_told key pair (told.Op (op.Put value)) = Some (put_answer key pair value)
answer_told key pair (told.Op op.Remove) = None
answer_told key pair (told.Value value) = Some (put_answer key pair value)
answer_told key pair (told.Err error) = Some (answer.ComputeErr error)
answer_told key pair told.Nothing = None
answer_told key pair told.Done = None
answer_told key pair told.Off = None

-- a compute that took a nop, a value or an error answers just that, by the step with which it ends
abbrev pub ComputesAnswerAsTold : (K V E : Type 0) → (K → K → Bool) → Type 0
ComputesAnswerAsTold K V E eq =
    (s t u v : State K V E) (n : ℕ) (c d : Call K V E) (compute : Compute K)
    (pair : Option (K × V)) (given : Told V E) (said a : Answer K V E) (reply : Turn K V E) →
    IsReached eq s → s.calls n ≡ Some c → TakesOp n compute pair given s c reply t →
    Step eq s n reply t → answer_told compute.key pair given ≡ Some said → Leads eq t u →
    u.calls n ≡ Some d → Step eq u n (turn.Answer a) v → (a ≡ said) × (d.plan ≡ end_compute said)

-- a compute that answers an error took that error as the answer to its own ask
abbrev pub ComputeErrorsWereTold : (K V E : Type 0) → (K → K → Bool) → Type 0
ComputeErrorsWereTold K V E eq =
    (s t : State K V E) (begin : Start K V) (key : K) (n : ℕ) (error : E) →
    WasStarted eq begin n s → computed_key begin ≡ Some key →
    Step eq s n (turn.Answer (answer.ComputeErr error)) t →
    (compute : Compute K) × (pair : Option (K × V)) × (compute.key ≡ key) ×
    HasMade eq t n (TakesOp n compute pair (told.Err error))

-- ---- until when a call owns the computes of a key

-- the call of this number was dropped on the way from the first state to the second
pub record DroppedSince {K V E : Type 0} (eq : K → K → Bool) (n : ℕ) (s t : State K V E) : Type 0 where
  pub before : State K V E
  pub since : Leads eq s before
  pub after : State K V E
  pub drops : Happens eq Any before (event.Drop n) reply.Dropped after
  pub led : Leads eq after t

-- it has settled there, by a step of its own
abbrev pub SettledSince : {K V E : Type 0} → (K → K → Bool) → ℕ → State K V E → State K V E → Type 0
SettledSince {K} {V} {E} eq n s t =
    (made : MadeSince eq s t (λ u c turn v. IsSettling c.plan)) × (made.number ≡ n)

-- whatever events follow, a call that owns the computes of a key owns them still, or has settled, or
-- was dropped
abbrev pub OwnedUntilOver : (K V E : Type 0) → (K → K → Bool) → Type 0
OwnedUntilOver K V E eq =
    (s t : State K V E) (n : ℕ) (key : K) → IsReached eq s → OwnsComputes s n key → Leads eq s t →
    OwnsComputes t n key ⊎ (SettledSince eq n s t ⊎ DroppedSince eq n s t)
