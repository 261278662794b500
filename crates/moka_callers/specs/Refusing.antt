-- Why an event is refused.
use Rattle.std.specs.Prelude.{◌≡◌, ◌<◌, ℕ, Bool, false, Some, None}
use Rattle.moka_hist.specs.State.{Call, State}
use Rattle.moka_hist.specs.Telling.{is_asked}
use Rattle.moka_hist.specs.Run.{Any, Happens, last_call}
use Rattle.moka_hist.specs.declared.records.Mode.TheVariants as mode
use Rattle.moka_hist.specs.declared.events.Event.{Event}
use Rattle.moka_hist.specs.declared.events.Event.TheVariants as event
use Rattle.moka_hist.specs.declared.replies.Refusal.{Refusal}
use Rattle.moka_hist.specs.declared.replies.Refusal.TheVariants as refusal
use Rattle.moka_hist.specs.declared.replies.Reply.{Reply}
use Rattle.moka_hist.specs.declared.replies.Reply.TheVariants as reply

module _ {K V E : Type 0} where
  -- no call of this number is live
  abbrev pub IsUnknown : State K V E → ℕ → Type 0
  IsUnknown s n = s.calls n ≡ None

  -- the call is live, and between two steps
  abbrev pub IsBetween : State K V E → ℕ → Type 0
  IsBetween s n = (c : Call K V E) × (s.calls n ≡ Some c) × (c.mode ≡ mode.Mid)

  -- Such an event is to be refused in this state, for this reason.
  abbrev pub IsToRefuse : State K V E → Event K V E → Refusal → Type 0
  IsToRefuse s (event.At moment) refusal.ClockBack = moment < s.world.desk.clock
  IsToRefuse s (event.Start start) refusal.CallsSpent = s.world.desk.last ≡ last_call
  IsToRefuse s (event.Step n) refusal.UnknownCall = IsUnknown s n
  IsToRefuse s (event.Poll n) refusal.UnknownCall = IsUnknown s n
  IsToRefuse s (event.Drop n) refusal.UnknownCall = IsUnknown s n
  IsToRefuse s (event.Drop n) refusal.NotParked = IsBetween s n
  IsToRefuse s (event.Tell n answer) refusal.NotAsked = is_asked s.world.desk n answer ≡ false
  IsToRefuse s e why = ⊥

-- The event was refused for this reason exactly where it was to be, and then nothing has changed.
pub record IsRefusedByCause {K V E : Type 0} (s : State K V E) (e : Event K V E) (r : Reply K V E)
    (t : State K V E) (why : Refusal) : Type 0 where
  pub cause : r ≡ reply.Refused why → IsToRefuse s e why
  pub refused : IsToRefuse s e why → r ≡ reply.Refused why
  pub same : r ≡ reply.Refused why → t ≡ s

-- an event is refused for its cause, and for nothing else
abbrev pub RefusedByCause : (K V E : Type 0) → (K → K → Bool) → Type 0
RefusedByCause K V E eq =
    (s t : State K V E) (e : Event K V E) (r : Reply K V E) (why : Refusal) →
    Happens eq Any s e r t → IsRefusedByCause s e r t why
