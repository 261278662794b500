-- What a live call does by itself, as steps and polls of the state.
use Rattle.std.specs.Prelude.{◌≡◌, ℕ, Bool, Some}
use Rattle.moka_hist.specs.Finite.{put_at}
use Rattle.moka_hist.specs.State.{Call, World, State}
use Rattle.moka_hist.specs.Next.{Next}
use Rattle.moka_hist.specs.Step.{Step, CallMoves, MovesOn, Polled, IsSafe, state_after}
use Rattle.moka_hist.specs.Run.{Goings, Happens, Any, IsReached, reply_of}
use Rattle.moka_hist.specs.declared.events.Event.TheVariants as event

module _ {K V E : Type 0} where
  -- the state in which the call is this one now, and the world that one
  abbrev pub gone_on : State K V E → ℕ → Call K V E → World K V E → State K V E
  gone_on s n c w = record { world = w; calls = put_at s.calls n (Some c) }

-- a step of a live call by itself is one of the state
abbrev pub MoveIsStep : (K V E : Type 0) → (K → K → Bool) → Type 0
MoveIsStep K V E eq =
    (s : State K V E) (n : ℕ) (c : Call K V E) (next : Next K V E) (new : World K V E) →
    s.calls n ≡ Some c → CallMoves eq n c s.world next new →
    Step eq s n next.turn (state_after s n new next)

-- steps of a live call by itself that leave it going are steps of the state that do
abbrev pub MovesAreSteps : (K V E : Type 0) → (K → K → Bool) → Type 0
MovesAreSteps K V E eq =
    (s : State K V E) (n k : ℕ) (c d : Call K V E) (new : World K V E) →
    s.calls n ≡ Some c → MovesOn eq k n c s.world d new → Goings eq Any k s n (gone_on s n d new)

-- a poll of a live call by itself is one of the state
abbrev pub PolledIsPoll : (K V E : Type 0) → (K → K → Bool) → Type 0
PolledIsPoll K V E eq =
    (s : State K V E) (n : ℕ) (c : Call K V E) (next : Next K V E) (new : World K V E) →
    s.calls n ≡ Some c → Polled eq n c s.world next new →
    Happens eq Any s (event.Poll n) (reply_of next.turn) (state_after s n new next)

-- on a reached state the world has what a live call needs, however far it goes on by itself
abbrev pub CallsAreSafe : (K V E : Type 0) → (K → K → Bool) → Type 0
CallsAreSafe K V E eq =
    (s : State K V E) (n : ℕ) (c : Call K V E) → IsReached eq s → s.calls n ≡ Some c →
    IsSafe eq n c s.world
