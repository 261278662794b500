-- How long a call goes on by itself.
use Rattle.std.specs.Prelude.{ℕ, ◌<◌, Bool, replicate}
use Rattle.moka_hist.specs.State.{State}
use Rattle.moka_hist.specs.Bound.{step_bound}
use Rattle.moka_hist.specs.Places.{IsLawful}
use Rattle.moka_hist.specs.Run.{Goings, Run, Any, IsReached}
use Rattle.moka_hist.specs.declared.events.Event.TheVariants as event
use Rattle.moka_hist.specs.declared.replies.Reply.TheVariants as reply

-- in every reached state the log has room for a write, or would have where it was empty
abbrev pub LogsHaveRoom : (K V E : Type 0) → (K → K → Bool) → Type 0
LogsHaveRoom K V E eq = (s : State K V E) → IsReached eq s → 0 < s.world.desk.size

-- from a reached state on, the steps of one call that leave it going, one after the other, are
-- fewer than the bound
abbrev pub StepsAreBounded : (K V E : Type 0) → (K → K → Bool) → Type 0
StepsAreBounded K V E eq =
    (k : ℕ) (s t : State K V E) (n : ℕ) → IsReached eq s → Goings eq Any k s n t → k < step_bound s n

-- so are they as events: of as many steps of one call as the bound says, one has another reply than
-- Going
abbrev pub StepEventsAreBounded : (K V E : Type 0) → (K → K → Bool) → Type 0
StepEventsAreBounded K V E eq =
    (k : ℕ) (s t : State K V E) (n : ℕ) → IsReached eq s →
    Run eq (IsLawful eq) s (replicate k (event.Step n)) (replicate k reply.Going) t →
    k < step_bound s n
