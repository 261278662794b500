-- Which calls can be run.
use Rattle.std.specs.Prelude.{Bool, Option}
use Rattle.moka_hist.specs.declared.events.Start.{Start}
use Rattle.moka_hist.specs.declared.events.Told.{Told}
use Rattle.moka_hist.specs.declared.replies.Answer.{Answer}
use Rattle.moka_hist.specs.declared.rules.Rules.{Rules}
use Rattle.moka_cache.specs.Stages.{MayPoll}
use Rattle.moka_cache.specs.Starts.{called}
use Rattle.moka_cache.specs.Suits.{Tells}
use Rattle.moka_cache.specs.declared.stage.Stage.{Stage}

-- A state at this stage may be polled, in a cache of these rules: so may who is asked by its call,
-- and it is stated what it answers.
abbrev pub CanRun : {A K V E O Q : Type 0} → (K → K → Bool) → (A → Start K V)
    → (Option K → Answer K V E → Option O) → (Q → Type 0) → (Q → Told V E → Type 0) → Rules
    → Stage A K V E → Q → Type 0
CanRun eq start output can_poll gives rules stage asked =
    MayPoll stage × can_poll asked × Tells eq (gives asked) (called rules start) output stage
