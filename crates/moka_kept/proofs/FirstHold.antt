-- How the first hold of the lock leaves a call.
use Rattle.std.proofs.Common.{◌≡◌, ◌<◌, refl, subst}
use Rattle.moka_init.specs.FlowPlan.{IsOver, call_of}
use Rattle.moka_init.specs.declared.flow.Flow.{Flow}
use Rattle.moka_hist.specs.declared.replies.Answer.{Answer}
use Rattle.moka_kept.specs.Entering.{EnteredIs, IfGoes, entered_so}
use Rattle.moka_kept.specs.Facts.{Facts}
use Rattle.moka_kept.specs.Rests.{Rests}
use Rattle.moka_kept.specs.Stops.{StopIs}
use Rattle.moka_kept.specs.Taking.{Taken}
use Rattle.moka_kept.specs.declared.stop.Stop.{Stop}
use Rattle.moka_kept.specs.declared.stop.Stop.TheVariants as stop

module _ {K V E : Type 0} (f : Facts K V) (such : Taken V E → Type 0) where
  -- its steps stopped it so from its fresh flow on
  pub entered_is : (fresh : Flow K V E) → 0 < fresh.call → Rests fresh → (s : Stop K V E) (new : Flow K V E) → StopIs f such fresh s new
      → EnteredIs f such (call_of fresh) (entered_so new s)
  entered_is fresh some rests stop.Going new stops = (fresh, refl, some, rests, stops)
  entered_is fresh some rests (stop.Waits task kept) new stops = (fresh, refl, some, rests, stops)
  entered_is fresh some rests (stop.Asks own) new stops = (fresh, refl, some, rests, stops)
  entered_is fresh some rests (stop.Due due) new stops = (fresh, refl, some, rests, stops)
  entered_is fresh some rests (stop.Answers answer) new stops = (fresh.call, some, stops.0)
  entered_is fresh some rests stop.Memory new stops = (fresh, refl, some, rests, stops)

  -- nothing is left of one that has answered
  pub over_stopped : (old : Flow K V E) (s : Stop K V E) (new : Flow K V E) → StopIs f such old s new → (answer : Answer K V E) → s ≡ stop.Answers answer → IsOver new
  over_stopped old s new stops answer is = (subst (λ x. StopIs f such old x new) is stops).1

-- what holds of its flow and its stop holds where it goes on
pub goes_with : {K V E : Type 0} (P : Flow K V E → Stop K V E → Type 0) (s : Stop K V E) (new : Flow K V E) → P new s → IfGoes (entered_so new s) P
goes_with P stop.Going new so = so
goes_with P (stop.Waits task kept) new so = so
goes_with P (stop.Asks own) new so = so
goes_with P (stop.Due due) new so = so
goes_with P (stop.Answers answer) new so = tt
goes_with P stop.Memory new so = so
