-- How the first hold of the lock leaves a call.
use Rattle.std.specs.Prelude.{◌≡◌, ◌<◌, ℕ}
use Rattle.moka_hist.specs.Next.{answers}
use Rattle.moka_hist.specs.State.{Call}
use Rattle.moka_init.specs.FlowPlan.{call_of}
use Rattle.moka_init.specs.declared.flow.Flow.{Flow}
use Rattle.moka_kept.specs.Facts.{Facts}
use Rattle.moka_kept.specs.Paths.{EndedWith}
use Rattle.moka_kept.specs.Rests.{Rests}
use Rattle.moka_kept.specs.Stops.{StopIs}
use Rattle.moka_kept.specs.Taking.{Taken}
use Rattle.moka_kept.specs.declared.entered.Entered.{Entered}
use Rattle.moka_kept.specs.declared.entered.Entered.TheVariants as entered
use Rattle.moka_kept.specs.declared.stop.Stop.{Stop}
use Rattle.moka_kept.specs.declared.stop.Stop.TheVariants as stop

module _ {K V E : Type 0} where
  -- how the hold left the call of this flow, by how its steps stopped it
  abbrev pub entered_so : Flow K V E → Stop K V E → Entered K V E
  entered_so flow stop.Going = entered.Goes flow stop.Going
  entered_so flow (stop.Waits task kept) = entered.Goes flow (stop.Waits task kept)
  entered_so flow (stop.Asks own) = entered.Goes flow (stop.Asks own)
  entered_so flow (stop.Due due) = entered.Goes flow (stop.Due due)
  entered_so flow (stop.Answers answer) = entered.Answers answer
  entered_so flow stop.Memory = entered.Goes flow stop.Memory

  -- The call that begins so was given a number, and its first hold left it so: its answer follows from
  -- the last of its accesses; or its steps stopped it where its flow stands. Or no number was left.
  abbrev pub EnteredIs : Facts K V → (Taken V E → Type 0) → Call K V E → Entered K V E → Type 0
  EnteredIs f such c entered.Spent = Unit {0}
  EnteredIs f such c (entered.Answers answer) =
      (n : ℕ) × (0 < n) × EndedWith f such n c (answers answer)
  EnteredIs f such c (entered.Goes flow stop) =
      (fresh : Flow K V E) × (call_of fresh ≡ c) × (0 < fresh.call) × Rests fresh
      × StopIs f such fresh stop flow

  -- it holds of the flow and the stop, where the call goes on
  abbrev pub IfGoes : Entered K V E → (Flow K V E → Stop K V E → Type 0) → Type 0
  IfGoes entered.Spent P = Unit {0}
  IfGoes (entered.Answers answer) P = Unit {0}
  IfGoes (entered.Goes flow stop) P = P flow stop
