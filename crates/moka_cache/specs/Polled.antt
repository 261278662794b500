-- How a poll leaves a state.
use Rattle.std.specs.Prelude.{◌≡◌, ◌↔◌, ℕ, Option, Result, Ok, Err}
use Rattle.futures.specs.declared.task.Poll.{Poll}
use Rattle.futures.specs.declared.task.Poll.TheVariants.{Ready, Pending}
use Rattle.moka_hist.specs.Next.{answers}
use Rattle.moka_hist.specs.State.{Call}
use Rattle.moka_hist.specs.declared.replies.Answer.{Answer}
use Rattle.moka_init.specs.FlowPlan.{call_of}
use Rattle.moka_init.specs.declared.flow.Flow.{Flow}
use Rattle.moka_kept.specs.Facts.{Facts}
use Rattle.moka_kept.specs.Paths.{CameWith, EndedWith}
use Rattle.moka_kept.specs.Taking.{Taken}
use Rattle.moka_cache.specs.Stages.{AnswersWith, CameOnWith, IsNamed, MayPoll, name_in}
use Rattle.moka_cache.specs.declared.errors.PollError.{PollError}
use Rattle.moka_cache.specs.declared.errors.PollError.TheVariants as error
use Rattle.moka_cache.specs.declared.stage.Stage.{Stage}
use Rattle.moka_cache.specs.declared.stage.Stage.TheVariants as stage

module _ {A K V E : Type 0} where
  -- it was begun, or no number was left for it
  abbrev pub IsBegun : Stage A K V E → Type 0
  IsBegun (stage.Fresh begin) = ⊥
  IsBegun _ = Unit {0}

  -- where a poll leaves the state of the flow's call
  abbrev pub kept_as : Flow K V E → Poll (Result (Answer K V E) PollError) → Stage A K V E
  kept_as flow (Ready (Ok answer)) = stage.Answered
  kept_as flow (Ready (Err e)) = stage.Running flow
  kept_as flow Pending = stage.Running flow

  -- The poll's answer follows from the last of its accesses, and the state has answered; or the state
  -- came on, and may be polled again. It says that no number was left just where none was.
  abbrev pub StagePollIs : Facts K V → (Taken V E → Type 0) → (A → Call K V E) → Stage A K V E
      → Poll (Result (Answer K V E) PollError) → Stage A K V E → Type 0
  StagePollIs f such begins old (Ready (Ok answer)) new =
      AnswersWith f such begins old answer × (new ≡ stage.Answered)
  StagePollIs f such begins old (Ready (Err e)) new =
      CameOnWith f such begins old new × MayPoll new
      × ((e ≡ error.CallsSpent) ↔ (new ≡ stage.Spent))
  StagePollIs f such begins old Pending new = CameOnWith f such begins old new × MayPoll new

  -- the key is kept then that the answer needs
  abbrev pub KeepsName : (A → Option K) → Stage A K V E → Option K
      → Poll (Result (Answer K V E) PollError) → Stage A K V E → Option K → Type 0
  KeepsName names old before (Ready (Ok answer)) new after = after ≡ name_in names old before
  KeepsName names old before (Ready (Err e)) new after = IsNamed names old before new after
  KeepsName names old before Pending new after = IsNamed names old before new after

  -- the call that begins so came to where the state is; or no number was left for it
  abbrev pub CameFresh : Facts K V → (Taken V E → Type 0) → Call K V E → Stage A K V E → Type 0
  CameFresh f such c (stage.Running flow) = CameWith f such flow.call c (call_of flow)
  CameFresh f such c stage.Spent = Unit {0}
  CameFresh f such c _ = ⊥

  -- the same of the first poll of a state whose call begins so, and whose key was copied
  abbrev pub FirstIs : Facts K V → (Taken V E → Type 0) → Call K V E
      → Poll (Result (Answer K V E) PollError) → Stage A K V E → Type 0
  FirstIs f such c (Ready (Ok answer)) new =
      ((n : ℕ) × EndedWith f such n c (answers answer)) × (new ≡ stage.Answered)
  FirstIs f such c (Ready (Err e)) new =
      CameFresh f such c new × MayPoll new × ((e ≡ error.CallsSpent) ↔ (new ≡ stage.Spent))
  FirstIs f such c Pending new = CameFresh f such c new × MayPoll new
