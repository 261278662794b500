-- How a hold of the lock leaves a call.
use Rattle.std.specs.Prelude.{◌≡◌, ◌⊎◌, ℕ, Bool, true, Option, None, Result, Ok, Err, is_some, IfSome}
use Rattle.moka_hist.specs.Next.{answers}
use Rattle.moka_hist.specs.declared.replies.Answer.{Answer}
use Rattle.moka_hist.specs.declared.replies.Ask.{Ask}
use Rattle.moka_hist.specs.declared.replies.Ask.TheVariants as ask
use Rattle.moka_hist.specs.declared.accesses.Got.TheVariants as got
use Rattle.moka_hist.specs.declared.accesses.Turn.{Turn}
use Rattle.moka_hist.specs.declared.accesses.Turn.TheVariants as turn
use Rattle.moka_hist.specs.declared.visits.Found.TheVariants as found
use Rattle.moka_hist.specs.declared.visits.LockTaken.TheVariants as taken
use Rattle.moka_init.specs.FlowPlan.{IsOver, call_of, tested_in}
use Rattle.moka_init.specs.declared.flow.Flow.{Flow}
use Rattle.moka_kept.specs.Facts.{Facts}
use Rattle.moka_kept.specs.Paths.{CameWith, EndedWith, IsGiven, LeftWith}
use Rattle.moka_kept.specs.Rests.{Rests}
use Rattle.moka_kept.specs.Taking.{Taken}
use Rattle.moka_kept.specs.declared.parked.ParkedTask.{ParkedTask}
use Rattle.moka_kept.specs.declared.stop.OwnAsk.{OwnAsk}
use Rattle.moka_kept.specs.declared.stop.OwnAsk.TheVariants as own
use Rattle.moka_kept.specs.declared.stop.Stop.{Stop}
use Rattle.moka_kept.specs.declared.stop.Stop.TheVariants as stop

-- what a call asks that asks its own caller
abbrev pub asked : {K V : Type 0} → OwnAsk K V → Ask K V
asked own.Init = ask.Init
asked (own.Compute found) = ask.Compute found

module _ {K V E : Type 0} where
  -- how the call of this number is stopped that asks this: the listener by a notice of that number
  abbrev pub stop_asking : ℕ → Ask K V → Stop K V E
  stop_asking n ask.Init = stop.Asks own.Init
  stop_asking n (ask.Compute found) = stop.Asks (own.Compute found)
  stop_asking n (ask.Listener key value cause) =
      stop.Due (record { notice = n; key = key; value = value; cause = cause })

  -- how the turn of a step stops the call of this number; where it waits this task was parked, and
  -- this notice keeps the lock that is missing, if one does
  abbrev pub stop_of : Option ParkedTask → Option ℕ → ℕ → Turn K V E → Stop K V E
  stop_of task kept n turn.Going = stop.Going
  stop_of task kept n turn.Wait = stop.Waits task kept
  stop_of task kept n (turn.Ask ask) = stop_asking n ask
  stop_of task kept n (turn.Answer answer) = stop.Answers answer
  stop_of task kept n (turn.Item key value) = stop.Memory

  -- the same of a step, which finds no memory where it fails
  abbrev pub stop_after : {F : Type 0} → Option ParkedTask → Option ℕ → ℕ → Result (Turn K V E) F →
      Stop K V E
  stop_after task kept n (Ok turn) = stop_of task kept n turn
  stop_after task kept n (Err e) = stop.Memory

  -- the call is left waiting
  abbrev pub IsWaiting : Stop K V E → Type 0
  IsWaiting (stop.Waits task kept) = Unit {0}
  IsWaiting _ = ⊥

  -- the task that was parked, if one was
  abbrev pub task_in : Stop K V E → Option ParkedTask
  task_in (stop.Waits task kept) = task
  task_in _ = None

  -- the notice that keeps the lock which the call waits for, if one does
  abbrev pub kept_in : Stop K V E → Option ℕ
  kept_in (stop.Waits task kept) = kept
  kept_in _ = None

  -- the flow's call is at the lock of a key, which it finds kept by this notice
  abbrev pub FindsKept : (K → K → Bool) → Flow K V E → ℕ → Type 0
  FindsKept eq flow notice =
      IsGiven eq flow.call (call_of flow) (got.Desk (found.LockKey (taken.Kept notice)))

  -- The call of the old flow came by accesses to where the new one stands, and rests there. Each
  -- answer of who is asked that it took is such.
  pub record CameTo (f : Facts K V) (such : Taken V E → Type 0) (old new : Flow K V E)
      : Type 0 where
    pub number : new.call ≡ old.call
    pub came : CameWith f such old.call (call_of old) (call_of new)
    pub rests : Rests new

  -- the answer follows from the last of the accesses that the call made since
  abbrev pub AnswersFrom : Facts K V → (Taken V E → Type 0) → Flow K V E → Answer K V E
      → Type 0
  AnswersFrom f such old answer = EndedWith f such old.call (call_of old) (answers answer)

  -- the last access of the flow's call left it waiting
  abbrev pub Waits : (K → K → Bool) → Flow K V E → Type 0
  Waits eq flow = LeftWith eq flow.call (call_of flow) turn.Wait

  -- it left it asking this
  abbrev pub LeftAsking : (K → K → Bool) → Flow K V E → Ask K V → Type 0
  LeftAsking eq flow ask = LeftWith eq flow.call (call_of flow) (turn.Ask ask)

  -- The flow's call may go on in a further hold: its last access left it going; or its next visit
  -- judges a record by its replace test, which is to be asked first.
  abbrev pub GoesOnWith : (K → K → Bool) → Flow K V E → Type 0
  GoesOnWith eq flow =
      LeftWith eq flow.call (call_of flow) turn.Going
      ⊎ (is_some (tested_in (call_of flow).plan) ≡ true)

  -- the steps left the call so: its answer follows from the last of its accesses, and nothing is
  -- left of it; or it came to where its flow stands
  abbrev pub StopIs : Facts K V → (Taken V E → Type 0) → Flow K V E → Stop K V E → Flow K V E
      → Type 0
  StopIs f such old (stop.Answers answer) new = AnswersFrom f such old answer × IsOver new
  StopIs f such old stop.Going new = CameTo f such old new × GoesOnWith f.eq new
  StopIs f such old (stop.Waits task kept) new =
      CameTo f such old new × Waits f.eq new × IfSome kept (FindsKept f.eq new)
  StopIs f such old (stop.Asks own) new = CameTo f such old new × LeftAsking f.eq new (asked own)
  StopIs f such old (stop.Due due) new =
      CameTo f such old new × LeftAsking f.eq new (ask.Listener due.key due.value due.cause)
      × (due.notice ≡ new.call)
  StopIs f such old stop.Memory new = CameTo f such old new
