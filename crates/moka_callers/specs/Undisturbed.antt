-- What a get finds that follows an insert, where no other call makes a step between.
use Rattle.std.specs.Prelude.{◌≡◌, ℕ, Bool, true, false, List, All, Some}
use Rattle.moka_hist.specs.Plan.{is_disabled}
use Rattle.moka_hist.specs.State.{State}
use Rattle.moka_hist.specs.Step.{Step}
use Rattle.moka_hist.specs.Run.{Any, Happens, Run}
use Rattle.moka_hist.specs.declared.accesses.Turn.TheVariants as turn
use Rattle.moka_hist.specs.declared.events.Event.{Event}
use Rattle.moka_hist.specs.declared.events.Event.TheVariants as event
use Rattle.moka_hist.specs.declared.events.Start.{Start}
use Rattle.moka_hist.specs.declared.events.Start.TheVariants as start
use Rattle.moka_hist.specs.declared.replies.Answer.{Answer}
use Rattle.moka_hist.specs.declared.replies.Answer.TheVariants as answer
use Rattle.moka_hist.specs.declared.replies.Reply.{Reply}
use Rattle.moka_hist.specs.declared.replies.Reply.TheVariants as reply
use Rattle.moka_laws.specs.Alone.{IsVisibleAt}
use Rattle.moka_callers.specs.Changing.{MakesNoStep}

-- the event makes no step of a call but the one of this number: it may step or poll that, and
-- whatever else happens is no step
abbrev pub StepsNoOther : {K V E : Type 0} → ℕ → Event K V E → Type 0
StepsNoOther n (event.Step m) = m ≡ n
StepsNoOther n (event.Poll m) = m ≡ n
StepsNoOther n e = Unit {0}

-- In the first state a call was started for this, and got this number. Then came events that step
-- no other call, and then a step by which it answers so.
pub record AnswersUndisturbed {K V E : Type 0} (eq : K → K → Bool) (begin : Start K V) (n : ℕ)
    (a : Answer K V E) (s t : State K V E) : Type 0 where
  pub begun : State K V E
  pub begins : Happens eq Any s (event.Start begin) (reply.Call n) begun
  pub events : List (Event K V E)
  pub replies : List (Reply K V E)
  pub mid : State K V E
  pub run : Run eq Any begun events replies mid
  pub undisturbed : All (StepsNoOther n) events
  pub last : Step eq mid n (turn.Answer a) t

-- some events that make no step lead from the first state to the second
pub record LeadsStill {K V E : Type 0} (eq : K → K → Bool) (s t : State K V E) : Type 0 where
  pub events : List (Event K V E)
  pub replies : List (Reply K V E)
  pub run : Run eq Any s events replies t
  pub still : All MakesNoStep events

-- a get of an equal key that follows an insert, with no step of another call from the insert's start
-- on, answers the inserted value, where the record is visible as the get's last step judges it
abbrev pub InsertedIsFound : (K V E : Type 0) → (K → K → Bool) → Type 0
InsertedIsFound K V E eq =
    (s t u v : State K V E) (n m : ℕ) (key q : K) (value : V) (done a : Answer K V E) →
    is_disabled s.world.desk.rules ≡ false →
    AnswersUndisturbed eq (start.Insert key value) n done s t → LeadsStill eq t u →
    eq key q ≡ true → (got : AnswersUndisturbed eq (start.Get q) m a u v) →
    IsVisibleAt got.mid q → a ≡ answer.Found (Some value)
