-- What a get that was started after an insert answers.
use Rattle.std.specs.Prelude.{◌≡◌, ℕ, Bool, true, false, List, Some, None}
use Rattle.moka_hist.specs.Plan.{is_disabled}
use Rattle.moka_hist.specs.State.{State}
use Rattle.moka_hist.specs.Step.{Step}
use Rattle.moka_hist.specs.Run.{Any, Happens, IsReached, Run}
use Rattle.moka_hist.specs.declared.accesses.Turn.TheVariants as turn
use Rattle.moka_hist.specs.declared.events.Event.{Event}
use Rattle.moka_hist.specs.declared.events.Event.TheVariants as event
use Rattle.moka_hist.specs.declared.events.Start.TheVariants as start
use Rattle.moka_hist.specs.declared.records.Stored.{Stored}
use Rattle.moka_hist.specs.declared.replies.Answer.{Answer}
use Rattle.moka_hist.specs.declared.replies.Answer.TheVariants as answer
use Rattle.moka_hist.specs.declared.replies.Reply.{Reply}
use Rattle.moka_hist.specs.declared.replies.Reply.TheVariants as reply
use Rattle.moka_laws.specs.Looks.{is_visible_in}
use Rattle.moka_laws.specs.Starting.{Leads, WasStarted}
use Rattle.moka_callers.specs.Inserting.{StandsInserted}

-- A state on the way from the first state to the second.
pub record Between {K V E : Type 0} (eq : K → K → Bool) (b t : State K V E) : Type 0 where
  pub at : State K V E
  pub since : Leads eq b at
  pub until : Leads eq at t

-- What a get of the key answers by its step from a state, where it was started in the first: what
-- its look found, in a state since its start. That is the value that stood there; or none, since
-- nothing stood there, or what stood isn't visible as the step judges it.
pub data Answers {K V E : Type 0} (eq : K → K → Bool) (key : K) (b t : State K V E)
    (look : Between eq b t) : Answer K V E → Type 0 where
  Shows : (there : K) (stored : Stored V) →
      look.at.world.table.stored key ≡ Some (there, stored) →
      Answers eq key b t look (answer.Found (Some stored.value))
  Misses : look.at.world.table.stored key ≡ None → Answers eq key b t look (answer.Found None)
  Hides : (there : K) (stored : Stored V) →
      look.at.world.table.stored key ≡ Some (there, stored) →
      is_visible_in t there stored ≡ false → Answers eq key b t look (answer.Found None)

-- a get answers what stood under its key in a state since its start, unless the cache is disabled
abbrev pub GetsAnswerStored : (K V E : Type 0) → (K → K → Bool) → Type 0
GetsAnswerStored K V E eq =
    (s b t u : State K V E) (m : ℕ) (key : K) (a : Answer K V E) (es : List (Event K V E))
    (rs : List (Reply K V E)) →
    IsReached eq s → is_disabled s.world.desk.rules ≡ false →
    Happens eq Any s (event.Start (start.Get key)) (reply.Call m) b → Run eq Any b es rs t →
    Step eq t m (turn.Answer a) u → (look : Between eq b t) × Answers eq key b t look a

-- What a get answers, and what stood under its key as it looked: the value that the insert put in,
-- or what a later step left there.
pub record ReadsInserted {K V E : Type 0} (eq : K → K → Bool) (n : ℕ) (key q : K) (value : V)
    (b t : State K V E) (a : Answer K V E) : Type 0 where
  pub look : Between eq b t
  pub answers : Answers eq q b t look a
  pub stands : StandsInserted eq n key q value look.at

-- a get of an equal key that was started once an insert had answered
abbrev pub ReadsSeeWrites : (K V E : Type 0) → (K → K → Bool) → Type 0
ReadsSeeWrites K V E eq =
    (r v s b t u : State K V E) (n m : ℕ) (key q : K) (value : V) (done a : Answer K V E)
    (es fs : List (Event K V E)) (rs qs : List (Reply K V E)) →
    WasStarted eq (start.Insert key value) n r → is_disabled r.world.desk.rules ≡ false →
    Step eq r n (turn.Answer done) v → Run eq Any v es rs s → eq key q ≡ true →
    Happens eq Any s (event.Start (start.Get q)) (reply.Call m) b → Run eq Any b fs qs t →
    Step eq t m (turn.Answer a) u → ReadsInserted eq n key q value b t a
