-- What follows a hold of the lock, without it, and which notice a call awaits.
use Rattle.std.specs.Prelude.{◌≡◌, ◌⊎◌, ℕ, Bool, Option, Some, None, IsSome, IsSomeAnd, Result, Ok, Err}
use Rattle.std.specs.Option.{option_or}
use Rattle.futures.specs.declared.task.Poll.{Poll}
use Rattle.futures.specs.declared.task.Poll.TheVariants.{Ready, Pending}
use Rattle.moka_hist.specs.Plan.{hearing}
use Rattle.moka_hist.specs.declared.replies.Answer.{Answer}
use Rattle.moka_init.specs.FlowPlan.{call_of}
use Rattle.moka_init.specs.declared.flow.Flow.{Flow}
use Rattle.moka_cache.specs.declared.errors.PollError.{PollError}
use Rattle.moka_cache.specs.declared.errors.PollError.TheVariants as error
use Rattle.moka_cache.specs.declared.hearing.Turned.{Turned}
use Rattle.moka_cache.specs.declared.hearing.Turned.TheVariants as turned
use Rattle.moka_kept.specs.Stops.{FindsKept, kept_in}
use Rattle.moka_kept.specs.declared.heard.Heard.{Heard}
use Rattle.moka_kept.specs.declared.heard.ListenerEnd.{ListenerEnd}
use Rattle.moka_kept.specs.declared.stop.Stop.{Stop}
use Rattle.moka_kept.specs.declared.stop.Stop.TheVariants as stop

-- the ends that the listener gives of notices, if there is one
abbrev pub Ends : {L : Type 0} → (L → ℕ → ListenerEnd → Type 0) → Option L → ℕ → ListenerEnd → Type 0
Ends ends listener notice end = IsSomeAnd listener (λ l. ends l notice end)

-- the notices whose polls the listener leaves pending, if there is one
abbrev pub Unheard : {L : Type 0} → (L → ℕ → Type 0) → Option L → ℕ → Type 0
Unheard pends listener notice = IsSomeAnd listener (λ l. pends l notice)

-- what the poll is over with, if it is over after that turn
abbrev pub over_in : {A : Type 0} → Turned A → Option (Poll A)
over_in (turned.On heard) = None
over_in (turned.Over poll) = Some poll

-- the end of a notice that the next hold of the lock is to tell, if the listener gave one
abbrev pub heard_in : {A : Type 0} → Turned A → Option Heard
heard_in (turned.On heard) = heard
heard_in (turned.Over poll) = None

-- the turn goes on, or is pending
abbrev pub MayPend : {A : Type 0} → Option (Poll A) → Type 0
MayPend turn = (turn ≡ None) ⊎ (turn ≡ Some Pending)

-- the notice at which a call stands, if it does, is such
abbrev pub Awaits : (ℕ → Type 0) → Option ℕ → Type 0
Awaits such at = (n : ℕ) × (at ≡ Some n) × such n

-- it is the end of the notice at which a call stands, as such a listener may give it
abbrev pub IsHeard : (ℕ → ListenerEnd → Type 0) → Option ℕ → Heard → Type 0
IsHeard ends at heard = (at ≡ Some heard.notice) × ends heard.notice heard.end

-- the listener's last poll for the notice at which a call stands, if it does and there is a
-- listener, left that pending
abbrev pub WasPolled : {L : Type 0} → (L → ℕ → Type 0) → Option L → Option ℕ → Type 0
WasPolled pends listener at = IsSome listener → (n : ℕ) → at ≡ Some n → Unheard pends listener n

module _ {K V E : Type 0} where
  -- the notice whose end the flow's call awaits by its plan: its own, or that of an owed write
  -- which it took up
  abbrev pub heard_by : Flow K V E → Option ℕ
  heard_by flow = hearing flow.call (call_of flow).plan

  -- the notice at which the flow's call stands, once a hold left it so: that which keeps the lock
  -- that it waits for, or else that of its plan
  abbrev pub standing_at : Stop K V E → Flow K V E → Option ℕ
  standing_at stop flow = option_or (kept_in stop) (heard_by flow)

  -- the flow's call stands at a notice that is such: at one that it found to keep its key's lock, or
  -- at that of its plan
  abbrev pub StandsAtOne : (K → K → Bool) → (ℕ → Type 0) → Flow K V E → Type 0
  StandsAtOne eq such flow =
      (n : ℕ) × ((heard_by flow ≡ Some n) ⊎ FindsKept eq flow n) × such n

  -- What follows a hold that left the call so: it goes on, also where it asks its own caller; may be
  -- pending where it asks the listener or waits; or
  -- answers.
  abbrev pub FollowsStop : Stop K V E → Option (Poll (Result (Answer K V E) PollError)) → Type 0
  FollowsStop stop.Going turn = turn ≡ None
  FollowsStop (stop.Waits task kept) turn = MayPend turn
  FollowsStop (stop.Asks own) turn = turn ≡ None
  FollowsStop (stop.Due due) turn = MayPend turn
  FollowsStop (stop.Answers answer) turn = turn ≡ Some (Ready (Ok answer))
  FollowsStop stop.Memory turn = turn ≡ Some (Ready (Err error.Memory))
