-- How turns of a poll, one after another, leave its call.
use Rattle.std.proofs.Common.{◌≡◌, ℕ, Bool, true, Option, Some, None, IsSome, Result, Ok, Err, IfSome, ◌⊎◌, inl, inr, refl, sym, ◌∙◌, subst}
use Rattle.std.proofs.lemmas.Option.{same_Some}
use Rattle.futures.specs.Poll.{OnPending}
use Rattle.futures.specs.declared.task.Poll.{Poll}
use Rattle.futures.specs.declared.task.Poll.TheVariants.{Ready, Pending}
use Rattle.moka_hist.specs.Next.{answers}
use Rattle.moka_hist.specs.declared.entries.Entry.{Entry}
use Rattle.moka_hist.specs.declared.replies.Answer.{Answer}
use Rattle.moka_init.specs.FlowPlan.{call_of, tested_in}
use Rattle.moka_init.specs.Grounds.{access_at}
use Rattle.moka_init.specs.declared.flow.Flow.{Flow}
use Rattle.moka_kept.specs.Facts.{Facts}
use Rattle.moka_kept.specs.Rests.{Rests}
use Rattle.moka_kept.specs.Taking.{Taken, is_taking}
use Rattle.moka_kept.specs.Stops.{CameTo, FindsKept, IsWaiting, StopIs, Waits}
use Rattle.moka_kept.specs.declared.brought.Brought.{Brought}
use Rattle.moka_kept.specs.declared.stop.OwnAsk.TheVariants as own
use Rattle.moka_kept.specs.declared.stop.Stop.{Stop}
use Rattle.moka_kept.specs.declared.stop.Stop.TheVariants as stop
use Rattle.moka_kept.proofs.Stopping.{answers_on, came_here, came_to_on, came_to_weaker}
use Rattle.moka_kept.proofs.Ways.{ended_weaker}
use Rattle.moka_cache.specs.Asked.{BegunBy, IsAskedFor}
use Rattle.moka_cache.specs.Hearing.{Awaits, FollowsStop, MayPend, StandsAtOne, standing_at}
use Rattle.moka_cache.specs.Polls.{CameToAsk, PollIs, TurnIs}
use Rattle.moka_cache.specs.declared.errors.PollError.{PollError}
use Rattle.moka_cache.proofs.Taking.{unasked_then}

module _ {K V E : Type 0} (f : Facts K V) (such : Taken V E → Type 0) where
  -- a turn that goes on, or is pending
  may_pend : (old : Flow K V E) (t : Option (Poll (Result (Answer K V E) PollError))) (new : Flow K V E) → CameTo f such old new → MayPend t → TurnIs f such old t new
  may_pend old t new came (inl none) = subst (λ u. TurnIs f such old u new) (sym none) came
  may_pend old t new came (inr pends) = subst (λ u. TurnIs f such old u new) (sym pends) came

  -- a hold of the lock, with what follows it, ends a turn of a poll
  pub turned : (old : Flow K V E) (s : Stop K V E) (t : Option (Poll (Result (Answer K V E) PollError))) (new : Flow K V E) → StopIs f such old s new → FollowsStop s t
      → TurnIs f such old t new
  turned old (stop.Answers answer) t new end follows = subst (λ u. TurnIs f such old u new) (sym follows) end
  turned old stop.Going t new after follows = subst (λ u. TurnIs f such old u new) (sym follows) after.0
  turned old (stop.Waits task kept) t new after follows = may_pend old t new after.0 follows
  turned old (stop.Asks own) t new after follows = subst (λ u. TurnIs f such old u new) (sym follows) after.0
  turned old (stop.Due due) t new after follows = may_pend old t new after.0 follows
  turned old stop.Memory t new after follows = subst (λ u. TurnIs f such old u new) (sym follows) (refl, after)

  -- the notice at which a hold left the call, that its plan awaits or that keeps the lock
  stands_at : (unheard : ℕ → Type 0) (old : Flow K V E) (s : Stop K V E) (new : Flow K V E) → StopIs f such old s new → Awaits unheard (standing_at s new) → StandsAtOne f.eq unheard new
  stands_at unheard old (stop.Waits task (Some notice)) new stops at = (at.0, inr (subst (FindsKept f.eq new) (same_Some notice at.0 at.1) stops.2), at.2)
  stands_at unheard old (stop.Waits task None) new stops at = (at.0, inl at.1, at.2)
  stands_at unheard old stop.Going new stops at = (at.0, inl at.1, at.2)
  stands_at unheard old (stop.Asks own) new stops at = (at.0, inl at.1, at.2)
  stands_at unheard old (stop.Due due) new stops at = (at.0, inl at.1, at.2)
  stands_at unheard old (stop.Answers answer) new stops at = (at.0, inl at.1, at.2)
  stands_at unheard old stop.Memory new stops at = (at.0, inl at.1, at.2)

  -- where the steps left the call waiting, it waits
  pub waits_still : (unheard : ℕ → Type 0) (old : Flow K V E) (s : Stop K V E) (new : Flow K V E) → StopIs f such old s new → IsWaiting s ⊎ Awaits unheard (standing_at s new) →
      Waits f.eq new ⊎ StandsAtOne f.eq unheard new
  waits_still unheard old (stop.Waits task kept) new stops (inl waits) = inl stops.1
  waits_still unheard old stop.Going new stops (inl waits) = absurd waits
  waits_still unheard old (stop.Asks own) new stops (inl waits) = absurd waits
  waits_still unheard old (stop.Due due) new stops (inl waits) = absurd waits
  waits_still unheard old (stop.Answers answer) new stops (inl waits) = absurd waits
  waits_still unheard old stop.Memory new stops (inl waits) = absurd waits
  waits_still unheard old s new stops (inr other) = inr (stands_at unheard old s new stops other)

  -- who is asked is as it was, or began where the call came to its own ask
  pub begun_at : {Q : Type 0} (begins : Q → Option (Entry K V) → Q → Type 0) (old : Flow K V E) (s : Stop K V E) (new : Flow K V E) (before after : Q) → StopIs f such old s new
      → BegunBy begins s before after → (after ≡ before) ⊎ CameToAsk f such old
  begun_at begins old stop.Going new before after stops begun = inl begun
  begun_at begins old (stop.Waits task kept) new before after stops begun = inl begun
  begun_at begins old (stop.Answers answer) new before after stops begun = inl begun
  begun_at begins old stop.Memory new before after stops begun = inl begun
  begun_at begins old (stop.Due due) new before after stops begun = inl begun
  begun_at begins old (stop.Asks own.Init) new before after stops begun = inl begun
  begun_at begins old (stop.Asks (own.Compute found)) new before after stops begun = inr (new, stops.0, inr (inr (found, stops.1)))

  -- or was asked its test there
  pub unasked_or : {Q : Type 0} (tests : Q → V → Bool → Q → Type 0) (flow : Flow K V E) → Rests flow → (first before after : Q) (b : Brought V E)
      → IsAskedFor tests (tested_in (call_of flow).plan) first b before → (after ≡ before) ⊎ CameToAsk f such flow → (after ≡ first) ⊎ CameToAsk f such flow
  unasked_or tests flow rests first before after b once (inr asks) = inr asks
  unasked_or {Q} tests flow rests first before after b once (inl same) = by (tested_in (call_of flow).plan) refl where
    by : (o : Option V) → tested_in (call_of flow).plan ≡ o → (after ≡ first) ⊎ CameToAsk f such flow
    by (Some value) is = inr (flow, came_here f such flow rests, inr (inl (subst IsSome (sym is) refl)))
    by None is = inl (same ∙ unasked_then tests first before (tested_in (call_of flow).plan) b once is)

  -- it may be another where its own ask is open
  pub asked_here : {Q : Type 0} (flow : Flow K V E) → Rests flow → is_taking (access_at flow) ≡ true → (first after : Q) → (after ≡ first) ⊎ CameToAsk f such flow
  asked_here flow rests taking first after = inr (flow, came_here f such flow rests, inl taking)

  -- it is so over several turns
  pub asked_on : {Q : Type 0} (a b : Flow K V E) (first before after : Q) → CameTo f such a b → (before ≡ first) ⊎ CameToAsk f such a → (after ≡ before) ⊎ CameToAsk f such b
      → (after ≡ first) ⊎ CameToAsk f such a
  asked_on a b first before after came one (inr asks) = inr (asks.0, came_to_on f such a b asks.0 came asks.1, asks.2)
  asked_on a b first before after came (inr asks) (inl same) = inr asks
  asked_on a b first before after came (inl is) (inl same) = inl (same ∙ is)

  -- turns after turns
  pub polls_on : (a b : Flow K V E) (poll : Poll (Result (Answer K V E) PollError)) (c : Flow K V E) → CameTo f such a b → PollIs f such b poll c → PollIs f such a poll c
  polls_on a b (Ready (Ok answer)) c before end = (answers_on f such a b answer before end.0, end.1)
  polls_on a b (Ready (Err e)) c before after = (after.0, came_to_on f such a b c before after.1)
  polls_on a b Pending c before after = came_to_on f such a b c before after

-- what a pending poll has, where it is pending
pub pending_is : {A : Type 0} (P : Type 0) (poll : Poll A) → poll ≡ Pending → OnPending poll P → P
pending_is P poll is h = subst (λ p. OnPending p P) is h

-- what holds where a turn is pending
pub pending_by : {A : Type 0} (P : Type 0) (t : Option (Poll A)) → (t ≡ Some Pending → P) → IfSome t (λ poll. OnPending poll P)
pending_by P None h = tt
pending_by P (Some (Ready a)) h = tt
pending_by P (Some Pending) h = h refl

-- why it is pending
pub pends_by : {A : Type 0} (P Q R : Type 0) (t : Option (Poll A)) → IfSome t (λ poll. OnPending poll (P ⊎ R)) → IfSome t (λ poll. OnPending poll (P ⊎ (Q ⊎ R)))
pends_by P Q R None h = tt
pends_by P Q R (Some (Ready a)) h = tt
pends_by P Q R (Some Pending) h = wider h where
  wider : P ⊎ R → P ⊎ (Q ⊎ R)
  wider (inl p) = inl p
  wider (inr r) = inr (inr r)

module _ {K V E : Type 0} (f : Facts K V) (such other : Taken V E → Type 0) (weaker : (taken : Taken V E) → such taken → other taken) where
  -- less is known of the answers that are taken
  pub turns_weaker : (old : Flow K V E) (t : Option (Poll (Result (Answer K V E) PollError))) (new : Flow K V E) → TurnIs f such old t new → TurnIs f other old t new
  turns_weaker old None new after = came_to_weaker f such other weaker old new after
  turns_weaker old (Some (Ready (Ok answer))) new end = (ended_weaker f such other weaker old.call (call_of old) (answers answer) end.0, end.1)
  turns_weaker old (Some (Ready (Err e))) new after = (after.0, came_to_weaker f such other weaker old new after.1)
  turns_weaker old (Some Pending) new after = came_to_weaker f such other weaker old new after

  pub asks_weaker : (A : Type 0) (old : Flow K V E) → A ⊎ CameToAsk f such old → A ⊎ CameToAsk f other old
  asks_weaker A old (inl same) = inl same
  asks_weaker A old (inr asks) = inr (asks.0, came_to_weaker f such other weaker old asks.0 asks.1, asks.2)
