-- How steps of a flow, one after another, leave its call.
use Rattle.std.proofs.lemmas.Option.{none-some}
use Rattle.std.proofs.Common.{◌≡◌, inl, ℕ, false, Option, Some, None, Result, Ok, Err, IfOk, IfSome, OnErr, refl, sym, ◌∙◌, subst}
use Rattle.moka_hist.specs.Next.{answers}
use Rattle.moka_hist.specs.State.{Call}
use Rattle.moka_hist.specs.declared.accesses.Turn.{Turn}
use Rattle.moka_hist.specs.declared.accesses.Turn.TheVariants as turn
use Rattle.moka_hist.specs.declared.replies.Answer.{Answer}
use Rattle.moka_hist.specs.declared.replies.Ask.TheVariants as ask
use Rattle.moka_init.specs.FlowPlan.{IsLive, Leaves, StandsStill, call_of, is_over, next_in}
use Rattle.moka_init.specs.Grounds.{HasBegun}
use Rattle.moka_init.specs.declared.flow.Flow.{Flow}
use Rattle.moka_kept.specs.Facts.{Facts, TellsSo}
use Rattle.moka_kept.specs.Meets.{CallMeets, StopSo}
use Rattle.moka_kept.specs.Paths.{CameWith, EndedWith, LeftWith}
use Rattle.moka_kept.specs.Rests.{Rests}
use Rattle.moka_kept.specs.Taking.{Taken}
use Rattle.moka_kept.specs.Stops.{CameTo, FindsKept, GoesOnWith, StopIs, stop_after, stop_of}
use Rattle.moka_kept.specs.declared.parked.ParkedTask.{ParkedTask}
use Rattle.moka_kept.specs.declared.stop.Stop.{Stop}
use Rattle.moka_kept.specs.declared.stop.Stop.TheVariants as stop
use Rattle.moka_kept.proofs.Ways.{came_on, came_same, came_weaker, ended_came, ended_on, ended_weaker}

module _ {K V E : Type 0} (f : Facts K V) (such : Taken V E → Type 0) where
  -- a flow that stands still is where it was
  pub stays : (old new : Flow K V E) → Rests old → HasBegun None new → StandsStill old new → CameTo f such old new
  stays old new rests begun still = record {
    number = still.number;
    came = came_same f such old.call (call_of old) (call_of new) still.call;
    rests = record {
      live = subst (λ (c : Call K V E). is_over c.plan ≡ false) (sym still.call) rests.live;
      begun = begun;
    };
  }

  -- a step that leaves its call live brings it to where its flow stands
  came_by : (old new : Flow K V E) (t : Turn K V E) → new.call ≡ old.call → HasBegun None new → IsLive new
      → EndedWith f such old.call (call_of old) (record { left = Some (call_of new); turn = t }) → CameTo f such old new
  came_by old new t number begun live end = record {
    number = number;
    came = ended_came f such old.call (call_of old) (record { left = Some (call_of new); turn = t }) (call_of new) end refl;
    rests = record { live = live; begun = begun };
  }

  -- its turn is the one with which its last access left it
  left_by : (old new : Flow K V E) (t : Turn K V E) → new.call ≡ old.call
      → EndedWith f such old.call (call_of old) (record { left = Some (call_of new); turn = t }) → LeftWith f.eq new.call (call_of new) t
  left_by old new t number end =
      subst (λ n. LeftWith f.eq n (call_of new) t) (sym number) (record { call = end.call; given = end.given; last = end.last.gave; follows = end.follows })

  -- a step that is followed by this turn stops its call so
  pub stops : (old : Flow K V E) (t : Turn K V E) (new : Flow K V E) (task : Option ParkedTask) (kept : Option ℕ) → IfSome kept (FindsKept f.eq new) → new.call ≡ old.call → HasBegun None new → Leaves t new
      → EndedWith f such old.call (call_of old) (next_in t new) → StopIs f such old (stop_of task kept new.call t) new
  stops old turn.Going new task kept finds number begun live end =
      (came_by old new turn.Going number begun live end, inl (left_by old new turn.Going number end))
  stops old turn.Wait new task kept finds number begun live end = (came_by old new turn.Wait number begun live end, left_by old new turn.Wait number end, finds)
  stops old (turn.Ask ask.Init) new task kept finds number begun live end =
      (came_by old new (turn.Ask ask.Init) number begun live end, left_by old new (turn.Ask ask.Init) number end)
  stops old (turn.Ask (ask.Compute found)) new task kept finds number begun live end =
      (came_by old new (turn.Ask (ask.Compute found)) number begun live end, left_by old new (turn.Ask (ask.Compute found)) number end)
  stops old (turn.Ask (ask.Listener key value cause)) new task kept finds number begun live end =
      (came_by old new (turn.Ask (ask.Listener key value cause)) number begun live end, left_by old new (turn.Ask (ask.Listener key value cause)) number end, refl)
  stops old (turn.Answer answer) new task kept finds number begun live end = (end, live)
  stops old (turn.Item key value) new task kept finds number begun live end = came_by old new (turn.Item key value) number begun live end

  -- so does a step that may find no memory
  pub stops_made : {F : Type 0} (old : Flow K V E) (r : Result (Turn K V E) F) (new : Flow K V E) (task : Option ParkedTask) (kept : Option ℕ) → IfSome kept (FindsKept f.eq new) → Rests old → new.call ≡ old.call → HasBegun None new → IfOk r (λ t. Leaves t new)
      → IfOk r (λ t. EndedWith f such old.call (call_of old) (next_in t new)) → OnErr r (StandsStill old new) → StopIs f such old (stop_after task kept new.call r) new
  stops_made old (Ok t) new task kept finds rests number begun leaves end still = stops old t new task kept finds number begun leaves end
  stops_made old (Err e) new task kept finds rests number begun leaves end still = stays old new rests begun still

  -- a step that leaves the call going
  pub left_going : {F : Type 0} (old : Flow K V E) (r : Result (Turn K V E) F) (new : Flow K V E) → r ≡ Ok turn.Going → StopIs f such old (stop_after None None new.call r) new
      → CameTo f such old new × GoesOnWith f.eq new
  left_going {F} old r new going stops = subst (λ (x : Result (Turn K V E) F). StopIs f such old (stop_after None None new.call x) new) going stops

  -- steps after steps
  pub came_to_on : (a b c : Flow K V E) → CameTo f such a b → CameTo f such b c → CameTo f such a c
  came_to_on a b c before after = record {
    number = after.number ∙ before.number;
    came = came_on f such a.call (call_of a) (call_of b) (call_of c) before.came
        (subst (λ n. CameWith f such n (call_of b) (call_of c)) before.number after.came);
    rests = after.rests;
  }

  pub answers_on : (a b : Flow K V E) (answer : Answer K V E) → CameTo f such a b → EndedWith f such b.call (call_of b) (answers answer)
      → EndedWith f such a.call (call_of a) (answers answer)
  answers_on a b answer before end =
      ended_on f such a.call (call_of a) (call_of b) (answers answer) before.came (subst (λ n. EndedWith f such n (call_of b) (answers answer)) before.number end)

  pub stops_on : (a b : Flow K V E) (s : Stop K V E) (c : Flow K V E) → CameTo f such a b → StopIs f such b s c → StopIs f such a s c
  stops_on a b (stop.Answers answer) c before end = (answers_on a b answer before end.0, end.1)
  stops_on a b stop.Going c before after = (came_to_on a b c before after.0, after.1)
  stops_on a b (stop.Waits task kept) c before after = (came_to_on a b c before after.0, after.1, after.2)
  stops_on a b (stop.Asks own) c before after = (came_to_on a b c before after.0, after.1)
  stops_on a b (stop.Due due) c before after = (came_to_on a b c before after.0, after.1, after.2)
  stops_on a b stop.Memory c before after = came_to_on a b c before after

  -- a flow that rests is where it is
  pub came_here : (flow : Flow K V E) → Rests flow → CameTo f such flow flow
  came_here flow rests = record { number = refl; came = came_same f such flow.call (call_of flow) (call_of flow) refl; rests = rests }

module _ {K V E : Type 0} (f : Facts K V) (such other : Taken V E → Type 0) (weaker : (taken : Taken V E) → such taken → other taken) where
  pub came_to_weaker : (old new : Flow K V E) → CameTo f such old new → CameTo f other old new
  came_to_weaker old new came =
      record { number = came.number; came = came_weaker f such other weaker old.call (call_of old) (call_of new) came.came; rests = came.rests }

  -- less is known of the answers that are taken
  pub stops_weaker : (old : Flow K V E) (s : Stop K V E) (new : Flow K V E) → StopIs f such old s new → StopIs f other old s new
  stops_weaker old (stop.Answers answer) new end = (ended_weaker f such other weaker old.call (call_of old) (answers answer) end.0, end.1)
  stops_weaker old stop.Going new after = (came_to_weaker old new after.0, after.1)
  stops_weaker old (stop.Waits task kept) new after = (came_to_weaker old new after.0, after.1, after.2)
  stops_weaker old (stop.Asks own) new after = (came_to_weaker old new after.0, after.1)
  stops_weaker old (stop.Due due) new after = (came_to_weaker old new after.0, after.1, after.2)
  stops_weaker old stop.Memory new after = came_to_weaker old new after

module _ {K V E : Type 0} (f : Facts K V) where
  -- what the turn tells, how it stops the call tells
  turn_so : (t : Turn K V E) (task : Option ParkedTask) (kept : Option ℕ) (n : ℕ) → TellsSo f t → StopSo f (stop_of task kept n t)
  turn_so turn.Going task kept n so = so
  turn_so turn.Wait task kept n so = so
  turn_so (turn.Ask ask.Init) task kept n so = so
  turn_so (turn.Ask (ask.Compute found)) task kept n so = so
  turn_so (turn.Ask (ask.Listener key value cause)) task kept n so = so
  turn_so (turn.Answer answer) task kept n so = so
  turn_so (turn.Item key value) task kept n so = so

  -- a step of a call that tells what is so, which may find no memory
  pub stops_so : {F : Type 0} (own : Option K) (such : Taken V E → Type 0) (old : Flow K V E) (r : Result (Turn K V E) F) (new : Flow K V E) (task : Option ParkedTask) (kept : Option ℕ)
      → CallMeets f own such old.call (call_of old) → IfOk r (λ t. EndedWith f such old.call (call_of old) (next_in t new)) → StopSo f (stop_after task kept new.call r)
  stops_so own such old (Ok t) new task kept meets ended = turn_so t task kept new.call (subst (λ x. TellsSo f x) (turn_is t new) (meets.1 (next_in t new) ended))
    where
      turn_is : (t : Turn K V E) (new : Flow K V E) → (next_in t new).turn ≡ t
      turn_is turn.Going new = refl
      turn_is turn.Wait new = refl
      turn_is (turn.Ask ask) new = refl
      turn_is (turn.Answer answer) new = refl
      turn_is (turn.Item key value) new = refl
  stops_so own such old (Err e) new task kept meets ended = λ pair is. absurd (none-some pair is)

  -- what a call meets, it meets from where it came on
  pub meets_on : (own : Option K) (such : Taken V E → Type 0) (old new : Flow K V E) → CameTo f such old new → CallMeets f own such old.call (call_of old)
      → CallMeets f own such new.call (call_of new)
  meets_on own such old new came meets = subst (λ n. CallMeets f own such n (call_of new)) (sym came.number) (
    λ d way. meets.0 d (came_on f such old.call (call_of old) (call_of new) d came.came way),
    λ next ended. meets.1 next (ended_on f such old.call (call_of old) (call_of new) next came.came ended),
  )

  -- and where less is taken
  pub meets_less : (own : Option K) (such other : Taken V E → Type 0) → ((taken : Taken V E) → such taken → other taken) → (n : ℕ) (c : Call K V E)
      → CallMeets f own other n c → CallMeets f own such n c
  meets_less own such other weaker n c meets = (
    λ d way. meets.0 d (came_weaker f such other weaker n c d way),
    λ next ended. meets.1 next (ended_weaker f such other weaker n c next ended),
  )
