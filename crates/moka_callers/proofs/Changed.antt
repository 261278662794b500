-- What changes the table.
use Rattle.std.proofs.Common.{◌≡◌, ℕ, ◌+◌, ◌==◌, Bool, true, false, Option, Some, None, MatchBool, MatchOption, nat_lt, refl, sym, ap, ◌∙◌, subst}
use Rattle.moka_hist.specs.State.{Call, State}
use Rattle.moka_hist.specs.Dropping.{dropped}
use Rattle.moka_hist.specs.Run.{Becomes, Drops, Refuses, at_moment, last_call, started, with_desk}
use Rattle.moka_hist.specs.Telling.{is_asked, told}
use Rattle.moka_hist.specs.declared.events.Event.TheVariants as event
use Rattle.moka_hist.specs.declared.records.Mode.{Mode}
use Rattle.moka_hist.specs.declared.records.Mode.TheVariants as mode
use Rattle.moka_hist.specs.declared.replies.Refusal.{Refusal}
use Rattle.moka_hist.specs.declared.replies.Refusal.TheVariants as refusal
use Rattle.moka_hist.specs.declared.replies.Reply.{Reply}
use Rattle.moka_hist.specs.declared.replies.Reply.TheVariants as reply
use Rattle.moka_laws.proofs.Counting.{some_same}
use Rattle.moka_callers.specs.Changing.{ChangesBy, StepsChangeByWrites, TableChangesBySteps}
use Rattle.moka_callers.proofs.Parts.{step_changes}

module _ {K V E : Type 0} (eq : K → K → Bool) where
  pub by_writes : StepsChangeByWrites K V E eq
  by_writes s t n c turn live step =
      subst (λ (v : Call K V E). ChangesBy eq n v.plan s.world.table.stored t.world.table.stored)
      (some_same (sym step.live ∙ live)) (step_changes eq s t n turn step)

module _ {K V E : Type 0} (s t : State K V E) (r : Reply K V E) where
  -- the table is as it was
  abbrev Stays : Type 0
  Stays = t.world.table ≡ s.world.table

  refused : (why : Refusal) → Refuses s why r t → Stays
  refused why h = ap (λ (v : State K V E). v.world.table) h.same

  becomes : (next : State K V E) (said : Reply K V E) → next.world.table ≡ s.world.table →
      Becomes next said r t → Stays
  becomes next said same h = ap (λ (v : State K V E). v.world.table) h.after ∙ same

  at_stays : (moment : ℕ) (b : Bool) → MatchBool b (Refuses s refusal.ClockBack r t)
      (Becomes (at_moment s moment) reply.At r t) → Stays
  at_stays moment true h = refused refusal.ClockBack h
  at_stays moment false h = becomes (at_moment s moment) reply.At refl h

  start_stays : (start : _) (b : Bool) → MatchBool b (Refuses s refusal.CallsSpent r t)
      (Becomes (started s start) (reply.Call (s.world.desk.last + 1)) r t) → Stays
  start_stays start true h = refused refusal.CallsSpent h
  start_stays start false h =
      becomes (started s start) (reply.Call (s.world.desk.last + 1)) refl h

  tell_stays : (n : ℕ) (a : _) (b : Bool) → MatchBool b
      (Becomes (with_desk s (told s.world.desk n a)) reply.Told r t)
      (Refuses s refusal.NotAsked r t) → Stays
  tell_stays n a true h = becomes (with_desk s (told s.world.desk n a)) reply.Told refl h
  tell_stays n a false h = refused refusal.NotAsked h

  dropped_stays : (n : ℕ) (c : Call K V E) (in_mode : Mode) → Drops s n c in_mode r t → Stays
  dropped_stays n c mode.Mid h = refused refusal.NotParked h
  dropped_stays n c mode.Fresh h = becomes (dropped s n c) reply.Dropped refl h
  dropped_stays n c mode.Parked h = becomes (dropped s n c) reply.Dropped refl h

  drop_stays : (n : ℕ) (o : Option (Call K V E)) → MatchOption o
      (Refuses s refusal.UnknownCall r t) (λ c. Drops s n c c.mode r t) → Stays
  drop_stays n None h = refused refusal.UnknownCall h
  drop_stays n (Some c) h = dropped_stays n c c.mode h

module _ {K V E : Type 0} (eq : K → K → Bool) where
  pub stays : TableChangesBySteps K V E eq
  stays s t (event.At moment) r quiet h = at_stays s t r moment (nat_lt moment s.world.desk.clock) h
  stays s t (event.Start start) r quiet h =
      start_stays s t r start (s.world.desk.last == last_call) h
  stays s t (event.Tell n a) r quiet h = tell_stays s t r n a (is_asked s.world.desk n a) h
  stays s t (event.Drop n) r quiet h = drop_stays s t r n (s.calls n) h
  stays s t (event.Step n) r quiet h = absurd quiet
  stays s t (event.Poll n) r quiet h = absurd quiet
