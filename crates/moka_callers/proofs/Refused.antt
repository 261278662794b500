-- An event is refused for its cause.
use Rattle.std.proofs.Common.{◌≡◌, ◌<◌, ℕ, ◌+◌, ◌==◌, Bool, true, false, Option, Some, None, MatchOption, MatchBool, nat_lt, refl, sym, ◌∙◌, subst, arith}
use Rattle.std.proofs.lemmas.Bool.{eqb-true, eq-eqb, false≢true}
use Rattle.std.proofs.lemmas.Bool.Decides.{nat_tests}
use Rattle.moka_hist.specs.State.{Call, State}
use Rattle.moka_hist.specs.Telling.{is_asked, told}
use Rattle.moka_hist.specs.Dropping.{dropped}
use Rattle.moka_hist.specs.Run.{Any, Becomes, Drops, Happens, Polls, Refuses, Steps, at_moment, last_call, reply_of, started, with_desk}
use Rattle.moka_hist.specs.declared.accesses.Turn.{Turn}
use Rattle.moka_hist.specs.declared.accesses.Turn.TheVariants as turn
use Rattle.moka_hist.specs.declared.records.Mode.{Mode}
use Rattle.moka_hist.specs.declared.records.Mode.TheVariants as mode
use Rattle.moka_hist.specs.declared.events.Event.{Event}
use Rattle.moka_hist.specs.declared.events.Event.TheVariants as event
use Rattle.moka_hist.specs.declared.events.Start.{Start}
use Rattle.moka_hist.specs.declared.events.Told.{Told}
use Rattle.moka_hist.specs.declared.replies.Refusal.{Refusal}
use Rattle.moka_hist.specs.declared.replies.Refusal.TheVariants as refusal
use Rattle.moka_hist.specs.declared.replies.Reply.{Reply}
use Rattle.moka_hist.specs.declared.replies.Reply.TheVariants as reply
use Rattle.moka_laws.proofs.Counting.{none_some, some_same}
use Rattle.moka_callers.specs.Refusing.{IsRefusedByCause, IsToRefuse, RefusedByCause}

same_refusal : {K V E : Type 0} (a b : Refusal) →
    ◌≡◌ {A = Reply K V E} (reply.Refused a) (reply.Refused b) → a ≡ b
same_refusal a b e = cc

-- no step replies that it is refused
no_refusal : {K V E : Type 0} (t : Turn K V E) (why : Refusal) → reply_of t ≡ reply.Refused why → ⊥
no_refusal turn.Going why e = cc
no_refusal turn.Wait why e = cc
no_refusal (turn.Ask ask) why e = cc
no_refusal (turn.Answer answer) why e = cc
no_refusal (turn.Item key value) why e = cc

not_mid : {K V E : Type 0} (c : Call K V E) → c.mode ≡ mode.Mid → (m : Mode) → c.mode ≡ m →
    m ≡ mode.Mid
not_mid c is m e = sym e ∙ is

not_spent : (last : ℕ) → (last == last_call) ≡ false → last ≡ last_call → ⊥
not_spent last off e = false≢true (sym off ∙ eq-eqb last last_call e)

not_back : (moment clock : ℕ) → nat_lt moment clock ≡ false → moment < clock → ⊥
not_back moment clock off back = false≢true (grind (arith, nat_tests, off, back))

module _ {K V E : Type 0} (eq : K → K → Bool) (s t : State K V E) (e : Event K V E)
    (r : Reply K V E) where
  -- it was refused for this reason alone
  refused : (w : Refusal) → IsToRefuse s e w → ((why : Refusal) → IsToRefuse s e why → why ≡ w) →
      Refuses s w r t → (why : Refusal) → IsRefusedByCause s e r t why
  refused w cause alone h why = record {
    cause = λ is. subst (IsToRefuse s e) (same_refusal {K = K} {V = V} {E = E} w why (sym h.reply ∙ is)) cause;
    refused = λ because. subst (λ v. r ≡ reply.Refused v) (sym (alone why because)) h.reply;
    same = λ is. h.same;
  }

  -- it was carried out
  carried_out : ((why : Refusal) → r ≡ reply.Refused why → ⊥) →
      ((why : Refusal) → IsToRefuse s e why → ⊥) → (why : Refusal) → IsRefusedByCause s e r t why
  carried_out not none why = record {
    cause = λ is. absurd (not why is);
    refused = λ because. absurd (none why because);
    same = λ is. absurd (not why is);
  }

module _ {K V E : Type 0} (eq : K → K → Bool) (s t : State K V E) (r : Reply K V E) where
  at_so : (moment : ℕ) → Happens eq Any s (event.At moment) r t → (why : Refusal) →
      IsRefusedByCause s (event.At moment) r t why
  at_so moment h = by (nat_lt moment s.world.desk.clock) refl h
    where
      by : (b : Bool) → nat_lt moment s.world.desk.clock ≡ b →
          MatchBool b (Refuses s refusal.ClockBack r t)
          (Becomes (at_moment s moment) reply.At r t) →
          (why : Refusal) → IsRefusedByCause s (event.At moment) r t why
      by true is h = refused eq s t (event.At moment) r refusal.ClockBack
          (grind (arith, nat_tests, is)) alone h
        where
          alone : (why : Refusal) → IsToRefuse s (event.At moment) why → why ≡ refusal.ClockBack
          alone refusal.ClockBack because = refl
          alone _ because = absurd because
      by false off h = carried_out eq s t (event.At moment) r (λ why is. not why (sym h.reply ∙ is)) none
        where
          not : (why : Refusal) → ◌≡◌ {A = Reply K V E} reply.At (reply.Refused why) → ⊥
          not why is = cc

          none : (why : Refusal) → IsToRefuse s (event.At moment) why → ⊥
          none refusal.ClockBack back = not_back moment s.world.desk.clock off back
          none _ because = absurd because

  start_so : (start : Start K V) → Happens eq Any s (event.Start start) r t → (why : Refusal) →
      IsRefusedByCause s (event.Start start) r t why
  start_so start h = by (s.world.desk.last == last_call) refl h
    where
      by : (b : Bool) → (s.world.desk.last == last_call) ≡ b →
          MatchBool b (Refuses s refusal.CallsSpent r t)
          (Becomes (started s start) (reply.Call (s.world.desk.last + 1)) r t) →
          (why : Refusal) → IsRefusedByCause s (event.Start start) r t why
      by true is h = refused eq s t (event.Start start) r refusal.CallsSpent
          (eqb-true s.world.desk.last last_call is) alone h
        where
          alone : (why : Refusal) → IsToRefuse s (event.Start start) why → why ≡ refusal.CallsSpent
          alone refusal.CallsSpent because = refl
          alone _ because = absurd because
      by false off h = carried_out eq s t (event.Start start) r (λ why is. not why (sym h.reply ∙ is)) none
        where
          not : (why : Refusal) →
              ◌≡◌ {A = Reply K V E} (reply.Call (s.world.desk.last + 1)) (reply.Refused why) → ⊥
          not why is = cc

          none : (why : Refusal) → IsToRefuse s (event.Start start) why → ⊥
          none refusal.CallsSpent spent = not_spent s.world.desk.last off spent
          none _ because = absurd because

  step_so : (n : ℕ) → Happens eq Any s (event.Step n) r t → (why : Refusal) →
      IsRefusedByCause s (event.Step n) r t why
  step_so n h = by (s.calls n) refl h
    where
      by : (o : Option (Call K V E)) → s.calls n ≡ o →
          MatchOption o (Refuses s refusal.UnknownCall r t) (λ _. Steps eq s n r t) →
          (why : Refusal) → IsRefusedByCause s (event.Step n) r t why
      by None is h = refused eq s t (event.Step n) r refusal.UnknownCall is alone h
        where
          alone : (why : Refusal) → IsToRefuse s (event.Step n) why → why ≡ refusal.UnknownCall
          alone refusal.UnknownCall because = refl
          alone _ because = absurd because
      by (Some c) live h = carried_out eq s t (event.Step n) r
          (λ why is. no_refusal h.turn why (sym h.reply ∙ is)) none
        where
          none : (why : Refusal) → IsToRefuse s (event.Step n) why → ⊥
          none refusal.UnknownCall is = none_some (sym is ∙ live)
          none _ because = absurd because

  poll_so : (n : ℕ) → Happens eq Any s (event.Poll n) r t → (why : Refusal) →
      IsRefusedByCause s (event.Poll n) r t why
  poll_so n h = by (s.calls n) refl h
    where
      by : (o : Option (Call K V E)) → s.calls n ≡ o →
          MatchOption o (Refuses s refusal.UnknownCall r t) (λ _. Polls eq Any s n r t) →
          (why : Refusal) → IsRefusedByCause s (event.Poll n) r t why
      by None is h = refused eq s t (event.Poll n) r refusal.UnknownCall is alone h
        where
          alone : (why : Refusal) → IsToRefuse s (event.Poll n) why → why ≡ refusal.UnknownCall
          alone refusal.UnknownCall because = refl
          alone _ because = absurd because
      by (Some c) live h = carried_out eq s t (event.Poll n) r
          (λ why is. no_refusal h.last.turn why (sym h.last.reply ∙ is)) none
        where
          none : (why : Refusal) → IsToRefuse s (event.Poll n) why → ⊥
          none refusal.UnknownCall is = none_some (sym is ∙ live)
          none _ because = absurd because

  tell_so : (n : ℕ) (answer : Told V E) → Happens eq Any s (event.Tell n answer) r t →
      (why : Refusal) → IsRefusedByCause s (event.Tell n answer) r t why
  tell_so n answer h = by (is_asked s.world.desk n answer) refl h
    where
      by : (b : Bool) → is_asked s.world.desk n answer ≡ b →
          MatchBool b (Becomes (with_desk s (told s.world.desk n answer)) reply.Told r t)
          (Refuses s refusal.NotAsked r t) →
          (why : Refusal) → IsRefusedByCause s (event.Tell n answer) r t why
      by false is h = refused eq s t (event.Tell n answer) r refusal.NotAsked is alone h
        where
          alone : (why : Refusal) → IsToRefuse s (event.Tell n answer) why → why ≡ refusal.NotAsked
          alone refusal.NotAsked because = refl
          alone _ because = absurd because
      by true asked h = carried_out eq s t (event.Tell n answer) r
          (λ why is. not why (sym h.reply ∙ is)) none
        where
          not : (why : Refusal) → ◌≡◌ {A = Reply K V E} reply.Told (reply.Refused why) → ⊥
          not why is = cc

          none : (why : Refusal) → IsToRefuse s (event.Tell n answer) why → ⊥
          none refusal.NotAsked off = false≢true (sym off ∙ asked)
          none _ because = absurd because

  drop_so : (n : ℕ) → Happens eq Any s (event.Drop n) r t → (why : Refusal) →
      IsRefusedByCause s (event.Drop n) r t why
  drop_so n h = by (s.calls n) refl h
    where
      -- a parked call was dropped
      gone : (c : Call K V E) → s.calls n ≡ Some c → (c.mode ≡ mode.Mid → ⊥) →
          Becomes (dropped s n c) reply.Dropped r t → (why : Refusal) →
          IsRefusedByCause s (event.Drop n) r t why
      gone c live parked h = carried_out eq s t (event.Drop n) r (λ why is. not why (sym h.reply ∙ is)) none
        where
          not : (why : Refusal) → ◌≡◌ {A = Reply K V E} reply.Dropped (reply.Refused why) → ⊥
          not why is = cc

          none : (why : Refusal) → IsToRefuse s (event.Drop n) why → ⊥
          none refusal.UnknownCall is = none_some (sym is ∙ live)
          none refusal.NotParked b =
              parked (subst (λ (v : Call K V E). v.mode ≡ mode.Mid) (some_same (sym b.1 ∙ live)) b.2)
          none _ because = absurd because

      live_so : (c : Call K V E) → s.calls n ≡ Some c → (m : Mode) → c.mode ≡ m →
          Drops s n c m r t → (why : Refusal) → IsRefusedByCause s (event.Drop n) r t why
      live_so c live mode.Mid is h =
          refused eq s t (event.Drop n) r refusal.NotParked (c, live, is) alone h
        where
          alone : (why : Refusal) → IsToRefuse s (event.Drop n) why → why ≡ refusal.NotParked
          alone refusal.NotParked because = refl
          alone refusal.UnknownCall gone = absurd (none_some (sym gone ∙ live))
          alone _ because = absurd because
      live_so c live mode.Fresh is h = gone c live (λ mid. cc) h
      live_so c live mode.Parked is h = gone c live (λ mid. cc) h

      by : (o : Option (Call K V E)) → s.calls n ≡ o →
          MatchOption o (Refuses s refusal.UnknownCall r t) (λ c. Drops s n c c.mode r t) →
          (why : Refusal) → IsRefusedByCause s (event.Drop n) r t why
      by None is h = refused eq s t (event.Drop n) r refusal.UnknownCall is alone h
        where
          alone : (why : Refusal) → IsToRefuse s (event.Drop n) why → why ≡ refusal.UnknownCall
          alone refusal.UnknownCall because = refl
          alone refusal.NotParked b = absurd (none_some (sym is ∙ b.1))
          alone _ because = absurd because
      by (Some c) live h = live_so c live c.mode refl h

module _ {K V E : Type 0} (eq : K → K → Bool) where
  pub by_cause : RefusedByCause K V E eq
  by_cause s t (event.At moment) r why h = at_so eq s t r moment h why
  by_cause s t (event.Start start) r why h = start_so eq s t r start h why
  by_cause s t (event.Step n) r why h = step_so eq s t r n h why
  by_cause s t (event.Poll n) r why h = poll_so eq s t r n h why
  by_cause s t (event.Tell n answer) r why h = tell_so eq s t r n answer h why
  by_cause s t (event.Drop n) r why h = drop_so eq s t r n h why
