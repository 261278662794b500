-- An answer that a call has still to take was told it by an event.
use Rattle.std.proofs.Common.{◌≡◌, ℕ, Bool, true, false, Option, Some, None, refl, subst}
use Rattle.std.proofs.lemmas.Bool.{false≢true}
use Rattle.moka_hist.specs.State.{State, fresh}
use Rattle.moka_hist.specs.Run.{Any, Happens, IsReached, with_desk}
use Rattle.std.specs.Option.{option_map_or}
use Rattle.moka_hist.specs.Telling.{does_take, is_taken, told_call}
use Rattle.moka_hist.specs.declared.events.Event.TheVariants as event
use Rattle.moka_hist.specs.declared.events.Told.{Told}
use Rattle.moka_hist.specs.declared.events.Told.TheVariants as told
use Rattle.moka_hist.specs.declared.replies.Reply.TheVariants as reply
use Rattle.moka_hist.specs.declared.visits.Takes.{Takes}
use Rattle.moka_laws.specs.Starting.{Leads}
use Rattle.moka_laws.proofs.Counting.{none_some, put_cases, some_same}
use Rattle.moka_laws.proofs.Following.{IsFollowed, follow, leads_more, no_leads}
use Rattle.moka_laws.proofs.Reached.{fresh_reached, run_reached}
use Rattle.moka_callers.specs.Telling.{ToldWasTold, WasTold}
use Rattle.moka_callers.proofs.Keeping.{step_told}

-- no ask of a call takes what a listener answers
no_done : (V E : Type 0) (o : Option Takes) →
    option_map_or (λ asked. does_take {V = V} {E = E} asked told.Done) o false ≡ true → false ≡ true
no_done V E None e = e
no_done V E (Some asked) e = e

no_off : (V E : Type 0) (o : Option Takes) →
    option_map_or (λ asked. does_take {V = V} {E = E} asked told.Off) o false ≡ true → false ≡ true
no_off V E None e = e
no_off V E (Some asked) e = e

module _ {K V E : Type 0} (eq : K → K → Bool) where
  -- the state is reached, and each answer that is there to be taken was told
  record AreTold (s : State K V E) : Type 0 where
    reached : IsReached eq s
    told : (n : ℕ) (given : Told V E) → s.world.desk.told n ≡ Some given → WasTold eq s n given

  later : (s t : State K V E) (n : ℕ) (given : Told V E) → Leads eq s t → WasTold eq s n given →
      WasTold eq t n given
  later s t n given led w = record {
    before = w.before;
    reached = w.reached;
    after = w.after;
    told = w.told;
    led = leads_more eq w.after s t w.led led;
  }

  reaches : (s t : State K V E) → Leads eq s t → IsReached eq s → IsReached eq t
  reaches s t led h = run_reached eq s t led.events led.replies h led.run

  -- what is told there was told before
  less : (s t : State K V E) → Leads eq s t → ((n : ℕ) (given : Told V E) →
      t.world.desk.told n ≡ Some given → s.world.desk.told n ≡ Some given) → AreTold s → AreTold t
  less s t led fewer i = record {
    reached = reaches s t led i.reached;
    told = λ n given is. later s t n given led (i.told n given (fewer n given is));
  }

  -- an ask of a call that takes the answer is open, so the event isn't refused
  tells : (s : State K V E) (n : ℕ) (given : Told V E) → is_taken s.world.desk n given ≡ true →
      Happens eq Any s (event.Tell n given) reply.Told (with_desk s (told_call s.world.desk n given))
  tells s n (told.Value value) asked = rw asked (record { reply = refl; after = refl })
  tells s n told.Nothing asked = rw asked (record { reply = refl; after = refl })
  tells s n (told.Err error) asked = rw asked (record { reply = refl; after = refl })
  tells s n (told.Op op) asked = rw asked (record { reply = refl; after = refl })
  tells s n told.Done asked =
      absurd (false≢true (no_done V E (s.world.desk.asks n) asked))
  tells s n told.Off asked =
      absurd (false≢true (no_off V E (s.world.desk.asks n) asked))

  told_now : (s : State K V E) (n : ℕ) (given : Told V E) → is_taken s.world.desk n given ≡ true →
      Leads eq s (with_desk s (told_call s.world.desk n given)) → AreTold s →
      AreTold (with_desk s (told_call s.world.desk n given))
  told_now s n given asked led i = record {
    reached = reaches s t led i.reached;
    told = λ m it is. put_cases s.world.desk.told n (Some given) m (Some it) (WasTold eq t m it) is
        (λ here same. now m it here (some_same same))
        (λ there same. later s t m it led (i.told m it same));
  }
    where
      t : State K V E
      t = with_desk s (told_call s.world.desk n given)

      now : (m : ℕ) (it : Told V E) → n ≡ m → given ≡ it → WasTold eq t m it
      now m it here same = subst (λ k. WasTold eq t k it) here (subst (WasTold eq t n) same (record {
        before = s;
        reached = i.reached;
        after = t;
        told = tells s n given asked;
        led = no_leads eq t;
      }))

  told_followed : IsFollowed eq AreTold
  told_followed = record {
    at = λ s moment on led i. less s _ led (λ n given is. is) i;
    start = λ s start fits led i. less s _ led (λ n given is. is) i;
    step = λ s t n turn led i step. less s t led (step_told eq s t n turn step) i;
    tell = told_now;
    hear = λ s n off running led i. less s _ led (λ m given is. is) i;
    drop = λ s n c live between led i. less s _ led (λ m given is.
        put_cases s.world.desk.told n None m (Some given) (s.world.desk.told m ≡ Some given) is
        (λ here same. absurd (none_some same)) (λ there same. same)) i;
  }

  pub was_told : ToldWasTold K V E eq
  was_told s n given h is =
      let begins : State K V E = fresh K V E h.division h.rules h.size h.handed in
      (follow eq AreTold told_followed begins s h.events h.replies (record {
        reached = fresh_reached eq h.division h.divides h.rules h.size h.handed h.has_log;
        told = λ m it none. absurd (none_some none);
      }) h.run).told n given is
