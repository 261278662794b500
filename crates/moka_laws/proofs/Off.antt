-- The listener is off only where it was told so.
use Rattle.std.proofs.Common.{◌≡◌, ℕ, Bool, true, false, ◌||◌, refl, sym, ◌∙◌}
use Rattle.std.proofs.lemmas.Bool.{false≢true}
use Rattle.moka_hist.specs.State.{State, fresh}
use Rattle.moka_hist.specs.Run.{Any, Happens, IsReached, with_desk}
use Rattle.moka_hist.specs.Telling.{heard}
use Rattle.moka_hist.specs.Visits.{is_running}
use Rattle.moka_hist.specs.declared.events.Event.TheVariants as event
use Rattle.moka_hist.specs.declared.events.Told.TheVariants as told
use Rattle.moka_hist.specs.declared.replies.Reply.TheVariants as reply
use Rattle.moka_laws.specs.Listening.{OffWasTold, WasTurnedOff}
use Rattle.moka_laws.specs.Starting.{Leads}
use Rattle.moka_laws.proofs.Following.{IsFollowed, follow, leads_more, no_leads}
use Rattle.moka_laws.proofs.Reached.{fresh_reached, run_reached}
use Rattle.moka_laws.proofs.Steady.{step_off}

module _ {K V E : Type 0} (eq : K → K → Bool) where
  -- the state is reached, and was turned off if it is off
  record IsTold (s : State K V E) : Type 0 where
    reached : IsReached eq s
    told : s.world.desk.off ≡ true → WasTurnedOff eq s

  -- what led on from there leads on to here
  later : (s t : State K V E) → Leads eq s t → WasTurnedOff eq s → WasTurnedOff eq t
  later s t l w = record {
    before = w.before;
    reached = w.reached;
    number = w.number;
    running = w.running;
    after = w.after;
    told = w.told;
    led = leads_more eq w.after s t w.led l;
  }

  -- an event that leaves the listener as it was
  same : (s t : State K V E) → t.world.desk.off ≡ s.world.desk.off → Leads eq s t → IsTold s →
      IsTold t
  same s t off l i = record {
    reached = run_reached eq s t l.events l.replies i.reached l.run;
    told = λ e. later s t l (i.told (sym off ∙ e));
  }

  hears : (s : State K V E) (n : ℕ) (off : Bool) → is_running s.world.desk n ≡ true →
      Leads eq s (with_desk s (heard s.world.desk n off)) → IsTold s →
      IsTold (with_desk s (heard s.world.desk n off))
  hears s n off running l i = record {
    reached = run_reached eq s (with_desk s (heard s.world.desk n off)) l.events l.replies
        i.reached l.run;
    told = by off l;
  }
    where
      told_so : Happens eq Any s (event.Tell n told.Off) reply.Told
          (with_desk s (heard s.world.desk n true))
      told_so = rw running (record { reply = refl; after = refl })

      was : (b : Bool) → b || false ≡ true → b ≡ true
      was true e = refl
      was false e = absurd (false≢true e)

      by : (off : Bool) → Leads eq s (with_desk s (heard s.world.desk n off)) →
          s.world.desk.off || off ≡ true → WasTurnedOff eq (with_desk s (heard s.world.desk n off))
      by true l e = record {
        before = s;
        reached = i.reached;
        number = n;
        running = running;
        after = with_desk s (heard s.world.desk n true);
        told = told_so;
        led = no_leads eq (with_desk s (heard s.world.desk n true));
      }
      by false l e = later s (with_desk s (heard s.world.desk n false)) l
          (i.told (was s.world.desk.off e))

  told_followed : IsFollowed eq IsTold
  told_followed = record {
    at = λ s moment on l i. same s _ refl l i;
    start = λ s start more l i. same s _ refl l i;
    step = λ s t n turn l i step. same s t (step_off eq s t n turn step) l i;
    tell = λ s n given asked l i. same s _ refl l i;
    hear = hears;
    drop = λ s n c live between l i. same s _ refl l i;
  }

  pub off_was_told : OffWasTold K V E eq
  off_was_told s h e =
      let begins : State K V E = fresh K V E h.division h.rules h.size h.handed in
      (follow eq IsTold told_followed begins s h.events h.replies (record {
        reached = fresh_reached eq h.division h.divides h.rules h.size h.handed h.has_log;
        told = λ off. absurd (false≢true off);
      }) h.run).told e
