-- Every live call was started.
use Rattle.std.proofs.Common.{◌≡◌, ℕ, ◌+◌, ◌==◌, Bool, true, false, Some, None, refl, sym, ap, ◌∙◌, subst}
use Rattle.std.proofs.lemmas.Bool.{eqb-true}
use Rattle.moka_hist.specs.State.{State, Call, fresh}
use Rattle.moka_hist.specs.Step.{Step}
use Rattle.moka_hist.specs.Run.{Any, Becomes, Happens, IsReached, fresh_call, last_call, started}
use Rattle.moka_hist.specs.declared.accesses.Turn.{Turn}
use Rattle.moka_hist.specs.declared.events.Event.TheVariants as event
use Rattle.moka_hist.specs.declared.events.Start.{Start}
use Rattle.moka_hist.specs.declared.replies.Reply.TheVariants as reply
use Rattle.moka_laws.specs.Reaching.{LiveWasStarted}
use Rattle.moka_laws.specs.Starting.{Leads, WasStarted}
use Rattle.moka_laws.proofs.Counting.{none_some, put_cases}
use Rattle.moka_laws.proofs.Following.{IsFollowed, follow, leads_more, no_leads}
use Rattle.moka_laws.proofs.Reached.{fresh_reached, run_reached}
use Rattle.moka_laws.proofs.Steady.{step_calls}

module _ {K V E : Type 0} (eq : K → K → Bool) where
  -- the state is reached, and each live call of it was started
  record AreBegun (s : State K V E) : Type 0 where
    reached : IsReached eq s
    begun : (n : ℕ) (c : Call K V E) → s.calls n ≡ Some c → (start : Start K V) ×
        WasStarted eq start n s

  on_reached : (s t : State K V E) → IsReached eq s → Leads eq s t → IsReached eq t
  on_reached s t h led = run_reached eq s t led.events led.replies h led.run

  -- a call that was started before was
  begun_on : (s t : State K V E) (n : ℕ) → Leads eq s t → (start : Start K V) ×
      WasStarted eq start n s →
      (start : Start K V) × WasStarted eq start n t
  begun_on s t n led h = (
    h.0,
    record {
      before = h.1.before;
      reached = h.1.reached;
      begun = h.1.begun;
      begins = h.1.begins;
      led = leads_more eq h.1.begun s t h.1.led led;
    },
  )

  begins_now : (s : State K V E) (start : Start K V) → IsReached eq s →
      (s.world.desk.last == last_call) ≡ false →
      WasStarted eq start (s.world.desk.last + 1) (started s start)
  begins_now s start h fits =
      let new : Becomes (started s start) (reply.Call (s.world.desk.last + 1))
      (reply.Call (s.world.desk.last + 1)) (started s start) =
      record { reply = refl; after = refl } in
      let begins : Happens eq Any s (event.Start start) (reply.Call (s.world.desk.last + 1))
      (started s start) = rw fits new in
      record {
        before = s;
        reached = h;
        begun = started s start;
        begins = begins;
        led = no_leads eq
            (started s start);
      }

  begun_followed : IsFollowed eq AreBegun
  begun_followed = record {
    at = λ s moment on led i. record {
      reached = on_reached s _ i.reached led;
      begun = λ n c live. begun_on s _ n led (i.begun n c live);
    };
    start = λ s start fits led i. record {
      reached = on_reached s _ i.reached led;
      begun = λ n c live.
          put_cases s.calls (s.world.desk.last + 1) (Some (fresh_call s.world.table.division.parts s.world.desk.rules start)) n
          (Some c)
          ((other : Start K V) × WasStarted eq other n (started s start)) live
          (λ here is. (
            start,
            subst (λ v. WasStarted eq start v (started s start)) here
                (begins_now s start i.reached fits),
          ))
          (λ there is. begun_on s (started s start) n led (i.begun n c is));
    };
    step = λ s t n turn led i step. record {
      reached = on_reached s t i.reached led;
      begun = λ m c live. begun_on s t m led (was s t n turn i step m c live (n == m) refl);
    };
    tell = λ s n given asked led i. record {
      reached = on_reached s _ i.reached led;
      begun = λ m c live. begun_on s _ m led (i.begun m c live);
    };
    hear = λ s n off running led i. record {
      reached = on_reached s _ i.reached led;
      begun = λ m c live. begun_on s _ m led (i.begun m c live);
    };
    drop = λ s n c live between led i. record {
      reached = on_reached s _ i.reached led;
      begun = λ m d lives. begun_on s _ m led
          (put_cases s.calls n None m (Some d) ((other : Start K V) × WasStarted eq other m s) lives
          (λ here is. absurd (none_some is)) (λ there is. i.begun m d is));
    };
  }
    where
      was : (s t : State K V E) (n : ℕ) (turn : Turn K V E) → AreBegun s → Step eq s n turn t → (m : ℕ)
          (c : Call K V E) → t.calls m ≡ Some c →
          (b : Bool) → (n == m) ≡ b → (other : Start K V) × WasStarted eq other m s
      was s t n turn i step m c live true e = i.begun m step.call
          (ap s.calls (sym (eqb-true n m e)) ∙ step.live)
      was s t n turn i step m c live false e = i.begun m c
          (sym (step_calls eq s t n m turn e step) ∙ live)

  pub live_started : LiveWasStarted K V E eq
  live_started s n c h live =
      let first : AreBegun (fresh K V E h.division h.rules h.size h.handed) = record {
        reached = fresh_reached eq h.division h.divides h.rules h.size h.handed h.has_log;
        begun = λ m d lives. absurd (none_some lives);
      } in
      (follow eq AreBegun begun_followed
      (fresh K V E h.division h.rules h.size h.handed) s h.events h.replies first h.run).begun n c live
