-- What holds of one call from its start on, where other events keep it and its own steps carry it on.
use Rattle.std.proofs.Common.{◌≡◌, ℕ, ◌+◌, ◌≤◌, ◌==◌, Bool, true, false, Option, Some, None, refl, sym, ap, ◌∙◌, subst, arith}
use Rattle.std.proofs.lemmas.Bool.{eqb-true}
use Rattle.moka_hist.specs.Finite.{put_at}
use Rattle.moka_hist.specs.State.{State, Call}
use Rattle.moka_hist.specs.Step.{Step}
use Rattle.moka_hist.specs.Run.{IsReached, fresh_call, started}
use Rattle.moka_hist.specs.declared.accesses.Turn.{Turn}
use Rattle.moka_hist.specs.declared.events.Event.TheVariants as event
use Rattle.moka_hist.specs.declared.events.Start.{Start}
use Rattle.moka_hist.specs.declared.replies.Reply.TheVariants as reply
use Rattle.moka_laws.specs.Starting.{Leads, WasStarted}
use Rattle.moka_laws.proofs.Counting.{differ, put_here, put_there}
use Rattle.moka_laws.proofs.Following.{IsFollowed}
use Rattle.moka_laws.proofs.Reached.{event_reached, run_reached}
use Rattle.moka_laws.proofs.Starting.{begins_so, follow_start}
use Rattle.moka_laws.proofs.Steady.{step_calls, step_last, step_rules}

module _ {K V E : Type 0} where
  -- it holds of the call, if that lives
  abbrev pub HoldsIf : (State K V E → Call K V E → Type 0) → State K V E → Option (Call K V E) →
      Type 0
  HoldsIf P s None = Unit {0}
  HoldsIf P s (Some c) = P s c

module _ {K V E : Type 0} (eq : K → K → Bool) (begin : Start K V) (n : ℕ)
    (P : State K V E → Call K V E → Type 0)
    (on : (s v : State K V E) (c : Call K V E) → Leads eq s v →
    v.world.desk.rules ≡ s.world.desk.rules → P s c → P v c)
    (own : (s t : State K V E) (turn : Turn K V E) → IsReached eq s →
    HoldsIf P s (s.calls n) → Step eq s n turn t → HoldsIf P t (t.calls n)) where
  -- the state is reached, the call was started, and it holds of the call
  record IsSo (s : State K V E) : Type 0 where
    reached : IsReached eq s
    born : n ≤ s.world.desk.last
    so : HoldsIf P s (s.calls n)

  reaches : (s t : State K V E) → Leads eq s t → IsReached eq s → IsReached eq t
  reaches s t led h = run_reached eq s t led.events led.replies h led.run

  still : (s v : State K V E) (o : Option (Call K V E)) → Leads eq s v →
      v.world.desk.rules ≡ s.world.desk.rules → HoldsIf P s o → HoldsIf P v o
  still s v None led rules h = tt
  still s v (Some c) led rules h = on s v c led rules h

  so_step : (s t : State K V E) (m : ℕ) (turn : Turn K V E) → Leads eq s t → IsSo s →
      Step eq s m turn t → IsSo t
  so_step s t m turn led i step = record {
    reached = reaches s t led i.reached;
    born = omega (arith, i.born, step_last eq s t m turn step);
    so = by (m == n) refl;
  }
    where
      by : (b : Bool) → (m == n) ≡ b → HoldsIf P t (t.calls n)
      by true e = own s t turn i.reached i.so
          (subst (λ v. Step eq s v turn t) (eqb-true m n e) step)
      by false e = subst (HoldsIf P t) (sym (step_calls eq s t m n turn e step))
          (still s t (s.calls n) led (step_rules eq s t m turn step) i.so)

  so_followed : IsFollowed eq IsSo
  so_followed = record {
    at = λ s moment on led i. record {
      reached = reaches s _ led i.reached;
      born = i.born;
      so = still s _ (s.calls n) led refl i.so;
    };
    start = λ s other fits led i. record {
      reached = reaches s _ led i.reached;
      born = omega (arith, i.born);
      so = subst (HoldsIf P (started s other)) (sym (put_there s.calls (s.world.desk.last + 1) _ n
          (differ (s.world.desk.last + 1) n (λ e. omega (arith, i.born, e)))))
          (still s (started s other) (s.calls n) led refl i.so);
    };
    step = so_step;
    tell = λ s m given asked led i. record {
      reached = reaches s _ led i.reached;
      born = i.born;
      so = still s _ (s.calls n) led refl i.so;
    };
    hear = λ s m off running led i. record {
      reached = reaches s _ led i.reached;
      born = i.born;
      so = still s _ (s.calls n) led refl i.so;
    };
    drop = λ s m c live between led i. record {
      reached = reaches s _ led i.reached;
      born = i.born;
      so = dropped_so s _ m led i refl refl (m == n) refl;
    };
  }
    where
      dropped_so : (s t : State K V E) (m : ℕ) → Leads eq s t → IsSo s →
          t.world.desk.rules ≡ s.world.desk.rules → t.calls n ≡ put_at s.calls m None n →
          (b : Bool) → (m == n) ≡ b → HoldsIf P t (t.calls n)
      dropped_so s t m led i rules calls true e = subst (HoldsIf P t)
          (sym (calls ∙ ap (λ v. put_at s.calls m None v) (sym (eqb-true m n e)) ∙
          put_here s.calls m None)) tt
      dropped_so s t m led i rules calls false e = subst (HoldsIf P t)
          (sym (calls ∙ put_there s.calls m None n e)) (still s t (s.calls n) led rules i.so)

  -- so it holds of the call in each state after its start
  pub holds_since : (s : State K V E) → WasStarted eq begin n s →
      ((v : State K V E) → P (started v begin) (fresh_call v.world.table.division.parts v.world.desk.rules begin)) →
      IsReached eq s × HoldsIf P s (s.calls n)
  holds_since s w first =
      let i : IsSo s = follow_start eq begin n s w IsSo so_followed (record {
        reached = subst (IsReached eq) is.1 (event_reached eq w.before w.begun (event.Start begin)
            (reply.Call n) w.reached w.begins);
        born = omega (arith, is.0);
        so = subst (HoldsIf P (started w.before begin))
            (sym (ap (λ v. (started w.before begin).calls v) is.0 ∙ put_here w.before.calls
            (w.before.world.desk.last + 1) _)) (first w.before);
      }) in
      (i.reached, i.so)
    where
      is : (n ≡ w.before.world.desk.last + 1) × (w.begun ≡ started w.before begin)
      is = begins_so eq begin n s w
