-- What holds of one call from a state on, where other events keep it and its own steps carry it on.
use Rattle.std.proofs.Common.{◌≡◌, ℕ, ◌+◌, ◌≤◌, ◌==◌, Bool, true, false, Option, Some, None, refl, sym, ap, ◌∙◌, subst, arith}
use Rattle.std.proofs.lemmas.Bool.{eqb-true}
use Rattle.moka_hist.specs.Finite.{put_at}
use Rattle.moka_hist.specs.State.{State, Call}
use Rattle.moka_hist.specs.Step.{Step}
use Rattle.moka_hist.specs.Run.{started}
use Rattle.moka_hist.specs.declared.accesses.Turn.{Turn}
use Rattle.moka_laws.specs.Starting.{Leads}
use Rattle.moka_laws.proofs.Alongside.{HoldsIf}
use Rattle.moka_laws.proofs.Counting.{differ, put_here, put_there}
use Rattle.moka_laws.proofs.Following.{IsFollowed, leads_more}
use Rattle.moka_laws.proofs.Steady.{step_calls, step_last, step_rules}

module _ {K V E : Type 0} (eq : K → K → Bool) (b : State K V E) (n : ℕ)
    (P : State K V E → Call K V E → Type 0)
    (on : (s v : State K V E) (c : Call K V E) → Leads eq s v →
    v.world.desk.rules ≡ s.world.desk.rules → P s c → P v c)
    (own : (s t : State K V E) (turn : Turn K V E) → Leads eq b s →
    HoldsIf P s (s.calls n) → Step eq s n turn t → HoldsIf P t (t.calls n)) where
  -- some events lead here, the number was given out, and it holds of its call
  pub record IsSo (s : State K V E) : Type 0 where
    pub led : Leads eq b s
    pub born : n ≤ s.world.desk.last
    pub so : HoldsIf P s (s.calls n)

  still : (s v : State K V E) (o : Option (Call K V E)) → Leads eq s v →
      v.world.desk.rules ≡ s.world.desk.rules → HoldsIf P s o → HoldsIf P v o
  still s v None led rules h = tt
  still s v (Some c) led rules h = on s v c led rules h

  so_step : (s t : State K V E) (m : ℕ) (turn : Turn K V E) → Leads eq s t → IsSo s →
      Step eq s m turn t → IsSo t
  so_step s t m turn led i step = record {
    led = leads_more eq b s t i.led led;
    born = omega (arith, i.born, step_last eq s t m turn step);
    so = by (m == n) refl;
  }
    where
      by : (same : Bool) → (m == n) ≡ same → HoldsIf P t (t.calls n)
      by true e = own s t turn i.led i.so (subst (λ v. Step eq s v turn t) (eqb-true m n e) step)
      by false e = subst (HoldsIf P t) (sym (step_calls eq s t m n turn e step))
          (still s t (s.calls n) led (step_rules eq s t m turn step) i.so)

  -- an event that leaves the calls and the rules leaves it so
  so_on : (s v : State K V E) → Leads eq s v → v.world.desk.rules ≡ s.world.desk.rules →
      v.world.desk.last ≡ s.world.desk.last → v.calls ≡ s.calls → IsSo s → IsSo v
  so_on s v led rules last calls i = record {
    led = leads_more eq b s v i.led led;
    born = omega (arith, i.born, last);
    so = subst (HoldsIf P v) (sym (ap (λ f. f n) calls))
        (still s v (s.calls n) led rules i.so);
  }

  pub so_followed : IsFollowed eq IsSo
  so_followed = record {
    at = λ s moment fits led i. so_on s _ led refl refl refl i;
    start = λ s other fits led i. record {
      led = leads_more eq b s (started s other) i.led led;
      born = omega (arith, i.born);
      so = subst (HoldsIf P (started s other)) (sym (put_there s.calls (s.world.desk.last + 1) _ n
          (differ (s.world.desk.last + 1) n (λ e. omega (arith, i.born, e)))))
          (still s (started s other) (s.calls n) led refl i.so);
    };
    step = so_step;
    tell = λ s m given asked led i. so_on s _ led refl refl refl i;
    hear = λ s m off running led i. so_on s _ led refl refl refl i;
    drop = λ s m c live between led i. record {
      led = leads_more eq b s _ i.led led;
      born = i.born;
      so = dropped_so s _ m led i refl refl (m == n) refl;
    };
  }
    where
      dropped_so : (s t : State K V E) (m : ℕ) → Leads eq s t → IsSo s →
          t.world.desk.rules ≡ s.world.desk.rules → t.calls n ≡ put_at s.calls m None n →
          (same : Bool) → (m == n) ≡ same → HoldsIf P t (t.calls n)
      dropped_so s t m led i rules calls true e = subst (HoldsIf P t)
          (sym (calls ∙ ap (λ v. put_at s.calls m None v) (sym (eqb-true m n e)) ∙
          put_here s.calls m None)) tt
      dropped_so s t m led i rules calls false e = subst (HoldsIf P t)
          (sym (calls ∙ put_there s.calls m None n e)) (still s t (s.calls n) led rules i.so)
