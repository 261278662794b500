-- What holds of a call from its start on that was started to compute a key.
use Rattle.std.proofs.Common.{◌≡◌, ◌⊎◌, inl, inr, ℕ, ◌+◌, ◌≤◌, ◌==◌, Bool, true, false, List, [], ◌∷◌, Option, Some, None, is_some, refl, sym, ap, ◌∙◌, subst, arith}
use Rattle.std.proofs.lemmas.Bool.{eqb-true}
use Rattle.moka_hist.specs.Finite.{put_at}
use Rattle.moka_hist.specs.State.{State, Call}
use Rattle.moka_hist.specs.Entries.{unchanged}
use Rattle.moka_hist.specs.Plan.{Item, plan_of}
use Rattle.moka_hist.specs.Plan as plan
use Rattle.moka_hist.specs.Step.{Step}
use Rattle.moka_hist.specs.Run.{IsReached, started}
use Rattle.moka_hist.specs.declared.accesses.Turn.{Turn}
use Rattle.moka_hist.specs.declared.events.Event.TheVariants as event
use Rattle.moka_hist.specs.declared.events.Op.TheVariants as op
use Rattle.moka_hist.specs.declared.events.Told.TheVariants as told
use Rattle.moka_hist.specs.declared.events.Start.{Start}
use Rattle.moka_hist.specs.declared.events.Start.TheVariants as start
use Rattle.moka_hist.specs.declared.replies.Reply.TheVariants as reply
use Rattle.moka_hist.specs.declared.rules.Rules.{Rules}
use Rattle.moka_laws.specs.Computes.{ActingComputesOwn, Acts, AloneWaitsForNobody, AsksCarryFound, ComputesAnswerTold, NopsAnswerAsked, OwnsComputes}
use Rattle.moka_laws.specs.Starts.{computed_key}
use Rattle.moka_laws.specs.Starting.{Leads, WasStarted}
use Rattle.moka_laws.proofs.Computing.{Result, Stage, StageIf, stage_if_on, stage_step}
use Rattle.moka_laws.proofs.Counting.{differ, none_some, put_here, put_there, some_same}
use Rattle.moka_laws.proofs.Following.{IsFollowed}
use Rattle.moka_laws.proofs.Reached.{event_reached, run_reached}
use Rattle.moka_laws.proofs.Roles.{Fits, awaited}
use Rattle.moka_laws.proofs.Nops.{says_asked}
use Rattle.moka_laws.proofs.Owning.{plan_left}
use Rattle.moka_laws.proofs.Served.{IsServed, enough, enough_own, in_served}
use Rattle.moka_laws.proofs.Serving.{ServesPart, no_owner, part}
use Rattle.moka_laws.proofs.ServingSteps.{on_plan}
use Rattle.moka_laws.proofs.Starting.{begins_so, follow_start}
use Rattle.moka_laws.proofs.Steady.{step_calls, step_last, step_rules}
use Rattle.moka_laws.proofs.StepCases.{step_cases}

module _ {K V E : Type 0} (eq : K → K → Bool) where
  -- a step leaves what other calls own
  pub others_own : (s t : State K V E) (m n : ℕ) (turn : Turn K V E) → IsServed eq s →
      (m == n) ≡ false → Step eq s m turn t → t.world.desk.owning n ≡ s.world.desk.owning n
  others_own s t m n turn i other step =
      let c : Call K V E = step.call in
      let l : m ≤ s.world.desk.last = i.balanced.numbered m c step.live in
      let fits : Fits (s.world.desk.owning m) (s.world.desk.joined m) c.plan = subst
      (λ v. Fits (s.world.desk.owning m) (s.world.desk.joined m) (plan_left v)) step.live
      (i.fits m) in
      step_cases eq (λ new next. ServesPart eq s.world.desk m (part new.desk) next.left)
      (λ v _. v.world.desk.owning n ≡ s.world.desk.owning n) s t m turn step
      (on_plan eq s.world m c i.owner (enough eq s i m l) (enough_own eq s i m l)
      i.answering.desk c.plan refl fits
      (λ o load j a. i.waits m o load j (ap (λ v. awaited (plan_left v)) step.live ∙ a)))
      (λ w next b. b.owning n other)

module _ {K V : Type 0} (E : Type 0) (eq : K → K → Bool) where
  -- a call that is started to compute is at its first stage
  starts_so : (parts : ℕ) (rules : Rules) (begin : Start K V) (key : K) (n : ℕ) (s : State K V E) →
      computed_key begin ≡ Some key → Stage eq begin key n s (plan_of parts rules begin)
  starts_so parts rules (start.Compute k) key n s e = (some_same e, λ f. cc)
  starts_so parts rules (start.TryCompute k) key n s e = (some_same e, λ f. cc)
  starts_so parts rules (start.Upsert k) key n s e = (some_same e, λ f. cc)
  starts_so parts rules (start.ComputeAlone k) key n s e =
      (some_same e, ap (λ v. start.ComputeAlone v) (some_same e))
  starts_so parts rules _ key n s e = absurd (none_some e)

module _ {K V E : Type 0} (eq : K → K → Bool) (begin : Start K V) (key : K) (n : ℕ) where
  -- the state is reached, and the call was started and is so far
  record IsComputing (s : State K V E) : Type 0 where
    reached : IsReached eq s
    born : n ≤ s.world.desk.last
    stage : StageIf eq begin key n s (s.calls n)

  on_reached : (s t : State K V E) → Leads eq s t → IsReached eq s → IsReached eq t
  on_reached s t led h = run_reached eq s t led.events led.replies h led.run

  computing_step : (s t : State K V E) (m : ℕ) (turn : Turn K V E) → Leads eq s t →
      IsComputing s → Step eq s m turn t → IsComputing t
  computing_step s t m turn led i step = record {
    reached = on_reached s t led i.reached;
    born = omega (arith, i.born, step_last eq s t m turn step);
    stage = by (m == n) refl;
  }
    where
      by : (b : Bool) → (m == n) ≡ b → StageIf eq begin key n t (t.calls n)
      by true e = (stage_step eq begin key n s t turn i.reached i.stage
          (subst (λ v. Step eq s v turn t) (eqb-true m n e) step)).stage
      by false e = subst (StageIf eq begin key n t) (sym (step_calls eq s t m n turn e step))
          (stage_if_on eq begin key n s t (record {
            led = led;
            rules = step_rules eq s t m turn step;
            owning = others_own eq s t m n turn (in_served eq s i.reached) e step;
          }) (s.calls n) i.stage)

  -- nothing of the call has changed
  still : (s t : State K V E) → Leads eq s t → t.world.desk.rules ≡ s.world.desk.rules →
      t.world.desk.owning n ≡ s.world.desk.owning n → IsComputing s →
      StageIf eq begin key n t (s.calls n)
  still s t led rules owning i = stage_if_on eq begin key n s t
      (record { led = led; rules = rules; owning = owning }) (s.calls n) i.stage

  computing_followed : IsFollowed eq IsComputing
  computing_followed = record {
    at = λ s moment on led i. record {
      reached = on_reached s _ led i.reached;
      born = i.born;
      stage = still s _ led refl refl i;
    };
    start = λ s other fits led i. record {
      reached = on_reached s _ led i.reached;
      born = omega (arith, i.born);
      stage = subst (StageIf eq begin key n (started s other))
          (sym (put_there s.calls (s.world.desk.last + 1) _ n
          (differ (s.world.desk.last + 1) n (λ e. omega (arith, i.born, e)))))
          (still s (started s other) led refl refl i);
    };
    step = computing_step;
    tell = λ s m given asked led i. record {
      reached = on_reached s _ led i.reached;
      born = i.born;
      stage = still s _ led refl refl i;
    };
    hear = λ s m off running led i. record {
      reached = on_reached s _ led i.reached;
      born = i.born;
      stage = still s _ led refl refl i;
    };
    drop = λ s m c live between led i. record {
      reached = on_reached s _ led i.reached;
      born = i.born;
      stage = dropped_so s _ m led i refl refl refl (m == n) refl;
    };
  }
    where
      dropped_so : (s t : State K V E) (m : ℕ) → Leads eq s t → IsComputing s →
          t.world.desk.rules ≡ s.world.desk.rules →
          t.world.desk.owning n ≡ put_at s.world.desk.owning m None n →
          t.calls n ≡ put_at s.calls m None n → (b : Bool) → (m == n) ≡ b →
          StageIf eq begin key n t (t.calls n)
      dropped_so s t m led i rules owning calls true e = subst (StageIf eq begin key n t)
          (sym (calls ∙ ap (λ v. put_at s.calls m None v) (sym (eqb-true m n e)) ∙
          put_here s.calls m None)) tt
      dropped_so s t m led i rules owning calls false e = subst (StageIf eq begin key n t)
          (sym (calls ∙ put_there s.calls m None n e))
          (still s t led rules (owning ∙ put_there s.world.desk.owning m None n e) i)

  in_computing : (s : State K V E) → WasStarted eq begin n s → computed_key begin ≡ Some key →
      IsComputing s
  in_computing s w of = follow_start eq begin n s w IsComputing computing_followed (record {
    reached = subst (IsReached eq) is.1 (event_reached eq w.before w.begun (event.Start begin)
        (reply.Call n) w.reached w.begins);
    born = omega (arith, is.0);
    stage = subst (StageIf eq begin key n (started w.before begin))
        (sym (ap (λ v. (started w.before begin).calls v) is.0 ∙ put_here w.before.calls
        (w.before.world.desk.last + 1) _))
        (starts_so E eq w.before.world.table.division.parts w.before.world.desk.rules begin key n (started w.before begin) of, refl);
  })
    where
      is : (n ≡ w.before.world.desk.last + 1) × (w.begun ≡ started w.before begin)
      is = begins_so eq begin n s w

  result : (s t : State K V E) (r : Turn K V E) → WasStarted eq begin n s →
      computed_key begin ≡ Some key → Step eq s n r t → Result eq begin key n s t r
  result s t r w of step =
      let i : IsComputing s = in_computing s w of in
      stage_step eq begin key n s t r i.reached i.stage step

  -- one that computes alone awaits nobody
  alone_awaits : (s : State K V E) (p : List (Item K V E)) → begin ≡ start.ComputeAlone key →
      Stage eq begin key n s p → awaited p ≡ None
  alone_awaits s (plan.Drain ∷ rest) alone h = alone_awaits s rest alone h
  alone_awaits s (plan.Ended number ∷ rest) alone h = alone_awaits s rest alone h
  alone_awaits s (plan.Post write ∷ rest) alone h = alone_awaits s rest alone h
  alone_awaits s (plan.Turn ∷ rest) alone h = alone_awaits s rest alone h
  alone_awaits s (plan.Apply ∷ rest) alone h = alone_awaits s rest alone h
  alone_awaits s (plan.End ∷ rest) alone h = alone_awaits s rest alone h
  alone_awaits s (plan.Lock at ∷ rest) alone h = alone_awaits s rest alone h
  alone_awaits s (plan.Unlock wrote ∷ rest) alone h = alone_awaits s rest alone h
  alone_awaits s (plan.Notice at old cause upsert ∷ rest) alone h = alone_awaits s rest alone h
  alone_awaits s (plan.Heard ∷ rest) alone h = alone_awaits s rest alone h
  alone_awaits s (plan.Own_key compute ∷ []) alone h = refl
  alone_awaits s (plan.Read_key compute ∷ []) alone h = absurd (h.1 alone)
  alone_awaits s (plan.Own_alone own ∷ []) alone h = refl
  alone_awaits s (plan.Get (plan.To_compute compute) at ∷ []) alone h = refl
  alone_awaits s (plan.Judge (plan.To_compute compute) there stored ∷ []) alone h = refl
  alone_awaits s (plan.Ask_op compute pair ∷ []) alone h = refl
  alone_awaits s (plan.Told_op compute pair ∷ []) alone h = refl
  alone_awaits s (plan.Moment (plan.To_store at value) ∷ plan.Settle with ∷ plan.Reply a ∷ []) alone
      h = refl
  alone_awaits s (plan.Write at value moment ∷ plan.Settle with ∷ plan.Reply a ∷ []) alone h = refl
  alone_awaits s (plan.Moment (plan.To_take_out (plan.To_remove_as_told own) at) ∷ []) alone h =
      refl
  alone_awaits s (plan.Out (plan.To_remove_as_told own) at ∷ []) alone h = refl
  alone_awaits s (plan.Idle ∷ plan.Settle with ∷ plan.Reply a ∷ []) alone h = refl
  alone_awaits s (plan.Settle with ∷ plan.Reply a ∷ []) alone h = refl
  alone_awaits s (plan.Get (plan.To_show (plan.As_report own)) at ∷ []) alone h = refl
  alone_awaits s (plan.Judge (plan.To_show (plan.As_report own)) there stored ∷ []) alone h = refl
  alone_awaits s (plan.Reply a ∷ []) alone h = refl
  alone_awaits s [] alone h = refl
  alone_awaits s (_ ∷ rest) alone h = absurd h

  alone_if : (s : State K V E) (o : Option (Call K V E)) → begin ≡ start.ComputeAlone key →
      StageIf eq begin key n s o → awaited (plan_left o) ≡ None
  alone_if s None alone h = refl
  alone_if s (Some c) alone h = alone_awaits s c.plan alone h.0

module _ {K V E : Type 0} (eq : K → K → Bool) where
  pub acting_own : ActingComputesOwn K V E eq
  acting_own s t begin key n r w of step acts = by acts
    where
      made : Result eq begin key n s t r
      made = result eq begin key n s t r w of step

      by : Acts s r t → OwnsComputes s n key
      by (inl asks) = (made.asks asks.0 asks.1).0
      by (inr changed) = calm made.calm
        where
          calm : (t.world.table ≡ s.world.table) ⊎ OwnsComputes s n key → OwnsComputes s n key
          calm (inl same) = absurd (changed same)
          calm (inr owns) = owns

  pub alone_waits : AloneWaitsForNobody K V E eq
  alone_waits s key n w =
      let i : IsComputing eq (start.ComputeAlone key) key n s =
      in_computing eq (start.ComputeAlone key) key n s w refl in
      no_owner (s.world.desk.joined n) (((in_served eq s i.reached).fits n).waiting ∙
      ap is_some (alone_if eq (start.ComputeAlone key) key n s (s.calls n) refl i.stage))

  pub asks_found : AsksCarryFound K V E eq
  asks_found s t begin key n pair w of step =
      ((result eq begin key n s t _ w of step).asks pair refl).1

  pub answers_told : ComputesAnswerTold K V E eq
  answers_told s t begin key n a w of step = (result eq begin key n s t _ w of step).says a refl

  pub nops_asked : NopsAnswerAsked K V E eq
  nops_asked s t u v begin key n c compute pair reply a w of live step takes led more =
      let i : IsComputing eq begin key n s = in_computing eq begin key n s w of in
      let here : StageIf eq begin key n s (Some c) =
      subst (StageIf eq begin key n s) live i.stage in
      let st : Stage eq begin key n s (plan.Told_op compute pair ∷ []) =
      subst (Stage eq begin key n s) takes.telling here.0 in (
        st.2,
        says_asked eq s t n c compute pair (told.Op op.Nop) reply i.reached live step takes refl
            u v a refl led more ∙ ap (λ k. unchanged k pair) st.0,
      )
