-- A compute that was told nop or an error settles and answers, and does nothing else.
use Rattle.std.proofs.Common.{◌≡◌, ℕ, ◌+◌, ◌≤◌, ◌==◌, Bool, true, false, [], ◌∷◌, Option, Some, None, refl, sym, ap, ◌∙◌, subst, arith}
use Rattle.std.proofs.lemmas.Bool.{eqb-true, false≢true}
use Rattle.moka_hist.specs.Computing.{after_told_op, end_compute}
use Rattle.moka_hist.specs.Entries.{unchanged}
use Rattle.moka_hist.specs.Next.{Next, goes}
use Rattle.moka_hist.specs.Plan.{Item}
use Rattle.moka_hist.specs.Plan as plan
use Rattle.moka_hist.specs.Run.{IsReached}
use Rattle.moka_hist.specs.State.{Call, State, World}
use Rattle.moka_hist.specs.Step.{Step}
use Rattle.moka_hist.specs.Visits.{took_told}
use Rattle.moka_hist.specs.declared.accesses.Turn.{Turn}
use Rattle.moka_hist.specs.declared.accesses.Turn.TheVariants as turn
use Rattle.moka_hist.specs.declared.events.Op.TheVariants as op
use Rattle.moka_hist.specs.declared.events.Told.{Told}
use Rattle.moka_hist.specs.declared.events.Told.TheVariants as told
use Rattle.moka_hist.specs.declared.loads.Compute.{Compute}
use Rattle.moka_hist.specs.declared.replies.Answer.{Answer}
use Rattle.moka_hist.specs.declared.replies.Answer.TheVariants as answer
use Rattle.moka_hist.specs.declared.visits.Found.TheVariants as found
use Rattle.moka_hist.specs.declared.visits.Settled.TheVariants as settled
use Rattle.moka_laws.specs.Computes.{NopsChangeNothing, TakesOp, leaves_map}
use Rattle.moka_laws.specs.Starting.{Leads}
use Rattle.moka_laws.proofs.Computing.{same_answer}
use Rattle.moka_laws.proofs.Counting.{differ, none_some, put_cases, put_here, put_there, some_same}
use Rattle.moka_laws.proofs.Kept.{IsStable, runs}
use Rattle.moka_laws.proofs.Outcomes.{Outcomes, outcomes}
use Rattle.moka_laws.proofs.Owning.{plan_left}
use Rattle.moka_laws.proofs.Served.{in_served}
use Rattle.moka_laws.proofs.Steady.{step_calls, step_last}
use Rattle.moka_laws.proofs.StepCases.{OnStep, step_cases}

module _ {K V E : Type 0} (eq : K → K → Bool) (n : ℕ) (a : Answer K V E) where
  -- the call has nothing to do but to settle, and to answer this
  record IsEnding (s : State K V E) : Type 0 where
    born : n ≤ s.world.desk.last
    ends : (c : Call K V E) → s.calls n ≡ Some c → c.plan ≡ end_compute a

  -- so it does, by its next step
  record Ends (s t : State K V E) (r : Turn K V E) : Type 0 where
    gone : t.calls n ≡ None
    same : t.world.table ≡ s.world.table
    says : r ≡ turn.Answer a

  abbrev Finishes : State K V E → World K V E → Next K V E → Type 0
  Finishes s new next =
      (next.left ≡ None) × (new.table ≡ s.world.table) × (next.turn ≡ turn.Answer a)

  end_step : (s t : State K V E) (r : Turn K V E) → IsEnding s → Step eq s n r t → Ends s t r
  end_step s t r i step =
      step_cases eq (Finishes s) (λ v q. Ends s v q) s t n r step
      (subst (λ p. OnStep eq (Finishes s) s.world n step.call p) (sym (i.ends step.call step.live))
      (outcomes eq (Finishes s) s.world n step.call (plan.Settle settled.Nothing)
      (plan.Reply a ∷ [])
      (refl, refl, refl)))
      (λ new next m. record {
        gone = put_here s.calls n next.left ∙ m.0;
        same = m.1;
        says = m.2;
      })

  ending_step : (s t : State K V E) (m : ℕ) (r : Turn K V E) → IsEnding s → Step eq s m r t →
      IsEnding t
  ending_step s t m r i step = record {
    born = omega (arith, i.born, step_last eq s t m r step);
    ends = λ c live. by c live (m == n) refl;
  }
    where
      by : (c : Call K V E) → t.calls n ≡ Some c → (b : Bool) → (m == n) ≡ b →
          c.plan ≡ end_compute a
      by c live true e = absurd (none_some (sym (end_step s t r i
          (subst (λ v. Step eq s v r t) (eqb-true m n e) step)).gone ∙ live))
      by c live false e = i.ends c (sym (step_calls eq s t m n r e step) ∙ live)

  ending_stable : IsStable eq IsEnding
  ending_stable = record {
    at = λ s moment i. record { born = i.born; ends = i.ends };
    start = λ s start i. record {
      born = omega (arith, i.born);
      ends = λ c live. i.ends c (sym (put_there s.calls (s.world.desk.last + 1) _ n
          (differ (s.world.desk.last + 1) n (λ e. omega (arith, i.born, e)))) ∙ live);
    };
    step = ending_step;
    tell = λ s m given asked i. record { born = i.born; ends = i.ends };
    hear = λ s m off running i. record { born = i.born; ends = i.ends };
    drop = λ s m c live between i. record {
      born = i.born;
      ends = λ d lives. put_cases s.calls m None n (Some d) (d.plan ≡ end_compute a) lives
          (λ here is. absurd (none_some is)) (λ there is. i.ends d is);
    };
  }

  ends_after : (t u v : State K V E) (r : Turn K V E) → IsEnding t → Leads eq t u →
      Step eq u n r v → Ends u v r
  ends_after t u v r i led step =
      end_step u v r (runs eq IsEnding ending_stable t u led.events led.replies i led.run) step

module _ {K V E : Type 0} (eq : K → K → Bool) where
  -- where a nop or an error leads to
  record EndsWith (compute : Compute K) (pair : Option (K × V)) (given : Told V E)
      (c : Call K V E) : Type 0 where
    says : Answer K V E
    nop : given ≡ told.Op op.Nop → says ≡ unchanged compute.key pair
    next : after_told_op c compute pair (found.TakeTold (Some given)) ≡ goes c (end_compute says)

  ends_with : (compute : Compute K) (pair : Option (K × V)) (given : Told V E) (c : Call K V E) →
      leaves_map given ≡ true → EndsWith compute pair given c
  ends_with compute pair (told.Op op.Nop) c e =
      record { says = unchanged compute.key pair; nop = λ f. refl; next = refl }
  ends_with compute pair (told.Err error) c e =
      record { says = answer.ComputeErr error; nop = λ f. cc; next = refl }
  ends_with compute pair _ c e = absurd (false≢true e)

  module _ (s t : State K V E) (n : ℕ) (c : Call K V E) (compute : Compute K)
      (pair : Option (K × V)) (given : Told V E) (r : Turn K V E) (h : IsReached eq s)
      (live : s.calls n ≡ Some c) (step : Step eq s n r t)
      (takes : TakesOp n compute pair given s c r t) (leaves : leaves_map given ≡ true) where
    is : step.call ≡ c
    is = some_same (sym step.live ∙ live)

    with : EndsWith compute pair given step.call
    with = ends_with compute pair given step.call leaves

    abbrev After : World K V E → Next K V E → Type 0
    After new next = (new.table ≡ s.world.table) × ((d : Call K V E) → next.left ≡ Some d →
        d.plan ≡ end_compute with.says)

    -- the step that takes it changes no map, and leaves the call to settle and answer
    taken : (t.world.table ≡ s.world.table) × ((d : Call K V E) → t.calls n ≡ Some d →
        d.plan ≡ end_compute with.says)
    taken =
        step_cases eq After
        (λ v q. (v.world.table ≡ s.world.table) × ((d : Call K V E) → v.calls n ≡ Some d →
        d.plan ≡ end_compute with.says)) s t n r step
        (subst (λ p. OnStep eq After s.world n step.call p)
        (sym (ap (λ (v : Call K V E). v.plan) is ∙ takes.telling))
        (outcomes eq After s.world n step.call (plan.Told_op compute pair) [] on_told))
        (λ new next m. (m.0, λ d lives. m.1 d (sym (put_here s.calls n next.left) ∙ lives)))
      where
        on_told : Outcomes eq After s.world n step.call (plan.Told_op compute pair) []
        on_told = (
          λ none. absurd (none_some (sym none ∙ takes.told)),
          λ other some. subst
              (λ v. After (record s.world { desk = took_told s.world.desk n })
              (after_told_op step.call compute pair (found.TakeTold (Some v))))
              (some_same (sym takes.told ∙ some))
              (subst (λ v. After (record s.world { desk = took_told s.world.desk n }) v)
              (sym with.next)
              (refl, λ d left. ap plan_left (sym left))),
        )

    ending : IsEnding eq n with.says t
    ending = record {
      born = omega (
        arith,
        (in_served eq s h).balanced.numbered n c live,
        step_last eq s t n r step,
      );
      ends = taken.1;
    }

    pub unchanged_after : (u v : State K V E) (last : Turn K V E) → Leads eq t u →
        Step eq u n last v →
        (t.world.table ≡ s.world.table) × (v.world.table ≡ u.world.table)
    unchanged_after u v last led more =
        (taken.0, (ends_after eq n with.says t u v last ending led more).same)

    pub says_asked : (u v : State K V E) (a : Answer K V E) → given ≡ told.Op op.Nop →
        Leads eq t u → Step eq u n (turn.Answer a) v → a ≡ unchanged compute.key pair
    says_asked u v a nop led more =
        same_answer a with.says (ends_after eq n with.says t u v _ ending led more).says ∙
        with.nop nop

  pub nops_same : NopsChangeNothing K V E eq
  nops_same s t u v n c compute pair given r last h live step takes leaves led more =
      unchanged_after s t n c compute pair given r h live step takes leaves u v last led more
