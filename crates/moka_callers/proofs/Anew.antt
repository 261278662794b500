-- A call whose owner has ended without an answer for it takes part anew.
use Rattle.std.proofs.Common.{◌≡◌, ◌≢◌, ◌⊎◌, inl, inr, ℕ, ◌+◌, ◌==◌, Bool, true, false, [], ◌∷◌, Some, None, refl, sym, ap, ◌∙◌, subst}
use Rattle.std.proofs.lemmas.Bool.{eqb-true}
use Rattle.moka_hist.specs.State.{State, World, Call}
use Rattle.moka_hist.specs.Plan.{Item}
use Rattle.moka_hist.specs.Plan as plan
use Rattle.moka_hist.specs.Next.{Next}
use Rattle.moka_hist.specs.Computing.{after_read_key}
use Rattle.moka_hist.specs.Loading.{after_abort, after_read, retries}
use Rattle.moka_hist.specs.Step.{Step}
use Rattle.moka_hist.specs.declared.accesses.Turn.{Turn}
use Rattle.moka_hist.specs.declared.accesses.Turn.TheVariants as turn
use Rattle.moka_hist.specs.declared.loads.Compute.{Compute}
use Rattle.moka_hist.specs.declared.loads.Load.{Load}
use Rattle.moka_hist.specs.declared.loads.Sought.{Sought}
use Rattle.moka_hist.specs.declared.visits.Found.TheVariants as found
use Rattle.moka_hist.specs.declared.visits.Settled.{Settled}
use Rattle.moka_hist.specs.declared.visits.Settled.TheVariants as settled
use Rattle.moka_laws.proofs.Counting.{none_some, put_here, some_same}
use Rattle.moka_laws.proofs.Outcomes.{computes_of, outcomes, was_read}
use Rattle.moka_laws.proofs.StepCases.{OnStep, step_cases}
use Rattle.moka_callers.specs.Loading.{AbortedGoesOn, ComputesBeginAnew, GoesOnAnew, OwnsOrJoins}

module _ {K V E : Type 0} (eq : K → K → Bool) where
  -- what the step has to show of the desk
  abbrev Takes : ℕ → Load K → World K V E → World K V E → Type 0
  Takes n load w new =
      ((w.desk.owners load ≡ None) × (new.desk.owning n ≡ Some load)) ⊎
      ((owner : ℕ) × (w.desk.owners load ≡ Some owner) × (new.desk.joined n ≡ Some owner))

  -- the step of a call whose plan begins so owns the load, or joins the owner
  owns_next : (u v : State K V E) (n : ℕ) (c : Call K V E) (sought : Sought K) (r : Turn K V E) →
      u.calls n ≡ Some c → c.plan ≡ plan.Own sought ∷ [] → Step eq u n r v →
      OwnsOrJoins n sought.load u v
  owns_next u v n c sought r live is step =
      step_cases eq (λ new next. Takes n sought.load u.world new)
      (λ x q. Takes n sought.load u.world x.world) u v n r step
      (subst (λ p. OnStep eq (λ new next. Takes n sought.load u.world new) u.world n step.call p)
      (sym (ap (λ (x : Call K V E). x.plan) (some_same (sym step.live ∙ live)) ∙ is))
      (outcomes eq (λ new next. Takes n sought.load u.world new) u.world n step.call
      (plan.Own sought) [] (
        λ able none. inl (none, put_here u.world.desk.owning n (Some sought.load)),
        λ disabled none. inl (none, put_here u.world.desk.owning n (Some sought.load)),
        λ owner some. inr (owner, some, put_here u.world.desk.joined n (Some owner)),
      ))) (λ w next so. so)

  computes_next : (u v : State K V E) (n : ℕ) (c : Call K V E) (compute : Compute K)
      (r : Turn K V E) → u.calls n ≡ Some c → c.plan ≡ plan.Own_key compute ∷ [] →
      Step eq u n r v → OwnsOrJoins n (computes_of compute.key) u v
  computes_next u v n c compute r live is step =
      step_cases eq (λ new next. Takes n (computes_of compute.key) u.world new)
      (λ x q. Takes n (computes_of compute.key) u.world x.world) u v n r step
      (subst (λ p. OnStep eq (λ new next. Takes n (computes_of compute.key) u.world new) u.world n
      step.call p)
      (sym (ap (λ (x : Call K V E). x.plan) (some_same (sym step.live ∙ live)) ∙ is))
      (outcomes eq (λ new next. Takes n (computes_of compute.key) u.world new) u.world n step.call
      (plan.Own_key compute) [] (
        (
          λ able none. inl
              (none, put_here u.world.desk.owning n (Some (computes_of compute.key))),
          λ disabled none. inl
              (none, put_here u.world.desk.owning n (Some (computes_of compute.key))),
        ),
        λ owner some. inr (owner, some, put_here u.world.desk.joined n (Some owner)),
      ))) (λ w next so. so)

  -- the call is left going, with this plan and so many aborts
  pub record LeftAnew (first : Item K V E) (aborts : ℕ) (next : Next K V E) : Type 0 where
    pub going : next.turn ≡ turn.Going
    pub call : Call K V E
    pub left : next.left ≡ Some call
    pub begins : call.plan ≡ first ∷ []
    pub counts : call.aborts ≡ aborts

  aborts_so : (c : Call K V E) (sought : Sought K) → c.aborts + 1 ≢ retries →
      LeftAnew (plan.Own sought) (c.aborts + 1) (after_abort c sought)
  aborts_so c sought few = by (c.aborts + 1 == retries) refl
    where
      by : (b : Bool) → (c.aborts + 1 == retries) ≡ b →
          LeftAnew (plan.Own sought) (c.aborts + 1) (after_abort c sought)
      by true e = absurd (few (eqb-true (c.aborts + 1) retries e))
      by false e = rw e (record {
        going = refl;
        call = _;
        left = refl;
        begins = refl;
        counts = refl;
      })

  reads_so : (c : Call K V E) (compute : Compute K) (with : Settled V E) →
      with ≢ settled.NotYet → LeftAnew (plan.Own_key compute) c.aborts
      (after_read_key c compute (found.ReadSettled with))
  reads_so c compute settled.NotYet not = absurd (not refl)
  reads_so c compute _ not =
      record { going = refl; call = _; left = refl; begins = refl; counts = refl }

  pub aborted : AbortedGoesOn K V E eq
  aborted s t n c r live reads few step =
      step_cases eq Left Goes s t n r step
      (subst (λ p. OnStep eq Left s.world n step.call p)
      (sym (ap (λ (x : Call K V E). x.plan) same ∙ reads.reading))
      (outcomes eq Left s.world n step.call (plan.Read reads.sought) [] (
        λ none. absurd (none_some (sym none ∙ reads.ended)),
        λ with some. subst (λ x. Left (record s.world { desk = was_read eq s.world.desk n })
            (after_read step.call reads.sought (found.ReadSettled x)))
            (some_same (sym reads.ended ∙ some))
            (subst (λ k. LeftAnew (plan.Own reads.sought) (k + 1)
            (after_abort step.call reads.sought)) (ap (λ (x : Call K V E). x.aborts) same)
            (aborts_so step.call reads.sought (λ e. few
            (ap (λ (x : Call K V E). x.aborts + 1) (sym same) ∙ e)))),
      ))) (λ w next so. record {
        going = so.going;
        call = so.call;
        live = put_here s.calls n next.left ∙ so.left;
        aborts = so.counts;
        anew = λ u v next lives more. owns_next u v n so.call reads.sought next lives so.begins more;
      })
    where
      same : step.call ≡ c
      same = some_same (sym step.live ∙ live)

      Left : World K V E → Next K V E → Type 0
      Left new next = LeftAnew (plan.Own reads.sought) (c.aborts + 1) next

      Goes : State K V E → Turn K V E → Type 0
      Goes v q = GoesOnAnew eq n reads.sought.load (c.aborts + 1) q v

  pub begin_anew : ComputesBeginAnew K V E eq
  begin_anew s t n c compute with r live reading ended not step =
      step_cases eq Left Goes s t n r step
      (subst (λ p. OnStep eq Left s.world n step.call p)
      (sym (ap (λ (x : Call K V E). x.plan) same ∙ reading))
      (outcomes eq Left s.world n step.call (plan.Read_key compute) [] (
        λ none. absurd (none_some (sym none ∙ ended)),
        λ other some. subst (λ x. Left (record s.world { desk = was_read eq s.world.desk n })
            (after_read_key step.call compute (found.ReadSettled x)))
            (some_same (sym ended ∙ some))
            (subst (λ k. LeftAnew (plan.Own_key compute) k
            (after_read_key step.call compute (found.ReadSettled with)))
            (ap (λ (x : Call K V E). x.aborts) same) (reads_so step.call compute with not)),
      ))) (λ w next so. record {
        going = so.going;
        call = so.call;
        live = put_here s.calls n next.left ∙ so.left;
        aborts = so.counts;
        anew = λ u v next lives more. computes_next u v n so.call compute next lives so.begins more;
      })
    where
      same : step.call ≡ c
      same = some_same (sym step.live ∙ live)

      Left : World K V E → Next K V E → Type 0
      Left new next = LeftAnew (plan.Own_key compute) c.aborts next

      Goes : State K V E → Turn K V E → Type 0
      Goes v q = GoesOnAnew eq n (computes_of compute.key) c.aborts q v
