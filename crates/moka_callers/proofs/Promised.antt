-- A call that has committed answers of a change.
use Rattle.std.proofs.Common.{◌≡◌, ℕ, zero, suc, ◌+◌, ◌<◌, ◌==◌, Bool, true, false, cond, List, [], ◌∷◌, ◌++◌, map, Option, Some, None, Contains, refl, sym, ◌∙◌, subst, arith}
use Rattle.std.proofs.lemmas.Bool.{eqb-true, false≢true}
use Rattle.moka_hist.specs.Dropping.{dropped}
use Rattle.moka_hist.specs.Finite.{times}
use Rattle.moka_hist.specs.State.{State, World, Call, fresh}
use Rattle.moka_hist.specs.Plan.{Item, Aim, Removal, Shown, get_plan, insert_plan, is_disabled, iter_plan, lists_from, load_plan, look, or_insert_plan, pending_plan, plan_of, seek, under_lock}
use Rattle.moka_hist.specs.Plan as plan
use Rattle.moka_hist.specs.Next.{Next, goes}
use Rattle.moka_hist.specs.Looking.{finds_pair, hits, keeps, misses}
use Rattle.moka_hist.specs.Loading.{after_read, after_told}
use Rattle.moka_hist.specs.Computing.{after_told_op}
use Rattle.moka_hist.specs.Entries.{put_answer}
use Rattle.moka_hist.specs.Maintenance.{carrying}
use Rattle.moka_hist.specs.Run.{IsReached, fresh_call, started}
use Rattle.moka_hist.specs.Step.{Step}
use Rattle.moka_hist.specs.Writing.{nothing_answer, removed_answer, said}
use Rattle.moka_hist.specs.declared.accesses.Turn.{Turn}
use Rattle.moka_hist.specs.declared.accesses.Turn.TheVariants as turn
use Rattle.moka_hist.specs.declared.events.Start.{Start}
use Rattle.moka_hist.specs.declared.events.Start.TheVariants as start
use Rattle.moka_hist.specs.declared.events.Told.{Told}
use Rattle.moka_hist.specs.declared.events.Told.TheVariants as told
use Rattle.moka_hist.specs.declared.loads.Compute.{Compute}
use Rattle.moka_hist.specs.declared.loads.Kind.TheVariants as kind
use Rattle.moka_hist.specs.declared.loads.Load.{Load}
use Rattle.moka_hist.specs.declared.loads.Sought.{Sought}
use Rattle.moka_hist.specs.declared.records.Stored.{Stored}
use Rattle.moka_hist.specs.declared.replies.Answer.{Answer}
use Rattle.moka_hist.specs.declared.replies.Answer.TheVariants as answer
use Rattle.moka_hist.specs.declared.rules.Rules.{Rules}
use Rattle.moka_hist.specs.declared.visits.Found.TheVariants as found
use Rattle.moka_hist.specs.declared.visits.Settled.{Settled}
use Rattle.moka_hist.specs.declared.visits.Settled.TheVariants as settled
use Rattle.moka_laws.specs.Starting.{Leads, WasStarted}
use Rattle.moka_laws.proofs.AnswersFit.{answers_fit}
use Rattle.moka_laws.proofs.Balanced.{in_balance}
use Rattle.moka_laws.proofs.Counting.{put_here}
use Rattle.moka_laws.proofs.Following.{IsFollowed, follow}
use Rattle.moka_laws.proofs.Looking.{gets_show}
use Rattle.moka_laws.proofs.OnePlace.{contains_times}
use Rattle.moka_laws.proofs.Outcomes.{Outcomes, outcomes}
use Rattle.moka_laws.proofs.Reached.{fresh_reached, run_reached}
use Rattle.moka_laws.proofs.Rules.{abort_next, chosen_by, kept_next, loaded_plans, put_plans, read_key_next, told_op_next_by}
use Rattle.moka_laws.proofs.Steady.{step_calls, step_commits}
use Rattle.moka_laws.proofs.StepCases.{OnStep, step_cases}
use Rattle.moka_laws.specs.Starts.{may_answer}
use Rattle.moka_callers.specs.Contents.{GetsCommitNothing, QuietCommitNothing, tells_change}
use Rattle.moka_callers.proofs.Answering.{was_reached}
use Rattle.moka_callers.proofs.Parts.{CommitsBy}
use Rattle.moka_callers.proofs.Parts.{step_commits as changed}

put_tells : {K V : Type 0} (E : Type 0) (key : K) (pair : Option (K × V)) (value : V) →
    tells_change {K = K} {V = V} {E = E} (put_answer key pair value) ≡ true
put_tells E key None value = refl
put_tells E key (Some pair) value = refl

module _ {K V E : Type 0} where
  -- nothing is left but to post and to tell what was changed, and to answer of that
  abbrev Commits : List (Item K V E) → Type 0
  Commits [] = Unit {0}
  Commits (plan.Drain ∷ rest) = Commits rest
  Commits (plan.Ended number ∷ rest) = Commits rest
  Commits (plan.Post write ∷ rest) = Commits rest
  Commits (plan.Turn ∷ rest) = Commits rest
  Commits (plan.Apply ∷ rest) = Commits rest
  Commits (plan.End ∷ rest) = Commits rest
  Commits (plan.Unlock wrote ∷ rest) = Commits rest
  Commits (plan.Notice key old cause upsert ∷ rest) = Commits rest
  Commits (plan.Heard ∷ rest) = Commits rest
  Commits (plan.Settle with ∷ rest) = Commits rest
  Commits (plan.Reply a ∷ rest) = (tells_change a ≡ true) × Commits rest
  Commits _ = ⊥

  -- what is left of a write answers of it
  abbrev Promises : List (Item K V E) → Type 0
  Promises [] = Unit {0}
  Promises (plan.Moment (plan.To_store key value) ∷ rest) = Commits rest
  Promises (plan.Write key value moment ∷ rest) = Commits rest
  Promises (item ∷ rest) = Promises rest

  late_promises : (p : List (Item K V E)) → Commits p → Promises p
  late_promises [] h = tt
  late_promises (plan.Drain ∷ rest) h = late_promises rest h
  late_promises (plan.Ended number ∷ rest) h = late_promises rest h
  late_promises (plan.Post write ∷ rest) h = late_promises rest h
  late_promises (plan.Turn ∷ rest) h = late_promises rest h
  late_promises (plan.Apply ∷ rest) h = late_promises rest h
  late_promises (plan.End ∷ rest) h = late_promises rest h
  late_promises (plan.Unlock wrote ∷ rest) h = late_promises rest h
  late_promises (plan.Notice key old cause upsert ∷ rest) h = late_promises rest h
  late_promises (plan.Heard ∷ rest) h = late_promises rest h
  late_promises (plan.Settle with ∷ rest) h = late_promises rest h
  late_promises (plan.Reply a ∷ rest) h = late_promises rest h.1
  late_promises (item ∷ rest) h = absurd h

  said_promises : (removal : Removal K) (a : Answer K V E) → Promises (said removal a)
  said_promises plan.To_invalidate a = tt
  said_promises plan.To_remove a = tt
  said_promises (plan.To_evict_chosen stamp cause) a = tt
  said_promises (plan.To_remove_as_told key) a = tt

-- what is left once something was taken out
taken_commits : {K V : Type 0} (E : Type 0) (removal : Removal K) (value : V) →
    Commits {K = K} {V = V} {E = E} (said removal (removed_answer removal value))
taken_commits E plan.To_invalidate value = (refl, tt)
taken_commits E plan.To_remove value = (refl, tt)
taken_commits E (plan.To_evict_chosen stamp cause) value = (refl, tt)
taken_commits E (plan.To_remove_as_told key) value = (refl, tt)

module _ {K V E : Type 0} where
  finds_promise : (keys : List K) (rest : List (Item K V E)) → Promises rest →
      Promises (map plan.Find keys ++ rest)
  finds_promise [] rest h = h
  finds_promise (key ∷ keys) rest h = finds_promise keys rest h

  lists_promise : (part left : ℕ) (rest : List (Item K V E)) → Promises rest →
      Promises (lists_from part left rest)
  lists_promise part zero rest h = h
  lists_promise part (suc left) rest h = lists_promise (part + 1) left rest h

  module _ (n : ℕ) where
    -- where a call is left, and what it answers, where so many numbers are committed
    abbrev LeftSo : List ℕ → Option (Call K V E) → Type 0
    LeftSo numbers None = Unit {0}
    LeftSo numbers (Some d) = Promises d.plan × (0 < times n numbers → Commits d.plan)

    abbrev SaysSo : List ℕ → Turn K V E → Type 0
    SaysSo numbers (turn.Answer a) = 0 < times n numbers → tells_change a ≡ true
    SaysSo numbers _ = Unit {0}

    abbrev NextSo : List ℕ → Next K V E → Type 0
    NextSo numbers next = LeftSo numbers next.left × SaysSo numbers next.turn

    goes_so : (numbers : List ℕ) (c : Call K V E) (rest : List (Item K V E)) → Promises rest →
        (0 < times n numbers → Commits rest) → NextSo numbers (goes c rest)
    goes_so numbers c (plan.Reply a ∷ []) q h = (tt, λ is. (h is).0)
    goes_so numbers c rest q h = ((q, h), tt)

    module _ (numbers : List ℕ) (c : Call K V E) (none : 0 < times n numbers → ⊥) where
      -- a call that has committed nothing
      free_so : (d : Call K V E) (rest : List (Item K V E)) → Promises rest →
          NextSo numbers (goes d rest)
      free_so d rest q = goes_so numbers d rest q (λ h. absurd (none h))

      keeps_so : NextSo numbers (keeps c)
      keeps_so = kept_next (NextSo numbers) c (λ off. (tt, λ h. absurd (none h)))
          (λ on. ((tt, λ h. absurd (none h)), tt))

      misses_so : (aim : Aim K V) → NextSo numbers (misses c aim)
      misses_so (plan.To_show form) = (tt, λ h. absurd (none h))
      misses_so (plan.To_load sought) = free_so c (plan.Own sought ∷ []) tt
      misses_so (plan.To_own sought) = free_so c (plan.Ask sought.load ∷ []) tt
      misses_so (plan.To_insert key value) =
          put_plans (λ p. NextSo numbers (goes c p)) c.rules key value
          (plan.Reply (answer.Loaded value true) ∷ [])
          (((refl, tt), λ h. absurd (none h)), tt) (((refl, tt), λ h. absurd (none h)), tt)
      misses_so (plan.To_compute compute) = free_so c (plan.Ask_op compute None ∷ []) tt
      misses_so (plan.To_evict key stamp cause) = keeps_so

      finds_so : (aim : Aim K V) (there : K) (stored : Stored V) →
          NextSo numbers (finds_pair c aim there stored)
      finds_so (plan.To_evict key stamp cause) there stored =
          chosen_by (NextSo numbers) c key stamp cause there stored (λ other. keeps_so)
          (λ same. free_so c (plan.Holds key stamp cause there stored ∷ []) tt)
      finds_so aim there stored = ((tt, λ h. absurd (none h)), tt)

      hits_so : (aim : Aim K V) (there : K) (value : V) → Promises c.plan →
          NextSo numbers (hits c aim there value)
      hits_so (plan.To_show form) there value q = (tt, λ h. absurd (none h))
      hits_so (plan.To_load sought) there value q = (tt, λ h. absurd (none h))
      hits_so (plan.To_own sought) there value q = ((tt, λ h. absurd (none h)), tt)
      hits_so (plan.To_insert key unused) there value q = (tt, λ h. absurd (none h))
      hits_so (plan.To_compute compute) there value q = ((tt, λ h. absurd (none h)), tt)
      hits_so (plan.To_evict key stamp cause) there value q = ((q, λ h. absurd (none h)), tt)

      read_so : (sought : Sought K) (with : Settled V E) → Promises c.plan →
          NextSo numbers (after_read c sought (found.ReadSettled with))
      read_so sought settled.NotYet q = ((q, λ h. absurd (none h)), tt)
      read_so sought (settled.Ready value) q = (tt, λ h. absurd (none h))
      read_so sought (settled.Err error) q = (tt, λ h. absurd (none h))
      read_so sought settled.Nothing q = (tt, λ h. absurd (none h))
      read_so sought settled.Aborted q = abort_next (NextSo numbers) c sought
          (tt, λ h. absurd (none h)) ((tt, λ h. absurd (none h)), tt)

      told_so : (load : Load K) (given : Told V E) → Promises c.plan →
          NextSo numbers (after_told c load (found.TakeTold (Some given)))
      told_so load (told.Value value) q =
          loaded_plans (λ p. NextSo numbers (goes c p)) c.rules load value
          ((tt, λ h. absurd (none h)), tt) (((refl, tt), λ h. absurd (none h)), tt)
          (((refl, tt), λ h. absurd (none h)), tt)
      told_so load told.Nothing q = ((tt, λ h. absurd (none h)), tt)
      told_so load (told.Err error) q = ((tt, λ h. absurd (none h)), tt)
      told_so load _ q = ((q, λ h. absurd (none h)), tt)

      told_op_so : (compute : Compute K) (pair : Option (K × V)) (given : Told V E) →
          Promises c.plan → NextSo numbers (after_told_op c compute pair (found.TakeTold (Some given)))
      told_op_so compute pair given q =
          told_op_next_by (NextSo numbers) c compute pair given
          ((tt, λ h. absurd (none h)), tt)
          (λ error same. ((tt, λ h. absurd (none h)), tt))
          (λ value disabled. ((tt, λ h. absurd (none h)), tt))
          (λ value yes off.
          (((put_tells E compute.key pair value, tt), λ h. absurd (none h)), tt))
          (λ value yes on.
          (((put_tells E compute.key pair value, tt), λ h. absurd (none h)), tt))
          (λ off. ((tt, λ h. absurd (none h)), tt))
          (λ on. ((tt, λ h. absurd (none h)), tt))
          (λ lost. ((q, λ h. absurd (none h)), tt))

    module _ (eq : K → K → Bool) (w : World K V E) (c : Call K V E) (q : Promises c.plan)
        (held : 0 < times n w.table.committed → Commits c.plan) where
      abbrev numbers : List ℕ
      numbers = w.table.committed

      abbrev After : World K V E → Next K V E → Type 0
      After new next = NextSo new.table.committed next

      stays : LeftSo numbers (Some c) × Unit {0}
      stays = ((q, held), tt)

      -- an item of a call that has committed nothing
      abbrev None_yet : Type 0
      None_yet = 0 < times n numbers → ⊥

      on_free : (item : Item K V E) (rest : List (Item K V E)) → Promises (item ∷ rest) →
          (0 < times n numbers → Commits (item ∷ rest)) → Outcomes eq After w n c item rest
      on_free plan.Drain rest p h = (
        λ none. goes_so numbers c rest p h,
        λ x xs some. ((p, h), tt),
        λ x number xs some. ((p, h), tt),
      )
      on_free (plan.Ended number) rest p h =
          (λ off. goes_so numbers c rest p h, λ on. stays)
      on_free (plan.Post write) rest p h =
          (λ room. goes_so numbers c rest p h, λ full. ((p, h), tt))
      on_free plan.Turn rest p h = (λ free. goes_so numbers c rest p h, λ taken. stays)
      on_free plan.Apply rest p h =
          (λ none. goes_so numbers c rest p h, λ y ys some. ((p, h), tt))
      on_free plan.End rest p h = goes_so numbers c rest p h
      on_free (plan.Unlock wrote) rest p h = goes_so numbers c rest p h
      on_free (plan.Notice key old cause upsert) rest p h =
          (λ off. goes_so numbers c rest p h, λ on. ((p, h), tt))
      on_free plan.Heard rest p h = (λ off. goes_so numbers c rest p h, λ on. stays)
      on_free (plan.Settle with) rest p h = goes_so numbers c rest p h
      on_free (plan.Reply a) rest p h = (tt, λ is. (h is).0)
      on_free (plan.Lock key) rest p h =
          (λ free. goes_so numbers c rest p (λ is. absurd (h is)), λ held. stays)
      on_free plan.Idle rest p h = goes_so numbers c rest p (λ is. absurd (h is))
      on_free plan.Invalidate_all rest p h = goes_so numbers c rest p (λ is. absurd (h is))
      on_free (plan.Get aim key) rest p h = (
        λ more. stays,
        λ none. misses_so numbers c h aim,
        λ there stored some. finds_so numbers c h aim there stored,
      )
      on_free (plan.Judge aim key stored) rest p h = (
        λ seen. hits_so numbers c h aim key stored.value q,
        λ unseen. misses_so numbers c h aim,
      )
      on_free (plan.Own sought) rest p h = (
        λ yes none. ((tt, λ is. absurd (h is)), tt),
        λ disabled none. ((tt, λ is. absurd (h is)), tt),
        λ owner some. ((tt, λ is. absurd (h is)), tt),
      )
      on_free (plan.Own_key compute) rest p h = (
        (
          λ yes none. ((tt, λ is. absurd (h is)), tt),
          λ disabled none. ((tt, λ is. absurd (h is)), tt),
        ),
        λ owner some. ((tt, λ is. absurd (h is)), tt),
      )
      on_free (plan.Own_alone key) rest p h = (
        (
          λ yes none. ((tt, λ is. absurd (h is)), tt),
          λ disabled none. ((tt, λ is. absurd (h is)), tt),
        ),
        λ owner some. (
          λ yes. ((tt, λ is. absurd (h is)), tt),
          λ disabled. ((tt, λ is. absurd (h is)), tt),
        ),
      )
      on_free (plan.Read sought) rest p h =
          (λ none. stays, λ with some. read_so numbers c h sought with q)
      on_free (plan.Read_key compute) rest p h = (
        λ none. stays,
        λ with some. read_key_next (NextSo numbers) c compute with ((q, λ is. absurd (h is)), tt)
            ((tt, λ is. absurd (h is)), tt),
      )
      on_free (plan.Ask load) rest p h = ((tt, λ is. absurd (h is)), tt)
      on_free (plan.Ask_op compute pair) rest p h = ((tt, λ is. absurd (h is)), tt)
      on_free (plan.Told load) rest p h =
          (λ none. stays, λ given some. told_so numbers c h load given q)
      on_free (plan.Told_op compute pair) rest p h =
          (λ none. stays, λ given some. told_op_so numbers c h compute pair given q)
      on_free (plan.Holds key stamp cause there stored) rest p h =
          (λ holds. ((tt, λ is. absurd (h is)), tt), λ other. keeps_so numbers c h)
      on_free (plan.Moment (plan.To_store key value)) rest p h = ((p, λ is. absurd (h is)), tt)
      on_free (plan.Moment (plan.To_take_out removal key)) rest p h =
          ((p, λ is. absurd (h is)), tt)
      on_free (plan.Write key value moment) rest p h = (
        λ more. stays,
        λ off old. ((late_promises rest p, λ is. p), tt),
        λ on. ((late_promises rest p, λ is. p), tt),
        λ k old on some. ((late_promises rest p, λ is. p), tt),
      )
      on_free (plan.Out removal key) rest p h = (
        λ more. stays,
        λ off none. ((said_promises removal (nothing_answer removal), λ is. absurd (h is)), tt),
        λ on none. ((said_promises removal (nothing_answer removal), λ is. absurd (h is)), tt),
        λ k old off some. (
          (
            said_promises removal (removed_answer removal old.value),
            λ is. taken_commits E removal old.value,
          ),
          tt,
        ),
        λ k old on some. (
          (
            said_promises removal (removed_answer removal old.value),
            λ is. taken_commits E removal old.value,
          ),
          tt,
        ),
      )
      on_free (plan.Register test) rest p h = (tt, λ is. absurd (h is))
      on_free (plan.List_keys part) rest p h = (
        λ more. stays,
        λ listed keys begun gives. goes_so numbers c (map plan.Find keys ++ rest)
            (finds_promise keys rest p) (λ is. absurd (h is)),
      )
      on_free (plan.Find key) rest p h = (
        λ more. stays,
        λ none. goes_so numbers c rest p (λ is. absurd (h is)),
        λ k stored some none. ((p, λ is. absurd (h is)), tt),
        λ k stored ids some carried. ((p, λ is. absurd (h is)), tt),
      )
      on_free (plan.Scan there stored) rest p h = (
        λ seen. ((p, λ is. absurd (h is)), tt),
        λ unseen. goes_so numbers c rest p (λ is. absurd (h is)),
      )
      on_free (plan.Candidates parts) rest p h = (
        λ none. (tt, λ is. absurd (h is)),
        λ id more some. goes_so numbers (carrying c (id ∷ more))
            (lists_from 0 parts (plan.Retire ∷ [])) (lists_promise 0 parts (plan.Retire ∷ []) tt)
            (λ is. absurd (h is)),
      )
      on_free (plan.Strike there stored) rest p h =
          goes_so numbers (carrying c _) rest p (λ is. absurd (h is))
      on_free plan.Retire rest p h = (tt, λ is. absurd (h is))

      on_plan : (p : List (Item K V E)) → Promises p → (0 < times n numbers → Commits p) →
          OnStep eq After w n c p
      on_plan [] p h = stays
      on_plan (item ∷ rest) p h = outcomes eq After w n c item rest (on_free item rest p h)

module _ {K V : Type 0} (E : Type 0) (parts : ℕ) (rules : Rules) where
  locked_promises : (b : Bool) (key : K) (p : List (Item K V E)) → Promises p →
      Promises (under_lock b key p)
  locked_promises true key p h = h
  locked_promises false key p h = h

  by_rules : (F : Bool → List (Item K V E)) → Promises (F true) → Promises (F false) →
      Promises (F (is_disabled rules))
  by_rules F on off = by (is_disabled rules)
    where
      by : (b : Bool) → Promises (F b)
      by true = on
      by false = off

  -- as a call is started
  begins_so : (begin : Start K V) → Promises {E = E} (plan_of parts rules begin)
  begins_so (start.Get key) = by_rules (λ b. get_plan b key) tt tt
  begins_so (start.Insert key value) = by_rules (λ b. insert_plan b rules key value) tt
      (put_plans (λ p. Promises p) rules key value (plan.Reply answer.Done ∷ []) (refl, tt) (refl, tt))
  begins_so (start.GetWith key replace) =
      by_rules (λ b. load_plan b (seek kind.GetWith key replace)) tt tt
  begins_so (start.Optional key) = by_rules (λ b. load_plan b (seek kind.Optional key None)) tt tt
  begins_so (start.Try key) = by_rules (λ b. load_plan b (seek kind.Try key None)) tt tt
  begins_so (start.OrInsert key value) = by_rules (λ b. or_insert_plan b key value) tt tt
  begins_so (start.Invalidate key) = locked_promises rules.listener key
      (plan.Moment (plan.To_take_out plan.To_invalidate key) ∷ []) tt
  begins_so (start.Remove key) = locked_promises rules.listener key
      (plan.Moment (plan.To_take_out plan.To_remove key) ∷ []) tt
  begins_so (start.Evict key stamp cause) = locked_promises rules.listener key
      (look (plan.To_evict key stamp cause) key) tt
  begins_so start.Iter = by_rules (λ b. iter_plan b parts) tt
      (lists_promise 0 parts (plan.Reply answer.End ∷ []) tt)
  begins_so start.Pending = by_rules (λ b. pending_plan b parts) tt tt
  begins_so _ = tt

module _ {K V E : Type 0} (eq : K → K → Bool) where
  -- the state is reached, and each live call is to answer of what it has committed
  record AllPromise (s : State K V E) : Type 0 where
    reached : IsReached eq s
    so : (n : ℕ) → LeftSo n s.world.table.committed (s.calls n)

  reaches : (s t : State K V E) → Leads eq s t → IsReached eq s → IsReached eq t
  reaches s t led h = run_reached eq s t led.events led.replies h led.run

  left_as : (n : ℕ) (old new : List ℕ) (o : Option (Call K V E)) → times n new ≡ times n old →
      LeftSo n old o → LeftSo n new o
  left_as n old new None same h = tt
  left_as n old new (Some c) same h = (h.0, λ is. h.1 (subst (λ k. 0 < k) same is))

  own_step : (s t : State K V E) (n : ℕ) (r : Turn K V E) → LeftSo n s.world.table.committed (s.calls n) →
      Step eq s n r t →
      LeftSo n t.world.table.committed (t.calls n) × SaysSo n t.world.table.committed r
  own_step s t n r h step =
      let c : Call K V E = step.call in
      let so : LeftSo n s.world.table.committed (Some c) =
      subst (LeftSo n s.world.table.committed) step.live h in
      step_cases eq (After n eq s.world c so.0 so.1)
      (λ v q. LeftSo n v.world.table.committed (v.calls n) × SaysSo n v.world.table.committed q) s t
      n r step (on_plan n eq s.world c so.0 so.1 c.plan so.0 so.1)
      (λ w next m. (subst (LeftSo n w.table.committed) (sym (put_here s.calls n next.left)) m.0, m.1))

  all_step : (s t : State K V E) (m : ℕ) (r : Turn K V E) → Leads eq s t → AllPromise s →
      Step eq s m r t → AllPromise t
  all_step s t m r led i step = record {
    reached = reaches s t led i.reached;
    so = λ n. by n (m == n) refl;
  }
    where
      by : (n : ℕ) (b : Bool) → (m == n) ≡ b → LeftSo n t.world.table.committed (t.calls n)
      by n true e = subst (λ k. LeftSo k t.world.table.committed (t.calls k)) (eqb-true m n e)
          (own_step s t m r (i.so m) step).0
      by n false e = subst (LeftSo n t.world.table.committed) (sym (step_calls eq s t m n r e step))
          (left_as n s.world.table.committed t.world.table.committed (s.calls n)
          (step_commits eq s t m n r e step) (i.so n))

  all_start : (s : State K V E) (begin : Start K V) → Leads eq s (started s begin) → AllPromise s →
      AllPromise (started s begin)
  all_start s begin led i = record {
    reached = reaches s (started s begin) led i.reached;
    so = λ n. by n (s.world.desk.last + 1 == n) refl;
  }
    where
      first : Call K V E
      first = fresh_call s.world.table.division.parts s.world.desk.rules begin

      by : (n : ℕ) (b : Bool) → (s.world.desk.last + 1 == n) ≡ b →
          LeftSo n s.world.table.committed (cond b (Some first) (s.calls n))
      by n true e = (
        begins_so E s.world.table.division.parts s.world.desk.rules begin,
        λ is. absurd (omega (
          arith,
          is,
          (in_balance eq s i.reached).unborn n
              (omega (arith, eqb-true (s.world.desk.last + 1) n e)),
        )),
      )
      by n false e = i.so n

  all_drop : (s : State K V E) (m : ℕ) (c : Call K V E) → Leads eq s (dropped s m c) →
      AllPromise s → AllPromise (dropped s m c)
  all_drop s m c led i = record {
    reached = reaches s (dropped s m c) led i.reached;
    so = λ n. by n (m == n);
  }
    where
      by : (n : ℕ) (b : Bool) → LeftSo n s.world.table.committed (cond b None (s.calls n))
      by n true = tt
      by n false = i.so n

  same_calls : (s v : State K V E) → Leads eq s v → v.world.table.committed ≡ s.world.table.committed →
      v.calls ≡ s.calls → AllPromise s → AllPromise v
  same_calls s v led committed calls i = record {
    reached = reaches s v led i.reached;
    so = λ n. subst (λ f. LeftSo n v.world.table.committed (f n)) (sym calls)
        (subst (λ xs. LeftSo n xs (s.calls n)) (sym committed) (i.so n));
  }

  all_followed : IsFollowed eq AllPromise
  all_followed = record {
    at = λ s moment fits led i. same_calls s _ led refl refl i;
    start = λ s begin fits led i. all_start s begin led i;
    step = all_step;
    tell = λ s n given asked led i. same_calls s _ led refl refl i;
    hear = λ s n off running led i. same_calls s _ led refl refl i;
    drop = λ s n c live between led i. all_drop s n c led i;
  }

  all_promise : (s : State K V E) → IsReached eq s → AllPromise s
  all_promise s h =
      let begins : State K V E = fresh K V E h.division h.rules h.size h.handed in
      follow eq AllPromise all_followed begins s h.events h.replies (record {
        reached = fresh_reached eq h.division h.divides h.rules h.size h.handed h.has_log;
        so = λ n. tt;
      }) h.run

  pub quiet_nothing : QuietCommitNothing K V E eq
  quiet_nothing s t n a h step quiet committed = false≢true
      (sym quiet ∙ (own_step s t n (turn.Answer a) ((all_promise s h).so n) step).1
      (contains_times n t.world.table.committed committed))

  -- a get that shows a value judges it, so it has committed nothing
  shows_nothing : (s t : State K V E) (n : ℕ) (key : K) (value : V) →
      WasStarted eq (start.Get key) n s →
      (step : Step eq s n (turn.Answer (answer.Found (Some value))) t) →
      Contains t.world.table.committed n → ⊥
  shows_nothing s t n key value was step committed =
      let sees = (gets_show eq s t key n step.call value (turn.Answer (answer.Found (Some value))) was
      step.live step).0 refl in
      let same : t.world.table.committed ≡ s.world.table.committed =
      subst (λ p. CommitsBy eq s.world n p t.world) sees.judging (changed eq s t n _ step) in
      let so : LeftSo n s.world.table.committed (Some step.call) =
      subst (LeftSo n s.world.table.committed) step.live
      ((all_promise s (was_reached eq (start.Get key) n s was)).so n) in
      subst Commits sees.judging (so.1 (subst (λ xs. 0 < times n xs) same
      (contains_times n t.world.table.committed committed)))

  pub gets_nothing : GetsCommitNothing K V E eq
  gets_nothing s t n key a was step committed =
      by a (answers_fit eq s t (start.Get key) n a was step) step
    where
      by : (a : Answer K V E) → may_answer (start.Get key) a ≡ true →
          Step eq s n (turn.Answer a) t → ⊥
      by (answer.Found None) fits step =
          quiet_nothing s t n (answer.Found None) (was_reached eq (start.Get key) n s was) step refl
          committed
      by (answer.Found (Some value)) fits step = shows_nothing s t n key value was step committed
      by _ fits step = absurd (false≢true fits)
