-- A record that was chosen to leave is kept by cause.
use Rattle.std.proofs.Common.{◌≡◌, ◌⊎◌, inl, inr, ℕ, ◌+◌, ◌<◌, ◌==◌, Bool, true, false, cond, List, [], ◌∷◌, Option, Some, None, refl, sym, ap, ◌∙◌, subst, arith, map, ◌++◌, Result, Ok, Err}
use Rattle.std.proofs.lemmas.Bool.{eqb-true, false≢true}
use Rattle.std.specs.Prelude.{IsSomeAnd}
use Rattle.moka_hist.specs.Visits.{registering}
use Rattle.moka_hist.specs.Invalidating.{registering_answer}
use Rattle.moka_hist.specs.Plan.{or_insert_plan, seek, lists_from}
use Rattle.moka_hist.specs.Finite.{put_at}
use Rattle.moka_hist.specs.State.{State, World, Call}
use Rattle.moka_hist.specs.Plan.{Item, Aim, Removal, get_plan, insert_plan, is_disabled, load_plan, plan_of, under_lock}
use Rattle.moka_hist.specs.Plan as plan
use Rattle.moka_hist.specs.Next.{Next, goes, waits}
use Rattle.moka_hist.specs.Looking.{finds_pair, hits, keeps, misses, shown}
use Rattle.moka_hist.specs.Loading.{after_abort, after_read, after_told, retries}
use Rattle.moka_hist.specs.Step.{Step, state_after}
use Rattle.moka_hist.specs.Tables.{taken_by}
use Rattle.moka_hist.specs.Run.{fresh_call}
use Rattle.moka_hist.specs.declared.predicates.PredicateError.{PredicateError}
use Rattle.moka_hist.specs.declared.predicates.PredicateError.TheVariants as refused
use Rattle.moka_hist.specs.declared.accesses.Turn.{Turn}
use Rattle.moka_hist.specs.declared.accesses.Turn.TheVariants as turn
use Rattle.moka_hist.specs.declared.events.Told.{Told}
use Rattle.moka_hist.specs.declared.events.Told.TheVariants as told
use Rattle.moka_hist.specs.declared.loads.Load.{Load}
use Rattle.moka_hist.specs.declared.loads.Sought.{Sought}
use Rattle.moka_hist.specs.declared.records.Mode.TheVariants as mode
use Rattle.moka_hist.specs.declared.records.Stored.{Stored}
use Rattle.moka_hist.specs.declared.replies.Answer.{Answer}
use Rattle.moka_hist.specs.declared.replies.Answer.TheVariants as answer
use Rattle.moka_hist.specs.declared.rules.Rules.{Rules}
use Rattle.moka_hist.specs.declared.visits.Found.TheVariants as found
use Rattle.moka_hist.specs.declared.visits.Settled.{Settled}
use Rattle.moka_hist.specs.declared.visits.Settled.TheVariants as settled
use Rattle.moka_laws.specs.Removals.{StaysByCause, IsToKeep, KeepsByCause, KeptByCause}
use Rattle.moka_laws.proofs.Counting.{differ_not, none_some, some_same, put_cases, put_here}
use Rattle.moka_laws.proofs.Weights.{weigh, weigh_call}
use Rattle.moka_laws.proofs.Rules.{IsAtOnce, IsFresh, Disabled, Gives_back, fresh_plan, shown_next, chosen_by, kept_next, loaded_plans, put_plans, read_key_next, told_op_next_by, IsComputed, unchanged_computed, put_computed, Walks_over}
use Rattle.moka_laws.proofs.Kept as events
use Rattle.moka_laws.proofs.StepCases.{OnStep, more_step, step_cases}
use Rattle.moka_laws.proofs.Outcomes.{Outcomes, outcomes, passes_on}
use Rattle.moka_hist.specs.declared.loads.Compute.{Compute}
use Rattle.moka_hist.specs.Computing.{after_told_op, after_read_key}
use Rattle.moka_hist.specs.Entries.{put_answer}
use Rattle.moka_laws.proofs.Walks.{weigh_finds, weigh_walk, walk_is_walk, weigh_retiring}
use Rattle.moka_hist.specs.Maintenance.{carrying}

-- 1 where the answer is that the record was kept
abbrev kept : {K V E : Type 0} → Answer K V E → ℕ
kept answer.Kept = 1
kept _ = 0

same_answer : {K V E : Type 0} (a b : Answer K V E) → ◌≡◌ {A = Turn K V E} (turn.Answer a)
    (turn.Answer b) →
    a ≡ b
same_answer a b e = cc

registering_kept : (K V E : Type 0) (registering : Result ℕ PredicateError) →
    kept (registering_answer {K = K} {V = V} {E = E} registering) ≡ 0
registering_kept K V E (Ok id) = refl
registering_kept K V E (Err refused.InvalidationClosuresDisabled) = refl
registering_kept K V E (Err refused.NoId) = refl
registering_kept K V E (Err refused.Memory) = refl

module _ {K V E : Type 0} where
  -- the item answers that the record was kept, or judges a chosen one as if it were to be seen
  abbrev keeping : Item K V E → ℕ
  keeping (plan.Reply a) = kept a
  keeping (plan.Judge (plan.To_evict key stamp cause) at found) = 1
  keeping _ = 0

  to_keep : (p : List (Item K V E)) → IsToKeep p → 0 < weigh keeping p
  to_keep (plan.Unlock false ∷ plan.Reply answer.Kept ∷ []) h = omega arith
  to_keep (plan.Idle ∷ plan.Reply answer.Kept ∷ []) h = omega arith
  to_keep [] h = absurd h
  to_keep (_ ∷ rest) h = absurd h

  -- the call that is left has nothing to do but to answer so; and so by this step
  abbrev LeftKeeps : Option (Call K V E) → Type 0
  LeftKeeps left = IsSomeAnd left (λ c. IsToKeep c.plan)

  abbrev NextKeeps : Next K V E → Type 0
  NextKeeps next = (next.turn ≡ turn.Answer answer.Kept) ⊎ LeftKeeps next.left

  left_keeps : (left : Option (Call K V E)) → LeftKeeps left → 0 < weigh_call keeping left
  left_keeps None h = absurd h
  left_keeps (Some c) h = to_keep c.plan h

  -- what goes on otherwise
  record Quiet (next : Next K V E) : Type 0 where
    left : weigh_call keeping next.left ≡ 0
    turn : next.turn ≡ turn.Answer answer.Kept → ⊥

  not_keeps : (next : Next K V E) → Quiet next → NextKeeps next → ⊥
  not_keeps next q (inl e) = q.turn e
  not_keeps next q (inr h) = omega (arith, q.left, left_keeps next.left h)

  answers_quiet : (a : Answer K V E) → kept a ≡ 0 → ◌≡◌ {A = Turn K V E} (turn.Answer a)
      (turn.Answer answer.Kept) → ⊥
  answers_quiet a none e = omega (
    arith,
    none,
    ap kept (same_answer {K = K}
        {V = V} {E = E} a answer.Kept e),
  )

  goes_quiet : (c : Call K V E) (rest : List (Item K V E)) → weigh keeping rest ≡ 0 → Quiet
      (goes c rest)
  goes_quiet c (plan.Reply a ∷ []) h = record
      { left = refl; turn = answers_quiet a (omega (arith, h)) }
  goes_quiet c _ h = record { left = h; turn = λ e. cc }

  hits_quiet : (c : Call K V E) (aim : Aim K V) (key : K) (seen : Stored V) → keeping
      (plan.Judge aim key seen) ≡ 0 → Quiet (hits c aim key seen.value)
  hits_quiet c (plan.To_show form) key seen h =
      let pair : Option (K × V) = Some (key, seen.value) in
      record {
        left = refl;
        turn = answers_quiet (shown form pair)
            (shown_next (λ a. kept a ≡ 0) form pair refl (λ under. refl));
      }
  hits_quiet c (plan.To_own sought) key seen h = record { left = refl; turn = λ e. cc }
  hits_quiet c (plan.To_compute compute) key seen h = record { left = refl; turn = λ e. cc }
  hits_quiet c (plan.To_evict own stamp cause) key seen h = absurd (omega (arith, h))
  hits_quiet c _ key seen h = record
      { left = refl; turn = answers_quiet (answer.Loaded seen.value false) refl }

  unseen_quiet : (c : Call K V E) (aim : Aim K V) (key : K) (found : Stored V) →
      keeping (plan.Judge aim key found) ≡ 0 → Quiet (misses c aim)
  unseen_quiet c (plan.To_show form) key found h = record {
    left = refl;
    turn = answers_quiet (shown form None)
        (shown_next (λ a. kept a ≡ 0) form None refl (λ under. refl));
  }
  unseen_quiet c (plan.To_insert under value) key found h =
      put_plans (λ p. Quiet (goes c p)) c.rules under value _
      (record { left = refl; turn = λ f. cc }) (record { left = refl; turn = λ f. cc })
  unseen_quiet c (plan.To_evict own stamp cause) key found h = absurd (omega (arith, h))
  unseen_quiet c _ key found h = record { left = refl; turn = λ f. cc }

  read_quiet : (c : Call K V E) (sought : Sought K) (with : Settled V E) → weigh keeping c.plan ≡ 0 → Quiet
      (after_read c sought (found.ReadSettled with))
  read_quiet c sought (settled.Ready value) p = record
      { left = refl; turn = answers_quiet (answer.Loaded value false) refl }
  read_quiet c sought (settled.Err error) p = record
      { left = refl; turn = answers_quiet (answer.InitErr error) refl }
  read_quiet c sought settled.Nothing p = record
      { left = refl; turn = answers_quiet answer.Nothing refl }
  read_quiet c sought settled.NotYet p = record { left = p; turn = λ e. cc }
  read_quiet c sought settled.Aborted p = by (c.aborts + 1 == retries) refl
    where
      by : (b : Bool) → (c.aborts + 1 == retries) ≡ b → Quiet (after_abort c sought)
      by true e = rw e (record { left = refl; turn = answers_quiet answer.RetriesExhausted refl })
      by false e = rw e (record { left = refl; turn = λ f. cc })

  read_key_quiet : (c : Call K V E) (compute : Compute K) (with : Settled V E) →
      weigh keeping c.plan ≡ 0 → Quiet (after_read_key c compute (found.ReadSettled with))
  read_key_quiet c compute with p = read_key_next (λ v. Quiet v) c compute with
      (record { left = p; turn = λ e. cc })
      (record { left = refl; turn = λ f. cc })

  told_quiet : (c : Call K V E) (load : Load K) (given : Told V E) → weigh keeping c.plan ≡ 0 → Quiet
      (after_told c load (found.TakeTold (Some given)))
  told_quiet c load (told.Value value) p =
      loaded_plans (λ q. Quiet (goes c q)) c.rules load value
      (record { left = refl; turn = λ e. cc })
      (record { left = refl; turn = λ e. cc }) (record { left = refl; turn = λ e. cc })
  told_quiet c load told.Nothing p = record { left = refl; turn = λ e. cc }
  told_quiet c load (told.Err error) p = record { left = refl; turn = λ e. cc }
  told_quiet c load _ p = record { left = p; turn = λ e. cc }

  -- a compute answers nothing of that
  computed_not : (a : Answer K V E) → IsComputed a → kept a ≡ 0
  computed_not (answer.Computed done) is = refl
  computed_not (answer.ComputeErr error) is = refl
  computed_not _ is = absurd is

  told_op_quiet : (c : Call K V E) (compute : Compute K) (pair : Option (K × V))
      (given : Told V E) → weigh keeping c.plan ≡ 0 →
      Quiet (after_told_op c compute pair (found.TakeTold (Some given)))
  told_op_quiet c compute pair given p = told_op_next_by Quiet c compute pair given
      (record { left = omega (arith, computed_not _ (unchanged_computed E compute.key pair)); turn = λ e. cc })
      (λ error e. record { left = refl; turn = λ f. cc })
      (λ value off. record { left = omega (arith, puts value); turn = λ e. cc })
      (λ value able off. record { left = omega (arith, puts value); turn = λ e. cc })
      (λ value able on. record { left = omega (arith, puts value); turn = λ e. cc })
      (λ off. record { left = refl; turn = λ e. cc })
      (λ on. record { left = refl; turn = λ e. cc })
      (λ lost. record { left = p; turn = λ e. cc })
    where
      puts : (value : V) → kept (put_answer {E = E} compute.key pair value) ≡ 0
      puts value = computed_not _ (put_computed E compute.key pair value)

  keeps_next : (c : Call K V E) → NextKeeps (keeps c)
  keeps_next c = kept_next NextKeeps c (λ off. inl refl) (λ on. inr tt)

  -- a plan has no such item, or nothing else is left
  abbrev Calm : List (Item K V E) → Type 0
  Calm p = (weigh keeping p ≡ 0) ⊎ IsToKeep p

  abbrev CalmIf : Option (Call K V E) → Type 0
  CalmIf None = Unit {0}
  CalmIf (Some c) = Calm c.plan

  quiet_calm : (left : Option (Call K V E)) → weigh_call keeping left ≡ 0 → CalmIf left
  quiet_calm None h = tt
  quiet_calm (Some c) h = inl h

  keeps_calm : (c : Call K V E) → CalmIf (keeps c).left
  keeps_calm c = kept_next (λ v. CalmIf v.left) c (λ off. tt) (λ on. inr tt)

-- ---- fresh calls

module _ {K V E : Type 0} where
  once_kept : (a : Answer K V E) → IsAtOnce a → kept a ≡ 0
  once_kept answer.Kept once = absurd once
  once_kept _ once = refl

  form_calm : (rules : Rules) (p : List (Item K V E)) → IsFresh rules p → weigh keeping p ≡ 0
  form_calm rules p (Disabled a d once) = omega (arith, once_kept a once)
  form_calm rules p (Gives_back a d once) = omega (arith, once_kept a once)
  form_calm rules p (Walks_over parts able) = weigh_walk keeping (record { list = λ part. refl; find = λ key. refl; scan = λ there stored. refl; end = refl; choose = λ parts. refl; strike = λ there stored. refl; retire = refl }) p (walk_is_walk 0 parts)
  form_calm rules p _ = refl

module _ {K V E : Type 0} (s : State K V E) where
  -- what stands under the key is what is taken out
  stands_by : (o : Option (K × Stored V)) (stamp : ℕ) (pair : K × Stored V) → taken_by
      (Some stamp) o ≡ Some pair →
      IsSomeAnd o (λ p. p.1.stamp ≡ stamp)
  stands_by None stamp pair e = none_some e
  stands_by (Some p) stamp pair e = by (p.1.stamp == stamp) refl e
    where
      by : (b : Bool) → (p.1.stamp == stamp) ≡ b → cond b (Some p) None ≡ Some pair → p.1.stamp ≡
          stamp
      by true is e = eqb-true p.1.stamp stamp is
      by false is e = absurd (none_some e)

  gone_by : (o : Option (K × Stored V)) (stamp : ℕ) → taken_by (Some stamp) o ≡ None → IsSomeAnd o
      (λ p. p.1.stamp ≡ stamp) → ⊥
  gone_by None stamp e h = h
  gone_by (Some p) stamp e h = by (p.1.stamp == stamp) refl e
    where
      by : (b : Bool) → (p.1.stamp == stamp) ≡ b → cond b (Some p) None ≡ None → ⊥
      by true is e = none_some (sym e)
      by false is e = differ_not p.1.stamp stamp is h

  module _ (c : Call K V E) where
    -- what a step has to show whose first item is this
    record Decides (item : Item K V E) (next : Next K V E) : Type 0 where
      only : NextKeeps next → StaysByCause s item
      each : StaysByCause s item → NextKeeps next ⊎ (next.left ≡ Some (record c { mode = mode.Mid }))
      calm : CalmIf next.left

    quiet : (item : Item K V E) (next : Next K V E) → (StaysByCause s item → ⊥) → Quiet next →
        Decides item next
    quiet item next never q = record {
      only = λ h. absurd (not_keeps next q h);
      each = λ h. absurd (never h);
      calm = quiet_calm next.left q.left;
    }

    keeps_by : (item : Item K V E) → StaysByCause s item → Decides item (keeps c)
    keeps_by item why = record {
      only = λ h. why;
      each = λ h. inl (keeps_next c);
      calm =
          keeps_calm c;
    }

    -- the operation stays undecided
    undecided : (item : Item K V E) (next : Next K V E) → next.left ≡ Some
        (record c { mode = mode.Mid }) → Quiet next → Decides item next
    undecided item next e q =
        record {
          only = λ h. absurd (not_keeps next q h);
          each = λ h. inr e;
          calm =
              quiet_calm next.left q.left;
        }

    misses_by : (aim : Aim K V) (key : K) → s.world.table.stored key ≡ None → Decides
        (plan.Get aim key) (misses c aim)
    misses_by (plan.To_show form) key none = quiet (plan.Get (plan.To_show form) key) _ (λ h. h)
        (record {
          left = refl;
          turn = answers_quiet (shown form None)
              (shown_next (λ a. kept a ≡ 0) form None refl (λ under. refl));
        })
    misses_by (plan.To_insert under new) key none = quiet (plan.Get (plan.To_insert under new) key)
        _ (λ h. h)
        (put_plans (λ q. Quiet (goes c q)) c.rules under new _
        (record { left = refl; turn = λ e. cc }) (record { left = refl; turn = λ e. cc }))
    misses_by (plan.To_evict own stamp cause) key none = keeps_by
        (plan.Get (plan.To_evict own stamp cause) key)
        (λ h. subst (λ o. IsSomeAnd o (λ p. p.1.stamp ≡ stamp)) none h)
    misses_by aim key none = quiet (plan.Get aim key) _ (λ h. h)
        (record { left = refl; turn = λ e. cc })

    finds_by : (aim : Aim K V) (key there : K) (seen : Stored V) → s.world.table.stored key ≡ Some
        (there, seen) →
        Decides (plan.Get aim key) (finds_pair c aim there seen)
    finds_by (plan.To_evict own stamp cause) key there seen some =
        chosen_by (Decides
        (plan.Get (plan.To_evict own stamp cause) key)) c own stamp cause there seen
        (λ other. keeps_by (plan.Get (plan.To_evict own stamp cause) key)
        (λ h. differ_not seen.stamp stamp other
        (subst (λ o. IsSomeAnd o (λ p. p.1.stamp ≡ stamp)) some h)))
        (λ same. quiet (plan.Get (plan.To_evict own stamp cause) key) _
        (λ h. h (subst (λ o. IsSomeAnd o (λ p. p.1.stamp ≡ stamp)) (sym some) same))
        (record { left = refl; turn = λ e. cc }))
    finds_by aim key there seen some = quiet (plan.Get aim key) _ (λ h. h)
        (record { left = refl; turn = λ e. cc })

    out_by : (removal : Removal K) (key : K) → weigh keeping c.plan ≡ 0 → (eq : K → K → Bool)
        (n : ℕ)
        (rest : List (Item K V E)) →
        Outcomes eq (λ new next. Decides (plan.Out removal key) next) s.world n c
        (plan.Out removal key) rest
    out_by (plan.To_evict_chosen stamp cause) key p eq n rest = (
      λ more. undecided (plan.Out (plan.To_evict_chosen stamp cause) key) _ refl
          (record { left = p; turn = λ e. cc }),
      λ off none. kept_out _ none tt,
      λ on none. kept_out _ none tt,
      λ k old off some. quiet (plan.Out (plan.To_evict_chosen stamp cause) key) _
          (λ h. h (stands_by (s.world.table.stored key) stamp (k, old) some))
          (record { left = refl; turn = λ e. cc }),
      λ k old on some. quiet (plan.Out (plan.To_evict_chosen stamp cause) key) _
          (λ h. h (stands_by (s.world.table.stored key) stamp (k, old) some))
          (record { left = refl; turn = λ e. cc }),
    )
      where
        calm_left : (left : Option (Call K V E)) → LeftKeeps left → CalmIf left
        calm_left None h = tt
        calm_left (Some d) h = inr h

        kept_out : (next : Next K V E) → taken_by (Some stamp) (s.world.table.stored key) ≡ None →
            LeftKeeps next.left →
            Decides (plan.Out (plan.To_evict_chosen stamp cause) key) next
        kept_out next none is = record {
          only = λ h. gone_by (s.world.table.stored key) stamp none;
          each = λ h. inl (inr is);
          calm = calm_left next.left is;
        }
    out_by one key p eq n rest = (
      λ more. undecided (plan.Out one key) _ refl
          (record { left = p; turn = λ e. cc }),
      λ off none. quiet (plan.Out one key) _ (λ h. h)
          (record { left = refl; turn = λ e. cc }),
      λ on none. quiet (plan.Out one key) _ (λ h. h)
          (record { left = refl; turn = λ e. cc }),
      λ k old off some. quiet (plan.Out one key) _ (λ h. h)
          (record { left = refl; turn = λ e. cc }),
      λ k old on some. quiet (plan.Out one key) _ (λ h. h)
          (record { left = refl; turn = λ e. cc }),
    )

    module _ (eq : K → K → Bool) (n : ℕ) (p : weigh keeping c.plan ≡ 0) where
      abbrev After : Item K V E → World K V E → Next K V E → Type 0
      After item new next = Decides item next

      on_item : (item : Item K V E) (rest : List (Item K V E)) → weigh keeping (item ∷ rest) ≡ 0 →
          Outcomes eq (After item) s.world n c item rest
      on_item plan.Drain rest q = (
        λ e. quiet plan.Drain _ (λ h. h) (goes_quiet c rest (omega (arith, q))),
        λ x xs e. quiet plan.Drain _ (λ h. h) (record { left = omega (arith, q); turn = λ f. cc }),
        λ x number xs e. quiet plan.Drain _ (λ h. h)
            (record { left = omega (arith, q); turn = λ f. cc }),
      )
      on_item (plan.Notice key old cause upsert) rest q = (
        λ e. quiet (plan.Notice key old cause upsert) _ (λ h. h)
            (goes_quiet c rest (omega (arith, q))),
        λ e. quiet (plan.Notice key old cause upsert) _ (λ h. h)
            (record { left = omega (arith, q); turn = λ f. cc }),
      )
      on_item (plan.Post write) rest q = (
        λ e. quiet (plan.Post write) _ (λ h. h) (goes_quiet c rest (omega (arith, q))),
        λ e. quiet (plan.Post write) _ (λ h. h)
            (record { left = omega (arith, q); turn = λ f. cc }),
      )
      on_item plan.Apply rest q = (
        λ e. quiet plan.Apply _ (λ h. h) (goes_quiet c rest (omega (arith, q))),
        λ x xs e. quiet plan.Apply _ (λ h. h) (record { left = omega (arith, q); turn = λ f. cc }),
      )
      on_item (plan.Get aim key) rest q = (
        λ more. undecided (plan.Get aim key) _ refl (record { left = p; turn = λ f. cc }),
        λ none. misses_by aim key none,
        λ there seen some. finds_by aim key there seen some,
      )
      on_item (plan.Judge aim key found) rest q = (
        λ seen. quiet (plan.Judge aim key found) _ (λ h. h)
            (hits_quiet c aim key found (omega (arith, q))),
        λ unseen. quiet (plan.Judge aim key found) _ (λ h. h)
            (unseen_quiet c aim key found (omega (arith, q))),
      )
      on_item (plan.Own sought) rest q = (
        λ able e. quiet (plan.Own sought) _ (λ h. h) (record { left = refl; turn = λ f. cc }),
        λ disabled e. quiet (plan.Own sought) _ (λ h. h) (record { left = refl; turn = λ f. cc }),
        λ owner e. quiet (plan.Own sought) _ (λ h. h) (record { left = refl; turn = λ f. cc }),
      )
      on_item (plan.Own_key compute) rest q = (
        (
          (λ able e. quiet (plan.Own_key compute) _ (λ h. h)
              (record { left = refl; turn = λ f. cc })),
          λ disabled e. quiet (plan.Own_key compute) _ (λ h. h)
              (record { left = refl; turn = λ f. cc }),
        ),
        λ owner e. quiet (plan.Own_key compute) _ (λ h. h)
            (record { left = refl; turn = λ f. cc }),
      )
      on_item (plan.Own_alone key) rest q = (
        (
          (λ able e. quiet (plan.Own_alone key) _ (λ h. h)
              (record { left = refl; turn = λ f. cc })),
          λ disabled e. quiet (plan.Own_alone key) _ (λ h. h)
              (record { left = refl; turn = λ f. cc }),
        ),
        λ owner e. (
          (λ able. quiet (plan.Own_alone key) _ (λ h. h)
              (record { left = refl; turn = λ f. cc })),
          λ not. quiet (plan.Own_alone key) _ (λ h. h)
              (record { left = refl; turn = λ f. cc }),
        ),
      )
      on_item (plan.Read sought) rest q = (
        λ e. quiet (plan.Read sought) _ (λ h. h) (record { left = p; turn = λ f. cc }),
        λ with e. quiet (plan.Read sought) _ (λ h. h) (read_quiet c sought with p),
      )
      on_item (plan.Read_key compute) rest q = (
        λ e. quiet (plan.Read_key compute) _ (λ h. h) (record { left = p; turn = λ f. cc }),
        λ with e. quiet (plan.Read_key compute) _ (λ h. h) (read_key_quiet c compute with p),
      )
      on_item (plan.Ask load) rest q = quiet (plan.Ask load) _ (λ h. h)
          (record { left = refl; turn = λ f. cc })
      on_item (plan.Ask_op compute pair) rest q = quiet (plan.Ask_op compute pair) _ (λ h. h)
          (record { left = refl; turn = λ f. cc })
      on_item (plan.Told load) rest q = (
        λ e. quiet (plan.Told load) _ (λ h. h) (record { left = p; turn = λ f. cc }),
        λ given e. quiet (plan.Told load) _ (λ h. h) (told_quiet c load given p),
      )
      on_item (plan.Told_op compute pair) rest q = (
        λ e. quiet (plan.Told_op compute pair) _ (λ h. h) (record { left = p; turn = λ f. cc }),
        λ given e. quiet (plan.Told_op compute pair) _ (λ h. h)
            (told_op_quiet c compute pair given p),
      )
      on_item (plan.Holds key stamp cause there seen) rest q = (
        λ holds. quiet (plan.Holds key stamp cause there seen) _ (λ h. false≢true (sym h ∙ holds))
            (record { left = refl; turn = λ f. cc }),
        λ not. keeps_by (plan.Holds key stamp cause there seen) not,
      )
      on_item (plan.Moment (plan.To_store key value)) rest q =
          quiet (plan.Moment (plan.To_store key value)) _ (λ h. h)
          (record { left = omega (arith, q); turn = λ f. cc })
      on_item (plan.Moment (plan.To_take_out removal key)) rest q =
          quiet (plan.Moment (plan.To_take_out removal key)) _ (λ h. h)
          (record { left = omega (arith, q); turn = λ f. cc })
      on_item (plan.Write key value moment) rest q = (
        λ more. quiet (plan.Write key value moment) _ (λ h. h)
            (record { left = p; turn = λ f. cc }),
        λ off old. quiet (plan.Write key value moment) _ (λ h. h)
            (record { left = omega (arith, q); turn = λ f. cc }),
        λ on. quiet (plan.Write key value moment) _ (λ h. h)
            (record { left = omega (arith, q); turn = λ f. cc }),
        λ k old on some. quiet (plan.Write key value moment) _ (λ h. h)
            (record { left = omega (arith, q); turn = λ f. cc }),
      )
      on_item (plan.Out removal key) rest q = out_by removal key p eq n rest
      on_item (plan.List_keys part) rest q = (
        λ more. quiet (plan.List_keys part) _ (λ h. h) (record { left = p; turn = λ f. cc }),
        λ listed keys is gives. quiet (plan.List_keys part) _ (λ h. h)
            (goes_quiet c (map plan.Find keys ++ rest) (omega (arith, q, weigh_finds {E = E} keeping (λ key. refl) keys rest))),
      )
      on_item (plan.Find key) rest q = (
        λ more. quiet (plan.Find key) _ (λ h. h) (record { left = p; turn = λ f. cc }),
        λ none. quiet (plan.Find key) _ (λ h. h) (goes_quiet c rest (omega (arith, q))),
        λ there seen some none. quiet (plan.Find key) _ (λ h. h) (record { left = omega (arith, q); turn = λ f. cc }),
        λ there seen ids some is. quiet (plan.Find key) _ (λ h. h) (record { left = omega (arith, q); turn = λ f. cc }),
      )
      on_item (plan.Scan there found) rest q = (
        λ seen. quiet (plan.Scan there found) _ (λ h. h) (record { left = omega (arith, q); turn = λ f. cc }),
        λ unseen. quiet (plan.Scan there found) _ (λ h. h) (goes_quiet c rest (omega (arith, q))),
      )
      on_item (plan.Candidates parts) rest q = (
        λ none. quiet (plan.Candidates parts) _ (λ h. h) (record { left = refl; turn = answers_quiet answer.Done refl }),
        λ id more some. quiet (plan.Candidates parts) _ (λ h. h)
            (goes_quiet (carrying c (id ∷ more)) (lists_from 0 parts (plan.Retire ∷ [])) (weigh_retiring keeping (λ part. refl) refl parts)),
      )
      on_item (plan.Strike there found) rest q = quiet (plan.Strike there found) _ (λ h. h) (goes_quiet (carrying c _) rest (omega (arith, q)))
      on_item plan.Retire rest q = quiet plan.Retire _ (λ h. h) (record { left = refl; turn = answers_quiet answer.Done refl })
      on_item (plan.Register test) rest q = quiet (plan.Register test) _ (λ h. h) (record {
        left = refl;
        turn = answers_quiet (registering_answer (registering s.world.desk))
            (registering_kept K V E (registering s.world.desk));
      })
      on_item (plan.Reply a) rest q =
          quiet (plan.Reply a) _ (λ h. h) (record {
            left = refl;
            turn = answers_quiet a
                (omega (arith, q));
          })
      on_item item rest q = passes_on eq (After item) s.world n c item rest tt
          (λ d. quiet item _ (λ h. h) (goes_quiet c rest (omega (arith, q))))
          (quiet item _ (λ h. h) (record { left = p; turn = λ f. cc }))

    -- of a plan: why its first item keeps the record
    abbrev KeptAt : List (Item K V E) → Type 0
    KeptAt [] = ⊥
    KeptAt (item ∷ rest) = StaysByCause s item

    record Outcome (p : List (Item K V E)) (next : Next K V E) : Type 0 where
      only : NextKeeps next → KeptAt p ⊎ IsToKeep p
      each : KeptAt p → NextKeeps next ⊎ (next.left ≡ Some (record c { mode = mode.Mid }))
      told : IsToKeep p → next.turn ≡ turn.Answer answer.Kept
      calm : CalmIf next.left

    so_decided : (item : Item K V E) (rest : List (Item K V E)) → weigh keeping (item ∷ rest) ≡ 0 →
        (next : Next K V E) → Decides item next →
        Outcome (item ∷ rest) next
    so_decided item rest q next d = record {
      only = λ h. inl (d.only h);
      each = d.each;
      told = λ h. absurd (omega (arith, q, to_keep (item ∷ rest) h));
      calm = d.calm;
    }

    module _ (eq : K → K → Bool) (n : ℕ) where
      abbrev Made : List (Item K V E) → World K V E → Next K V E → Type 0
      Made p new next = Outcome p next

      on_calm : (p : List (Item K V E)) → c.plan ≡ p → weigh keeping p ≡ 0 → OnStep eq
          (Made p) s.world n c p
      on_calm [] e q = record {
        only = λ h. absurd (not_keeps (waits c) (record {
          left = ap (weigh keeping) e;
          turn =
              λ f. cc;
        }) h);
        each = λ h. absurd h;
        told = λ h. absurd h;
        calm = inl (ap (weigh keeping) e);
      }
      on_calm (item ∷ rest) e q =
          more_step eq (λ new next. Decides item next) (Made (item ∷ rest))
          (λ new next d. so_decided item rest q next d) s.world n c
          (item ∷ rest) (outcomes eq (λ new next. Decides item next) s.world n c item rest
          (on_item eq n (ap (weigh keeping) e ∙ q) item rest q))

      on_keeping : (p : List (Item K V E)) → IsToKeep p → OnStep eq (Made p) s.world n c p
      on_keeping (plan.Unlock false ∷ plan.Reply answer.Kept ∷ []) h =
          outcomes eq (Made (plan.Unlock false ∷ plan.Reply answer.Kept ∷ [])) s.world n c
          (plan.Unlock false) (plan.Reply answer.Kept ∷ [])
          (record { only = λ k. inr tt; each = λ k. absurd k; told = λ k. refl; calm = tt })
      on_keeping (plan.Idle ∷ plan.Reply answer.Kept ∷ []) h =
          outcomes eq (Made (plan.Idle ∷ plan.Reply answer.Kept ∷ [])) s.world n c plan.Idle
          (plan.Reply answer.Kept ∷ [])
          (record { only = λ k. inr tt; each = λ k. absurd k; told = λ k. refl; calm = tt })
      on_keeping [] h = absurd h
      on_keeping (_ ∷ rest) h = absurd h

      on_plan : (p : List (Item K V E)) → c.plan ≡ p → Calm p → OnStep eq (Made p) s.world n c p
      on_plan p e (inl q) = on_calm p e q
      on_plan p e (inr h) = on_keeping p h

-- ---- of a state

module _ {K V E : Type 0} (eq : K → K → Bool) where
  abbrev AreCalm : State K V E → Type 0
  AreCalm s = (n : ℕ) (c : Call K V E) → s.calls n ≡ Some c → Calm c.plan

  calm_step : (s t : State K V E) (n : ℕ) (turn : Turn K V E) → AreCalm s → Step eq s n turn t →
      AreCalm t
  calm_step s t n turn i step =
      step_cases eq (λ new next. Outcome s step.call step.call.plan next)
      (λ v _. AreCalm v) s t n turn step
      (on_plan s step.call eq n step.call.plan refl (i n step.call step.live))
      (λ w next o m c live. put_cases s.calls n next.left m (Some c) (Calm c.plan) live
      (λ here is. subst CalmIf is o.calm) (λ there is. i m c is))

  calm_kept : events.IsInvariant eq AreCalm
  calm_kept = record {
    fresh = λ division divides rules size built has_log n c live. absurd (none_some live);
    at = λ s moment i. i;
    start = λ s start i n c live.
        put_cases s.calls (s.world.desk.last + 1) (Some (fresh_call s.world.table.division.parts s.world.desk.rules start)) n
        (Some c) (Calm c.plan) live
        (λ here is. subst CalmIf is (inl (form_calm s.world.desk.rules _ (fresh_plan s.world.table.division.parts s.world.desk.rules start))))
        (λ there is. i n c is);
    step = calm_step;
    tell = λ s n given asked i. i;
    hear = λ s n off running i. i;
    drop = λ s n c live between i m d lives.
        put_cases s.calls n None m (Some d) (Calm d.plan) lives (λ here is. absurd (none_some is))
        (λ there is. i m d is);
  }

  pub kept_by_cause : KeptByCause K V E eq
  kept_by_cause s t n c item rest reply h live e step =
      let i : AreCalm s = events.in_reached eq AreCalm calm_kept s h in
      let is : step.call ≡ c = some_same (sym step.live ∙ live) in
      step_cases eq (λ new next. Outcome s c (item ∷ rest) next)
      (λ v r. KeepsByCause s n c item rest r v) s t n reply step
      (subst (λ (d : Call K V E). OnStep eq (λ new next. Outcome s c
      (item ∷ rest) next) s.world n d d.plan) (sym is)
      (subst (λ p. OnStep eq (λ new next. Outcome s c (item ∷ rest) next) s.world n c p) (sym e)
      (on_plan s c eq n (item ∷ rest) e (subst Calm e (i n c live)))))
      (λ w next o. so_kept w next o)
    where
      there : (left : Option (Call K V E)) → put_at s.calls n left n ≡ left
      there left = put_here s.calls n left

      was : (next : Next K V E) → (next.turn ≡ turn.Answer answer.Kept) ⊎ IsSomeAnd
          (put_at s.calls n next.left n) (λ d. IsToKeep d.plan) → NextKeeps next
      was next (inl k) = inl k
      was next (inr k) = inr (subst LeftKeeps (there next.left) k)

      now : (next : Next K V E) → NextKeeps next → (next.turn ≡ turn.Answer answer.Kept) ⊎ IsSomeAnd
          (put_at s.calls n next.left n) (λ d. IsToKeep d.plan)
      now next (inl k) = inl k
      now next (inr k) = inr (subst LeftKeeps (sym (there next.left)) k)

      each_now : (next : Next K V E) → NextKeeps next ⊎
          (next.left ≡ Some (record c { mode = mode.Mid })) →
          ((next.turn ≡ turn.Answer answer.Kept) ⊎ IsSomeAnd (put_at s.calls n next.left n)
          (λ d. IsToKeep d.plan)) ⊎
          (put_at s.calls n next.left n ≡ Some (record c { mode = mode.Mid }))
      each_now next (inl k) = inl (now next k)
      each_now next (inr k) = inr (there next.left ∙ k)

      so_kept : (w : World K V E) (next : Next K V E) → Outcome s c (item ∷ rest) next →
          KeepsByCause s n c item rest next.turn (state_after s n w next)
      so_kept w next o = record {
        only = λ k. o.only (was next k);
        each = λ k. each_now next (o.each k);
        told = o.told;
      }
