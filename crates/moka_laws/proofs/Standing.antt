-- Under a listener the chosen record stands under its key until it is taken out: the key's lock is
-- held.
use Rattle.std.proofs.Common.{◌≡◌, ◌⊎◌, inl, inr, ℕ, ◌+◌, ◌==◌, Bool, true, false, cond, List, [], ◌∷◌, Option, Some, None, refl, sym, ap, ◌∙◌, subst, arith, map, ◌++◌}
use Rattle.std.proofs.lemmas.Bool.{eqb-true}
use Rattle.std.specs.Cmp.{IsEquivalence}
use Rattle.std.specs.Prelude.{IsSomeAnd}
use Rattle.moka_hist.specs.Plan.{or_insert_plan, seek, lists_from}
use Rattle.moka_hist.specs.Finite.{put_key}
use Rattle.moka_hist.specs.State.{State, World, Call, TablePart}
use Rattle.moka_hist.specs.Plan.{Item, Aim, get_plan, insert_plan, is_disabled, load_plan, plan_of, under_lock}
use Rattle.moka_hist.specs.Plan as plan
use Rattle.moka_hist.specs.Next.{Next, goes}
use Rattle.moka_hist.specs.Looking.{finds_pair, hits, keeps, misses}
use Rattle.moka_hist.specs.Loading.{after_read, after_told}
use Rattle.moka_hist.specs.Step.{Access, On_table, On_desk, access_for, access_of, Gets, Step}
use Rattle.moka_hist.specs.Tables.{Operates, by_pair, removed, taken_by, written, begun}
use Rattle.moka_hist.specs.Run.{fresh_call}
use Rattle.moka_hist.specs.declared.accesses.Got.{Got}
use Rattle.moka_hist.specs.declared.accesses.Got.TheVariants as got
use Rattle.moka_hist.specs.declared.accesses.Turn.{Turn}
use Rattle.moka_hist.specs.declared.events.Told.{Told}
use Rattle.moka_hist.specs.declared.events.Told.TheVariants as told
use Rattle.moka_hist.specs.declared.loads.Load.{Load}
use Rattle.moka_hist.specs.declared.loads.Sought.{Sought}
use Rattle.moka_hist.specs.declared.records.Mode.{Mode}
use Rattle.moka_hist.specs.declared.records.Stored.{Stored}
use Rattle.moka_hist.specs.declared.rules.Rules.{Rules}
use Rattle.moka_hist.specs.declared.tables.TableAnswer.{TableAnswer}
use Rattle.moka_hist.specs.declared.tables.TableOp.{TableOp}
use Rattle.moka_hist.specs.declared.tables.TableOp.TheVariants as op
use Rattle.moka_hist.specs.declared.tables.TableTurn.TheVariants as table
use Rattle.moka_hist.specs.declared.visits.Found.TheVariants as found
use Rattle.moka_hist.specs.declared.visits.Settled.{Settled}
use Rattle.moka_hist.specs.declared.visits.Settled.TheVariants as settled
use Rattle.moka_laws.specs.Listening.{locked_key}
use Rattle.moka_laws.specs.Removals.{ChosenStands}
use Rattle.moka_laws.proofs.Counting.{differ_not, none_some, put_cases, put_here}
use Rattle.moka_hist.specs.Writing.{nothing_answer, removed_answer, said}
use Rattle.moka_hist.specs.declared.replies.Answer.{Answer}
use Rattle.moka_laws.proofs.Weights.{weigh, weigh_call, weigh_goes, weigh_said}
use Rattle.moka_laws.proofs.Locking.{IsLocking, Inside, key_locked}
use Rattle.moka_laws.proofs.Ordering.{one_lock}
use Rattle.moka_laws.proofs.Owning.{plan_left}
use Rattle.moka_laws.proofs.Rules.{abort_next, IsFresh, Takes_out, Locks_and_takes_out, fresh_plan, put_plans, chosen_by, kept_next, loaded_plans, put_plans, read_key_next, told_op_next, Walks_over}
use Rattle.moka_laws.proofs.SoundReached.{IsSound, sound_kept}
use Rattle.moka_laws.proofs.Steady.{step_calls, step_rules}
use Rattle.moka_laws.proofs.Kept.{IsInvariant, in_reached}
use Rattle.moka_laws.proofs.StepCases.{OnStep, step_cases}
use Rattle.moka_laws.proofs.Outcomes.{Outcomes, outcomes, passes_on}
use Rattle.moka_hist.specs.declared.loads.Compute.{Compute}
use Rattle.moka_hist.specs.Computing.{after_told_op, after_read_key}
use Rattle.moka_laws.proofs.Walks.{weigh_finds, weigh_walk, walk_is_walk, weigh_retiring}
use Rattle.moka_hist.specs.Maintenance.{carrying}

-- what is stored by key
abbrev Map : Type 0 → Type 0 → Type 0
Map K V = K → Option (K × Stored V)

module _ {K V : Type 0} where
  -- the record of this stamp stands there
  abbrev At : Map K V → K → ℕ → Type 0
  At stored key stamp = IsSomeAnd (stored key) (λ pair. pair.1.stamp ≡ stamp)

module _ {K V : Type 0} (eq : K → K → Bool) where
  -- the operation changes what stands under the key
  abbrev Alters : TableOp K V → K → Type 0
  Alters (op.Get key) q = ⊥
  Alters (op.InsertOrModify key stored) q = eq key q ≡ true
  Alters (op.InsertIfAbsent key stored) q = eq key q ≡ true
  Alters (op.RemoveIf key stamp) q = eq key q ≡ true
  Alters (op.Keys part) q = ⊥

  put_leaves : (f : Map K V) (key : K) (v : Option (K × Stored V)) (q : K) →
      (eq key q ≡ true → ⊥) → put_key eq f key v q ≡ f q
  put_leaves f key v q never = by (eq key q) refl
    where
      by : (b : Bool) → eq key q ≡ b → cond b v (f q) ≡ f q
      by true e = absurd (never e)
      by false e = refl

  operation_leaves : (n : ℕ) (t : TablePart K V) (o : TableOp K V) (answer : TableAnswer K V)
      (new : TablePart K V) → Operates eq n t o answer new →
      (q : K) → (Alters o q → ⊥) → new.stored q ≡ t.stored q
  operation_leaves n t (op.Get key) answer new h q never = ap
      (λ (v : TablePart K V). v.stored q) h.1
  operation_leaves n t (op.InsertOrModify key stored) answer new h q never =
      ap (λ (v : TablePart K V). v.stored q) h.1 ∙ put_leaves t.stored key
      (Some (key, stored)) q never
  operation_leaves n t (op.InsertIfAbsent key stored) answer new h q never = ap
      (λ (v : TablePart K V). v.stored q) h.1 ∙ by (t.stored key)
    where
      by : (o : Option (K × Stored V)) → (by_pair o t (written eq n t key stored)).stored q ≡
          t.stored q
      by None = put_leaves t.stored key (Some (key, stored)) q never
      by (Some pair) = refl
  operation_leaves n t (op.Keys part) answer new h q never = ap
      (λ (v : TablePart K V). v.stored q) h.5
  operation_leaves n t (op.RemoveIf key stamp) answer new h q never =
      ap (λ (v : TablePart K V). v.stored q) h.1 ∙ by (taken_by stamp (t.stored key))
    where
      by : (o : Option (K × Stored V)) → (by_pair o (removed eq n t key) t).stored q ≡ t.stored q
      by None = refl
      by (Some pair) = put_leaves t.stored key None q never

module _ {K V E : Type 0} where
  -- the item is about to take a chosen record out
  abbrev chosen : Item K V E → ℕ
  chosen (plan.Holds key stamp cause there found) = 1
  chosen (plan.Moment (plan.To_take_out (plan.To_evict_chosen stamp cause) key)) = 1
  chosen (plan.Out (plan.To_evict_chosen stamp cause) key) = 1
  chosen _ = 0

  -- the plan is about to take out a record that stands under the key
  abbrev StandingAt : Map K V → List (Item K V E) → Type 0
  StandingAt stored (plan.Holds key stamp cause there found ∷ []) = At stored key stamp
  StandingAt stored (plan.Moment (plan.To_take_out (plan.To_evict_chosen stamp cause) key) ∷ []) =
      At stored key stamp
  StandingAt stored (plan.Out (plan.To_evict_chosen stamp cause) key ∷ []) = At stored key stamp
  StandingAt stored _ = ⊥

  abbrev Stands : Map K V → List (Item K V E) → Type 0
  Stands stored p = (weigh chosen p ≡ 0) ⊎ StandingAt stored p

  abbrev StandsIf : Map K V → Option (Call K V E) → Type 0
  StandsIf stored None = Unit {0}
  StandsIf stored (Some c) = Stands stored c.plan

  -- ---- the call's own step

  calm_if : (stored : Map K V) (left : Option (Call K V E)) → weigh_call chosen left ≡ 0 →
      StandsIf stored left
  calm_if stored None h = tt
  calm_if stored (Some c) h = inl h

  keeps_calm : (c : Call K V E) → weigh_call chosen (keeps c).left ≡ 0
  keeps_calm c = kept_next (λ v. weigh_call chosen v.left ≡ 0) c (λ off. refl) (λ on. refl)

  misses_calm : (c : Call K V E) (aim : Aim K V) → weigh_call chosen (misses c aim).left ≡ 0
  misses_calm c (plan.To_insert key value) =
      put_plans (λ p. weigh_call chosen (goes c p).left ≡ 0) c.rules key value _ refl refl
  misses_calm c (plan.To_evict key stamp cause) = keeps_calm c
  misses_calm c _ = refl

  hits_calm : (c : Call K V E) (aim : Aim K V) (there : K) (value : V) → weigh chosen c.plan ≡ 0 →
      weigh_call chosen
      (hits c aim there value).left ≡ 0
  hits_calm c (plan.To_evict key stamp cause) there value p = p
  hits_calm c _ there value p = refl

  read_calm : (c : Call K V E) (sought : Sought K) (with : Settled V E) → weigh chosen c.plan ≡ 0 →
      weigh_call chosen (after_read c sought (found.ReadSettled with)).left ≡ 0
  read_calm c sought settled.NotYet p = p
  read_calm c sought settled.Aborted p = abort_next (λ v. weigh_call chosen v.left ≡ 0) c sought refl refl
  read_calm c sought _ p = refl

  read_key_calm : (c : Call K V E) (compute : Compute K) (with : Settled V E) →
      weigh chosen c.plan ≡ 0 →
      weigh_call chosen (after_read_key c compute (found.ReadSettled with)).left ≡ 0
  read_key_calm c compute with p = read_key_next (λ v. weigh_call chosen v.left ≡ 0) c compute with
      (p)
      (refl)

  told_calm : (c : Call K V E) (load : Load K) (given : Told V E) → weigh chosen c.plan ≡ 0 →
      weigh_call chosen (after_told c load (found.TakeTold (Some given))).left ≡ 0
  told_calm c load (told.Value value) p = loaded_plans
      (λ q. weigh_call chosen (goes c q).left ≡ 0) c.rules load value refl refl refl
  told_calm c load told.Nothing p = refl
  told_calm c load (told.Err error) p = refl
  told_calm c load _ p = p

  told_op_calm : (c : Call K V E) (compute : Compute K) (pair : Option (K × V)) (given : Told V E) →
      weigh chosen c.plan ≡ 0 →
      weigh_call chosen (after_told_op c compute pair (found.TakeTold (Some given))).left ≡ 0
  told_op_calm c compute pair given p =
      told_op_next (λ v. weigh_call chosen v.left ≡ 0) c compute pair given
      (λ a. refl)
      (λ value able off. refl)
      (λ value able on. refl)
      (λ off. refl)
      (λ on. refl)
      (p)

  module _ (eq : K → K → Bool) (w : World K V E) (n : ℕ) (c : Call K V E) where
    -- what a step has to show
    abbrev After : World K V E → Next K V E → Type 0
    After new next = StandsIf new.table.stored next.left

    goes_as : (d : Call K V E) (f : Map K V) (rest : List (Item K V E)) → weigh chosen rest ≡ 0 → StandsIf f
        (goes d rest).left
    goes_as d f rest h = calm_if f (goes d rest).left (weigh_goes chosen d rest (λ a. refl) ∙ h)

    goes_on : (f : Map K V) (rest : List (Item K V E)) → weigh chosen rest ≡ 0 → StandsIf f
        (goes c rest).left
    goes_on f rest h = goes_as c f rest h

    finds_on : (aim : Aim K V) (key there : K) (seen : Stored V) (rest : List (Item K V E)) → c.plan ≡
        plan.Get aim key ∷ rest →
        w.table.stored key ≡ Some (there, seen) →
        ((own : K) → locked_key (plan.Get aim key ∷ rest) ≡ Some own → Inside own
        (plan.Get aim key ∷ rest)) →
        StandsIf w.table.stored (finds_pair c aim there seen).left
    finds_on (plan.To_evict own stamp cause) key there seen rest e some inside =
        chosen_by (λ v. StandsIf w.table.stored v.left) c own stamp cause there seen
        (λ other. calm_if w.table.stored (keeps c).left (keeps_calm c))
        (λ same. inr (subst (λ k. At w.table.stored k stamp) (inside key refl).0
        (subst (λ o. IsSomeAnd o (λ pair. pair.1.stamp ≡ stamp)) (sym some) same)))
    finds_on _ key there seen rest e some inside = inl refl

    on_calm : (item : Item K V E) (rest : List (Item K V E)) → c.plan ≡ item ∷ rest →
        weigh chosen c.plan ≡ 0 → weigh chosen (item ∷ rest) ≡ 0 →
        ((own : K) → locked_key (item ∷ rest) ≡ Some own → Inside own (item ∷ rest)) →
        Outcomes eq After w n c item rest
    on_calm plan.Drain rest e p q i = (
      λ f. goes_on _ rest (omega (arith, q)),
      λ x xs f. inl (omega (arith, q)),
      λ x number xs f. inl (omega (arith, q)),
    )
    on_calm (plan.Notice key old cause upsert) rest e p q i =
        (λ f. goes_on _ rest (omega (arith, q)), λ f. inl (omega (arith, q)))
    on_calm (plan.Post write) rest e p q i =
        (λ f. goes_on _ rest (omega (arith, q)), λ f. inl (omega (arith, q)))
    on_calm plan.Apply rest e p q i = (
      λ f. goes_on _ rest (omega (arith, q)),
      λ x xs f. inl
          (omega (arith, q)),
    )
    on_calm (plan.Get aim key) rest e p q i = (
      λ more. inl p,
      λ none. calm_if _ (misses c aim).left (misses_calm c aim),
      λ there seen some. finds_on aim key there seen rest e some i,
    )
    on_calm (plan.Judge aim key found) rest e p q i = (
      λ seen. calm_if _ (hits c aim key found.value).left (hits_calm c aim key found.value p),
      λ unseen. calm_if _ (misses c aim).left (misses_calm c aim),
    )
    on_calm (plan.Own sought) rest e p q i = (
      λ able f. inl refl,
      λ disabled f. inl refl,
      λ owner f. inl refl,
    )
    on_calm (plan.Own_key compute) rest e p q i =
        ((λ able f. inl refl, λ disabled f. inl refl), λ owner f. inl refl)
    on_calm (plan.Own_alone key) rest e p q i = (
      (λ able f. inl refl, λ disabled f. inl refl),
      λ owner f. (λ able. inl refl, λ disabled. inl refl),
    )
    on_calm (plan.Read sought) rest e p q i = (
      λ f. inl p,
      λ with f. calm_if _ _
          (read_calm c sought with p),
    )
    on_calm (plan.Read_key compute) rest e p q i = (
      λ f. inl p,
      λ with f. calm_if _ _
          (read_key_calm c compute with p),
    )
    on_calm (plan.Ask load) rest e p q i = inl refl
    on_calm (plan.Ask_op compute pair) rest e p q i = inl refl
    on_calm (plan.Told load) rest e p q i = (
      λ f. inl p,
      λ given f. calm_if _ _
          (told_calm c load given p),
    )
    on_calm (plan.Told_op compute pair) rest e p q i = (
      λ f. inl p,
      λ given f. calm_if _ _
          (told_op_calm c compute pair given p),
    )
    on_calm (plan.Holds key stamp cause there seen) rest e p q i = absurd (omega (arith, q))
    on_calm (plan.Moment (plan.To_store key value)) rest e p q i = inl (omega (arith, q))
    on_calm (plan.Moment (plan.To_take_out plan.To_invalidate key)) rest e p q i = inl
        (omega (arith, q))
    on_calm (plan.Moment (plan.To_take_out plan.To_remove key)) rest e p q i = inl
        (omega (arith, q))
    on_calm (plan.Moment (plan.To_take_out (plan.To_remove_as_told own) key)) rest e p q i = inl
        (omega (arith, q))
    on_calm (plan.Moment (plan.To_take_out (plan.To_evict_chosen stamp cause) key)) rest e p q i =
        absurd (omega (arith, q))
    on_calm (plan.Write key value moment) rest e p q i = (
      λ more. inl p,
      λ off old. inl (omega (arith, q)),
      λ on. inl (omega (arith, q)),
      λ k old on some. inl (omega (arith, q)),
    )
    on_calm (plan.Out removal key) rest e p q i = (
      λ more. inl p,
      λ off none. inl (omega (arith, out (nothing_answer removal))),
      λ on none. inl (omega (arith, out (nothing_answer removal))),
      λ k old off some. inl (omega (arith, out (removed_answer removal old.value))),
      λ k old on some. inl (omega (arith, out (removed_answer removal old.value))),
    )
      where
        out : (a : Answer K V E) → weigh chosen (said removal a) ≡ 0
        out a = weigh_said chosen removal a refl refl
    on_calm (plan.List_keys part) rest e p q i = (
      λ more. inl p,
      λ listed keys is gives. goes_on _ (map plan.Find keys ++ rest) (omega (arith, q, weigh_finds {E = E} chosen (λ key. refl) keys rest)),
    )
    on_calm (plan.Find key) rest e p q i = (
      λ more. inl p,
      λ none. goes_on _ rest (omega (arith, q)),
      λ there seen some none. inl (omega (arith, q)),
      λ there seen ids some is. inl (omega (arith, q)),
    )
    on_calm (plan.Scan there found) rest e p q i =
        (λ seen. inl (omega (arith, q)), λ unseen. goes_on _ rest (omega (arith, q)))
    on_calm (plan.Register test) rest e p q i = tt
    on_calm (plan.Candidates parts) rest e p q i =
        (λ none. tt, λ id more some. goes_as (carrying c (id ∷ more)) _ (lists_from 0 parts (plan.Retire ∷ [])) (weigh_retiring chosen (λ part. refl) refl parts))
    on_calm (plan.Strike there found) rest e p q i = goes_as (carrying c _) _ rest (omega (arith, q))
    on_calm plan.Retire rest e p q i = tt
    on_calm (plan.Reply a) rest e p q i = tt
    on_calm item rest e p q i =
        passes_on eq After w n c item rest tt (λ d. goes_on _ rest (omega (arith, q))) (inl p)

    on_standing : (p : List (Item K V E)) → c.plan ≡ p → StandingAt w.table.stored p →
        OnStep eq After w n c p
    on_standing (plan.Holds key stamp cause there seen ∷ []) e h =
        outcomes eq After w n c (plan.Holds key stamp cause there seen) []
        (λ holds. inr h, λ not. calm_if _ (keeps c).left (keeps_calm c))
    on_standing (plan.Moment (plan.To_take_out (plan.To_evict_chosen stamp cause) key) ∷ []) e h =
        outcomes eq After w n c (plan.Moment (plan.To_take_out
        (plan.To_evict_chosen stamp cause) key)) [] (inr h)
    on_standing (plan.Out (plan.To_evict_chosen stamp cause) key ∷ []) e h =
        outcomes eq After w n c (plan.Out (plan.To_evict_chosen stamp cause) key) [] (
          λ more. inr (subst (StandingAt w.table.stored) (sym e) h),
          λ off none. inl refl,
          λ on none. inl refl,
          λ k old off some. inl refl,
          λ k old on some. inl refl,
        )
    on_standing [] e h = absurd h
    on_standing (_ ∷ rest) e h = absurd h

    on_plan : (p : List (Item K V E)) → c.plan ≡ p →
        ((own : K) → locked_key p ≡ Some own → Inside own p) → Stands w.table.stored p →
        OnStep eq After w n c p
    on_plan [] e i (inl q) = inl (ap (weigh chosen) e)
    on_plan (item ∷ rest) e i (inl q) = outcomes eq After w n c item rest
        (on_calm item rest e (ap (weigh chosen) e ∙ q) q i)
    on_plan p e i (inr h) = on_standing p e h

  -- ---- what a step of another call leaves

  module _ (eq : K → K → Bool) where
    -- the access changes what stands under the key
    abbrev Changes : Access K V E → K → Type 0
    Changes (On_table o) q = Alters eq o q
    Changes (On_desk made) q = ⊥

    access_leaves : (n : ℕ) (w new : World K V E) (a : Access K V E) (g : Got K V E) →
        Gets eq n w a g new → (q : K) → (Changes a q → ⊥) →
        new.table.stored q ≡ w.table.stored q
    access_leaves n w new (On_table o) (got.Table table.Going) gets q never = ap
        (λ (v : World K V E). v.table.stored q) gets.1
    access_leaves n w new (On_table o) (got.Table (table.Decided answer)) gets q never =
        ap (λ (v : World K V E). v.table.stored q) gets.2 ∙
        operation_leaves eq n (begun w.table n o) o answer gets.0 gets.1 q never
    access_leaves n w new (On_desk made) (got.Desk f) gets q never = ap
        (λ (v : World K V E). v.table.stored q) gets.1
    access_leaves n w new (On_table o) (got.Desk f) gets q never = absurd gets
    access_leaves n w new (On_desk made) (got.Table turn) gets q never = absurd gets

    -- a call that changes what stands under a key is about to, under an equal one
    item_changes : (n : ℕ) (ids : Option (List (ℕ × ℕ))) (item : Item K V E) (rest : List (Item K V E)) (q : K) → Changes
        (access_for n ids item) q →
        (key : K) × (locked_key (item ∷ rest) ≡ Some key) × (eq key q ≡ true)
    item_changes n ids (plan.Write key value moment) rest q h = (key, refl, h)
    item_changes n ids (plan.Out removal key) rest q h = (key, refl, h)
    item_changes n ids _ rest q h = absurd h

    plan_changes : (n : ℕ) (rules : Rules) (mode : Mode) (p : List (Item K V E)) (aborts : ℕ)
        (ids : Option (List (ℕ × ℕ))) (q : K) →
        Changes (access_of n (record { rules = rules; mode = mode; plan = p; aborts = aborts; carried = ids })) q →
        (key : K) × (locked_key p ≡ Some key) × (eq key q ≡ true)
    plan_changes n rules mode [] aborts ids q h = absurd h
    plan_changes n rules mode (item ∷ rest) aborts ids q h = item_changes n ids item rest q h

  -- what stands so still does where nothing changes under its key
  standing_still : (f g : Map K V) (p : List (Item K V E)) →
      ((k : K) → locked_key p ≡ Some k → g k ≡ f k) → StandingAt f p → StandingAt g p
  standing_still f g (plan.Holds key stamp cause there seen ∷ []) same h =
      subst (λ o. IsSomeAnd o (λ pair. pair.1.stamp ≡ stamp)) (sym (same key refl)) h
  standing_still f g (plan.Moment (plan.To_take_out (plan.To_evict_chosen stamp cause) key) ∷
      []) same h =
      subst (λ o. IsSomeAnd o (λ pair. pair.1.stamp ≡ stamp)) (sym (same key refl)) h
  standing_still f g (plan.Out (plan.To_evict_chosen stamp cause) key ∷ []) same h =
      subst (λ o. IsSomeAnd o (λ pair. pair.1.stamp ≡ stamp)) (sym (same key refl)) h
  standing_still f g [] same h = absurd h
  standing_still f g (_ ∷ rest) same h = absurd h

  stands_still : (f g : Map K V) (p : List (Item K V E)) → ((k : K) → locked_key p ≡ Some k → g k ≡ f k) →
      Stands f p → Stands g p
  stands_still f g p same (inl h) = inl h
  stands_still f g p same (inr h) = inr (standing_still f g p same h)

-- ---- fresh calls

module _ {K V E : Type 0} where
  form_calm : (rules : Rules) (p : List (Item K V E)) → IsFresh rules p → weigh chosen p ≡ 0
  form_calm rules p (Takes_out (plan.To_evict_chosen stamp cause) key off started) = absurd started
  form_calm rules p (Locks_and_takes_out (plan.To_evict_chosen stamp cause) key on started) =
      absurd started
  form_calm rules p (Walks_over parts able) = weigh_walk chosen (record { list = λ part. refl; find = λ key. refl; scan = λ there stored. refl; end = refl; choose = λ parts. refl; strike = λ there stored. refl; retire = refl }) p (walk_is_walk 0 parts)
  form_calm rules p _ = refl

-- ---- of a state

module _ {K V E : Type 0} (eq : K → K → Bool) (laws : IsEquivalence eq) where
  record IsStanding (s : State K V E) : Type 0 where
    sound : IsSound eq s
    stands : s.world.desk.rules.listener ≡ true → (n : ℕ) (c : Call K V E) → s.calls n ≡ Some c →
        Stands s.world.table.stored c.plan

  module _ (s : State K V E) (i : IsStanding s) (on : s.world.desk.rules.listener ≡ true) where
    -- the plan of a call is inside the lock that it holds
    inside_own : (n : ℕ) (c : Call K V E) → s.calls n ≡ Some c → (own : K) → locked_key c.plan ≡
        Some own → Inside own c.plan
    inside_own n c live own e =
        let l : IsLocking s = i.sound.well.replacing.locking in
        subst (λ v. Inside own (plan_left v)) live
        ((l.locks n).inside on own (key_locked s l n c own on live e))

    own_step : (t : State K V E) (n : ℕ) (turn : Turn K V E) → Step eq s n turn t → (c : Call K V E) →
        t.calls n ≡ Some c → Stands t.world.table.stored c.plan
    own_step t n turn step =
        step_cases eq (λ new next. StandsIf new.table.stored next.left)
        (λ v _. (c : Call K V E) → v.calls n ≡ Some c →
        Stands v.world.table.stored c.plan) s t n turn step
        (on_plan eq s.world n step.call step.call.plan refl (inside_own n step.call step.live)
        (i.stands on n step.call step.live))
        (λ w next l c live. subst (StandsIf w.table.stored)
        (sym (put_here s.calls n next.left) ∙ live) l)

    -- another call changes nothing under a key that this one has locked
    other_step : (t : State K V E) (m n : ℕ) (turn : Turn K V E) → (m == n) ≡ false →
        Step eq s m turn t → (c : Call K V E) → s.calls n ≡ Some c →
        Stands t.world.table.stored c.plan
    other_step t m n turn apart step c live =
        stands_still s.world.table.stored t.world.table.stored c.plan
        (λ k e. ap (λ (v : State K V E). v.world.table.stored k) step.after ∙
        access_leaves eq m s.world step.world (access_of m step.call) step.given step.gets k
        (λ h. never k e h)) (i.stands on n c live)
      where
        l : IsLocking s
        l = i.sound.well.replacing.locking

        never : (k : K) → locked_key c.plan ≡ Some k → Changes eq (access_of m step.call) k → ⊥
        never k e h =
            let d : Call K V E = step.call in
            let g = plan_changes eq m d.rules d.mode d.plan d.aborts d.carried k h in
            differ_not m n apart
            (one_lock eq s.world.desk i.sound.sound m n g.0 k
            (key_locked s l m d g.0 on step.live g.1) (key_locked s l n c k on live e) g.2)

  standing_step : (s t : State K V E) (n : ℕ) (turn : Turn K V E) → IsStanding s → Step eq s n turn t →
      IsStanding t
  standing_step s t n turn i step = record {
    sound = (sound_kept eq laws).step s t n turn i.sound step;
    stands = λ on m c live. by (ap (λ (v : Rules). v.listener)
        (sym (step_rules eq s t n turn step)) ∙ on) m c live (n == m) refl;
  }
    where
      by : s.world.desk.rules.listener ≡ true → (m : ℕ) (c : Call K V E) → t.calls m ≡ Some c →
          (b : Bool) → (n == m) ≡ b → Stands t.world.table.stored c.plan
      by on m c live true e = own_step s i on t n turn step c (ap t.calls (eqb-true n m e) ∙ live)
      by on m c live false e = other_step s i on t n m turn e step c
          (sym (step_calls eq s t n m turn e step) ∙ live)

  standing_kept : IsInvariant eq IsStanding
  standing_kept = record {
    fresh = λ division divides rules size built has_log. record {
      sound = (sound_kept eq laws).fresh division divides rules size built has_log;
      stands = λ on n c live. absurd (none_some live);
    };
    at = λ s moment i. record {
      sound = (sound_kept eq laws).at s moment i.sound;
      stands =
          i.stands;
    };
    start = λ s start i. record {
      sound = (sound_kept eq laws).start s start i.sound;
      stands = λ on n c live.
          put_cases s.calls (s.world.desk.last + 1) (Some (fresh_call s.world.table.division.parts s.world.desk.rules start)) n
          (Some c) (Stands s.world.table.stored c.plan) live
          (λ here is. subst (StandsIf s.world.table.stored) is
          (inl (form_calm s.world.desk.rules _ (fresh_plan s.world.table.division.parts s.world.desk.rules start)))) (λ there is. i.stands on n c is);
    };
    step = standing_step;
    tell = λ s n given asked i. record {
      sound = (sound_kept eq laws).tell s n given asked i.sound;
      stands = i.stands;
    };
    hear = λ s n off running i. record {
      sound = (sound_kept eq laws).hear s n off running i.sound;
      stands = i.stands;
    };
    drop = λ s n c live between i. record {
      sound = (sound_kept eq laws).drop s n c live between i.sound;
      stands = λ on m d lives.
          put_cases s.calls n None m (Some d) (Stands s.world.table.stored d.plan) lives
          (λ here is. absurd (none_some is)) (λ there is. i.stands on m d is);
    };
  }

  pub chosen_stands : ChosenStands K V E eq
  chosen_stands s n c key stamp cause rest h on live e =
      let i : IsStanding s = in_reached eq IsStanding standing_kept s h in
      by rest (subst (Stands s.world.table.stored) e (i.stands on n c live))
    where
      by : (rest : List (Item K V E)) → Stands s.world.table.stored
          (plan.Out (plan.To_evict_chosen stamp cause) key ∷ rest) →
          At s.world.table.stored key stamp
      by rest (inl q) = absurd (omega (arith, q))
      by [] (inr k) = k
      by (x ∷ rest) (inr k) = absurd k
