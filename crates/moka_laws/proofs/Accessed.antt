-- No moment of a record is after the clock.
use Rattle.std.proofs.Common.{◌≡◌, ℕ, ◌+◌, ◌≤◌, ◌==◌, max, Bool, true, false, cond, ◌&&◌, List, [], ◌∷◌, Option, Some, None, unwrap_or, refl, sym, ap, ◌∙◌, subst, arith, map, ◌++◌}
use Rattle.std.proofs.lemmas.Bool.Decides.{nat_tests}
use Rattle.moka_hist.specs.State.{State, World, Call, DeskPart, TablePart, fresh}
use Rattle.moka_hist.specs.Plan.{Item, Aim, plan_of, lists_from}
use Rattle.moka_hist.specs.Plan as plan
use Rattle.moka_hist.specs.Next.{Next, goes}
use Rattle.moka_hist.specs.Looking.{finds_pair, hits, misses, keeps}
use Rattle.moka_hist.specs.Loading.{after_read, after_told}
use Rattle.moka_hist.specs.Computing.{after_told_op}
use Rattle.moka_hist.specs.Writing.{said}
use Rattle.moka_hist.specs.Step.{Access, On_desk, On_table, Gets, Step, access_for, access_of, replace_of}
use Rattle.moka_hist.specs.Tables.{Operates, by_pair, removed, taken_by, written, begun}
use Rattle.moka_hist.specs.Visits.{accessed_at, is_seen, judged}
use Rattle.moka_hist.specs.Run.{IsReached, fresh_call}
use Rattle.moka_hist.specs.declared.accesses.Got.{Got}
use Rattle.moka_hist.specs.declared.accesses.Got.TheVariants as got
use Rattle.moka_hist.specs.declared.accesses.Turn.{Turn}
use Rattle.moka_hist.specs.declared.events.Told.{Told}
use Rattle.moka_hist.specs.declared.events.Told.TheVariants as told
use Rattle.moka_hist.specs.declared.loads.Compute.{Compute}
use Rattle.moka_hist.specs.declared.loads.Load.{Load}
use Rattle.moka_hist.specs.declared.loads.Sought.{Sought}
use Rattle.moka_hist.specs.declared.records.Mode.{Mode}
use Rattle.moka_hist.specs.declared.records.Stored.{Stored}
use Rattle.moka_hist.specs.declared.replies.Answer.{Answer}
use Rattle.moka_hist.specs.declared.rules.Rules.{Rules}
use Rattle.moka_hist.specs.declared.tables.TableAnswer.{TableAnswer}
use Rattle.moka_hist.specs.declared.tables.TableOp.{TableOp}
use Rattle.moka_hist.specs.declared.tables.TableOp.TheVariants as op
use Rattle.moka_hist.specs.declared.tables.TableTurn.TheVariants as table
use Rattle.moka_hist.specs.declared.visits.Found.TheVariants as found
use Rattle.moka_hist.specs.declared.visits.Settled.{Settled}
use Rattle.moka_hist.specs.declared.visits.Settled.TheVariants as settled
use Rattle.moka_hist.specs.declared.visits.Visit.{Visit}
use Rattle.moka_hist.specs.declared.visits.Visit.TheVariants as visit
use Rattle.moka_laws.specs.Moments.{AccessesAreInTime, AccessesAreSeen, accessed_in, sees_next}
use Rattle.moka_laws.proofs.Counting.{none_some, put_cases, some_same}
use Rattle.moka_laws.proofs.Following.{IsFollowed, follow}
use Rattle.moka_laws.proofs.Outcomes.{Outcomes, outcomes, passes_on}
use Rattle.moka_laws.proofs.Owning.{plan_left}
use Rattle.moka_laws.proofs.Rules.{IsFresh, Computes, Computes_alone, Disabled, Evicts, Locks_and_puts, Locks_and_takes_out, Puts, abort_next, chosen_next, fresh_plan, kept_next, loaded_plans, put_plans, read_key_next, told_op_next, Registers, Walks_over, Maintains}
use Rattle.moka_laws.proofs.Stamps.{key_cases}
use Rattle.moka_laws.proofs.StepCases.{OnStep, step_cases}
use Rattle.moka_laws.proofs.Steady.{SameBase, accessed_after, accessed_by, step_base, valid_from}
use Rattle.moka_laws.proofs.Walks.{Ends, Finds, IsWalk, Lists, Scans, walk_is_walk, Chooses, Retires, Strikes, retiring_walk}
use Rattle.moka_hist.specs.Maintenance.{carrying}

-- a moment that is not after the clock is not after a later one
later : (a k l : ℕ) → a ≤ k → k ≤ l → a ≤ l
later a k l h g = omega (arith, h, g)

-- what is stored was written at the moment or before
abbrev StoredTimely : {K V : Type 0} → ℕ → TablePart K V → Type 0
StoredTimely {K} {V} k t = (q : K) (p : K × Stored V) → t.stored q ≡ Some p → p.1.modified ≤ k

module _ {K V E : Type 0} where
  -- ---- plans

  -- the moment of a record that the item has, or is to write, is not after this one
  abbrev Timely : ℕ → Item K V E → Type 0
  Timely k (plan.Judge aim key stored) = stored.modified ≤ k
  Timely k (plan.Write key value moment) = moment ≤ k
  Timely k _ = Unit {0}

  abbrev AllTimely : ℕ → List (Item K V E) → Type 0
  AllTimely k [] = Unit {0}
  AllTimely k (item ∷ rest) = Timely k item × AllTimely k rest

  timely_on : (k l : ℕ) → k ≤ l → (p : List (Item K V E)) → AllTimely k p → AllTimely l p
  timely_on k l h [] q = tt
  timely_on k l h (plan.Judge aim key stored ∷ rest) q =
      (later stored.modified k l q.0 h, timely_on k l h rest q.1)
  timely_on k l h (plan.Write key value moment ∷ rest) q =
      (later moment k l q.0 h, timely_on k l h rest q.1)
  timely_on k l h (_ ∷ rest) q = (tt, timely_on k l h rest q.1)

  keys_timely : (k : ℕ) (keys : List K) (rest : List (Item K V E)) → AllTimely k rest → AllTimely k (map plan.Find keys ++ rest)
  keys_timely k [] rest q = q
  keys_timely k (key ∷ keys) rest q = (tt, keys_timely k keys rest q)

  walk_timely : (k : ℕ) (p : List (Item K V E)) → IsWalk p → AllTimely k p
  walk_timely k p Ends = (tt, tt)
  walk_timely k p Retires = (tt, tt)
  walk_timely k p (Chooses parts) = (tt, tt)
  walk_timely k p (Strikes there stored rest walk) = (tt, walk_timely k rest walk)
  walk_timely k p (Lists part rest walk) = (tt, walk_timely k rest walk)
  walk_timely k p (Finds key rest walk) = (tt, walk_timely k rest walk)
  walk_timely k p (Scans there stored rest walk) = (tt, walk_timely k rest walk)

  fresh_timely : (k : ℕ) (rules : Rules) (p : List (Item K V E)) → IsFresh rules p → AllTimely k p
  fresh_timely k rules p (Disabled a d once) = (tt, tt)
  fresh_timely k rules p (Computes compute one) = (tt, tt)
  fresh_timely k rules p (Computes_alone key) = (tt, tt)
  fresh_timely k rules p (Puts key value d off) = (tt, (tt, (tt, tt)))
  fresh_timely k rules p (Locks_and_puts key value d on) = (tt, (tt, (tt, (tt, tt))))
  fresh_timely k rules p (Locks_and_takes_out removal key on named) = (tt, (tt, (tt, tt)))
  fresh_timely k rules p (Evicts key stamp cause off) = (tt, tt)
  fresh_timely k rules p (Registers test) = (tt, tt)
  fresh_timely k rules p (Walks_over parts able) = walk_timely k p (walk_is_walk 0 parts)
  fresh_timely k rules p (Maintains parts able) = (tt, (tt, (tt, (tt, (tt, tt)))))
  fresh_timely k rules p _ = (tt, (tt, tt))

  module _ (k : ℕ) where
    abbrev Next_timely : Next K V E → Type 0
    Next_timely next = AllTimely k (plan_left next.left)

    goes_timely : (c : Call K V E) (rest : List (Item K V E)) → AllTimely k rest →
        Next_timely (goes c rest)
    goes_timely c (plan.Reply a ∷ []) q = tt
    goes_timely c _ q = q

    keeps_timely : (c : Call K V E) → Next_timely (keeps c)
    keeps_timely c = kept_next Next_timely c (λ off. tt) (λ on. (tt, (tt, tt)))

    misses_timely : (c : Call K V E) (aim : Aim K V) → Next_timely (misses c aim)
    misses_timely c (plan.To_show form) = tt
    misses_timely c (plan.To_insert there value) =
        put_plans (λ p. Next_timely (goes c p)) c.rules there value _
        (tt, (tt, (tt, tt))) (tt, (tt, (tt, (tt, tt))))
    misses_timely c (plan.To_evict there stamp cause) = keeps_timely c
    misses_timely c _ = (tt, tt)

    finds_timely : (c : Call K V E) (aim : Aim K V) (there : K) (stored : Stored V) →
        stored.modified ≤ k → Next_timely (finds_pair c aim there stored)
    finds_timely c (plan.To_evict key stamp cause) there stored h =
        chosen_next Next_timely c key stamp cause there stored (λ off. tt)
        (λ on. (tt, (tt, tt))) (tt, tt)
    finds_timely c _ there stored h = (h, tt)

    hits_timely : (c : Call K V E) (aim : Aim K V) (there : K) (value : V) → AllTimely k c.plan →
        Next_timely (hits c aim there value)
    hits_timely c (plan.To_own sought) there value p = (tt, (tt, tt))
    hits_timely c (plan.To_compute compute) there value p = (tt, tt)
    hits_timely c (plan.To_evict key stamp cause) there value p = p
    hits_timely c _ there value p = tt

    read_timely : (c : Call K V E) (sought : Sought K) (with : Settled V E) → AllTimely k c.plan →
        Next_timely (after_read c sought (found.ReadSettled with))
    read_timely c sought settled.NotYet p = p
    read_timely c sought settled.Aborted p = abort_next Next_timely c sought tt (tt, tt)
    read_timely c sought _ p = tt

    told_timely : (c : Call K V E) (load : Load K) (given : Told V E) → AllTimely k c.plan →
        Next_timely (after_told c load (found.TakeTold (Some given)))
    told_timely c load (told.Value value) p =
        loaded_plans (λ q. Next_timely (goes c q)) c.rules load value
        (tt, (tt, tt)) (tt, (tt, (tt, (tt, tt)))) (tt, (tt, (tt, (tt, (tt, tt)))))
    told_timely c load told.Nothing p = (tt, (tt, tt))
    told_timely c load (told.Err error) p = (tt, (tt, tt))
    told_timely c load _ p = p

    told_op_timely : (c : Call K V E) (compute : Compute K) (pair : Option (K × V))
        (given : Told V E) → AllTimely k c.plan →
        Next_timely (after_told_op c compute pair (found.TakeTold (Some given)))
    told_op_timely c compute pair given p = told_op_next Next_timely c compute pair given
        (λ a. (tt, (tt, tt)))
        (λ value able off. (tt, (tt, (tt, (tt, tt)))))
        (λ value able on. (tt, (tt, (tt, (tt, (tt, tt))))))
        (λ off. (tt, (tt, tt)))
        (λ on. (tt, (tt, (tt, tt))))
        p

    said_timely : (removal : plan.Removal K) (a : Answer K V E) → AllTimely k (said removal a)
    said_timely (plan.To_remove_as_told own) a = (tt, (tt, tt))
    said_timely _ a = (tt, tt)

  module _ (eq : K → K → Bool) (w : World K V E) (n : ℕ) (c : Call K V E)
      (stored : StoredTimely w.desk.clock w.table) (p : AllTimely w.desk.clock c.plan) where
    abbrev Leaves : World K V E → Next K V E → Type 0
    Leaves new next = Next_timely w.desk.clock next

    on_item : (item : Item K V E) (rest : List (Item K V E)) →
        AllTimely w.desk.clock (item ∷ rest) → Outcomes eq Leaves w n c item rest
    on_item plan.Drain rest q = (
      λ e. goes_timely _ c rest q.1,
      λ x xs e. (tt, q),
      λ x number xs e. (tt, (tt, q)),
    )
    on_item (plan.Notice key old cause upsert) rest q =
        (λ e. goes_timely _ c rest q.1, λ e. (tt, q.1))
    on_item (plan.Post write) rest q = (λ e. goes_timely _ c rest q.1, λ e. (tt, (tt, (tt, q))))
    on_item plan.Apply rest q = (λ e. goes_timely _ c rest q.1, λ x xs e. q)
    on_item (plan.Get aim key) rest q = (
      λ more. p,
      λ none. misses_timely _ c aim,
      λ there found some. finds_timely _ c aim there found (stored key (there, found) some),
    )
    on_item (plan.Judge aim key found) rest q =
        (λ seen. hits_timely _ c aim key found.value p, λ unseen. misses_timely _ c aim)
    on_item (plan.Own sought) rest q =
        (λ able none. (tt, tt), λ disabled none. (tt, tt), λ owner some. (tt, tt))
    on_item (plan.Own_key compute) rest q =
        ((λ able none. (tt, (tt, tt)), λ not none. (tt, (tt, tt))), λ owner some. (tt, tt))
    on_item (plan.Own_alone key) rest q = (
      (λ able none. (tt, (tt, tt)), λ not none. (tt, (tt, tt))),
      λ owner some. (λ able. (tt, (tt, tt)), λ not. (tt, (tt, tt))),
    )
    on_item (plan.Read sought) rest q = (λ none. p, λ with some. read_timely _ c sought with p)
    on_item (plan.Read_key compute) rest q = (
      λ none. p,
      λ with some. read_key_next (Next_timely w.desk.clock) c compute with p (tt, tt),
    )
    on_item (plan.Ask load) rest q = (tt, tt)
    on_item (plan.Ask_op compute pair) rest q = (tt, tt)
    on_item (plan.Told load) rest q = (λ none. p, λ given some. told_timely _ c load given p)
    on_item (plan.Told_op compute pair) rest q =
        (λ none. p, λ given some. told_op_timely _ c compute pair given p)
    on_item (plan.Holds key stamp cause there found) rest q =
        (λ e. (tt, tt), λ e. keeps_timely _ c)
    on_item (plan.Moment (plan.To_store key value)) rest q = (omega arith, q.1)
    on_item (plan.Moment (plan.To_take_out removal key)) rest q = (tt, q.1)
    on_item (plan.Write key value moment) rest q = (
      λ more. p,
      λ off old. (tt, q.1),
      λ on. (tt, (tt, q.1)),
      λ there old on some. (tt, (tt, (tt, q.1))),
    )
    on_item (plan.Out removal key) rest q = (
      λ more. p,
      λ off none. (tt, said_timely _ removal _),
      λ on none. (tt, said_timely _ removal _),
      λ there old off some. (tt, said_timely _ removal _),
      λ there old on some. (tt, (tt, (tt, said_timely _ removal _))),
    )
    on_item (plan.List_keys part) rest q = (
      λ more. p,
      λ listed keys is gives. goes_timely _ c (map plan.Find keys ++ rest) (keys_timely _ keys rest q.1),
    )
    on_item (plan.Find key) rest q = (
      λ more. p,
      λ none. goes_timely _ c rest q.1,
      λ there stored some none. (tt, q.1),
      λ there stored ids some is. (tt, q.1),
    )
    on_item (plan.Scan there stored) rest q = (λ seen. q.1, λ unseen. goes_timely _ c rest q.1)
    on_item (plan.Register test) rest q = tt
    on_item (plan.Candidates parts) rest q = (
      λ none. tt,
      λ id more some. goes_timely _ (carrying c (id ∷ more)) (lists_from 0 parts (plan.Retire ∷ [])) (walk_timely _ _ (retiring_walk parts)),
    )
    on_item (plan.Strike there stored) rest q = goes_timely _ (carrying c _) rest q.1
    on_item plan.Retire rest q = tt
    on_item (plan.Reply a) rest q = tt
    on_item item rest q = passes_on eq Leaves w n c item rest tt (λ d. goes_timely _ c rest q.1) p

    on_plan : (q : List (Item K V E)) → c.plan ≡ q → OnStep eq Leaves w n c q
    on_plan [] e = p
    on_plan (item ∷ rest) e = outcomes eq Leaves w n c item rest
        (on_item item rest (subst (AllTimely w.desk.clock) e p))

-- ---- what is stored, and when it was accessed

module _ {K V E : Type 0} where
  -- the access writes no record of a later moment, and judges none
  abbrev Needs : ℕ → Access K V E → Type 0
  Needs k (On_table (op.InsertOrModify key stored)) = stored.modified ≤ k
  Needs k (On_table (op.InsertIfAbsent key stored)) = stored.modified ≤ k
  Needs k (On_desk (visit.Judge replace key stored)) = stored.modified ≤ k
  Needs k _ = Unit {0}

  item_needs : (k n : ℕ) (ids : Option (List (ℕ × ℕ))) (item : Item K V E) → Timely k item → Needs k (access_for n ids item)
  item_needs k n ids (plan.Judge aim key stored) h = h
  item_needs k n ids (plan.Write key value moment) h = h
  item_needs k n ids _ h = tt

  plan_needs : (k n : ℕ) (rules : Rules) (mode : Mode) (p : List (Item K V E)) (aborts : ℕ)
      (ids : Option (List (ℕ × ℕ))) → AllTimely k p →
      Needs k (access_of n (record { rules = rules; mode = mode; plan = p; aborts = aborts; carried = ids }))
  plan_needs k n rules mode [] aborts ids q = tt
  plan_needs k n rules mode (item ∷ rest) aborts ids q = item_needs k n ids item q.0

module _ {K V : Type 0} (eq : K → K → Bool) (k n : ℕ) (t : TablePart K V) where
  written_timely : StoredTimely k t → (key : K) (stored : Stored V) → stored.modified ≤ k →
      StoredTimely k (written eq n t key stored)
  written_timely i key stored h q p e =
      key_cases eq t.stored key (Some (key, stored)) q p (p.1.modified ≤ k) e
      (λ here is. subst (λ (v : K × Stored V). v.1.modified ≤ k) (some_same is) h)
      (λ there is. i q p is)

  removed_timely : StoredTimely k t → (key : K) → StoredTimely k (removed eq n t key)
  removed_timely i key q p e = key_cases eq t.stored key None q p (p.1.modified ≤ k) e
      (λ here is. absurd (none_some is)) (λ there is. i q p is)

  either_timely : (o : Option (K × Stored V)) (a b : TablePart K V) → StoredTimely k a → StoredTimely k b →
      StoredTimely k (by_pair o a b)
  either_timely None a b i j = j
  either_timely (Some pair) a b i j = i

module _ {K V E : Type 0} where
  -- each access was not after the clock
  abbrev AccessedTimely : DeskPart K V E → Type 0
  AccessedTimely d = (stamp m : ℕ) → d.accessed stamp ≡ Some m → m ≤ d.clock

  in_time : (d : DeskPart K V E) (stamp modified : ℕ) → modified ≤ d.clock → AccessedTimely d →
      accessed_at d stamp modified ≤ d.clock
  in_time d stamp modified h i = by (d.accessed stamp) refl
    where
      by : (o : Option ℕ) → d.accessed stamp ≡ o →
          max modified (unwrap_or o modified) ≤ d.clock
      by None e = omega (arith, h)
      by (Some m) e = omega (arith, h, i stamp m e)

  judged_timely : (d : DeskPart K V E) (at modified : ℕ) (seen : Bool) → modified ≤ d.clock →
      AccessedTimely d → (stamp m : ℕ) → (judged d at modified seen).accessed stamp ≡ Some m →
      m ≤ d.clock
  judged_timely d at modified false h i stamp m e = i stamp m e
  judged_timely d at modified true h i stamp m e = by (at == stamp) e
    where
      by : (b : Bool) →
          cond b (Some (max (accessed_at d at modified) d.clock)) (d.accessed stamp) ≡ Some m →
          m ≤ d.clock
      by true e = omega (arith, in_time d at modified h i, some_same e)
      by false e = i stamp m e

  visit_timely : (d : DeskPart K V E) (made : Visit K V E) → Needs d.clock (On_desk made) →
      AccessedTimely d → (stamp m : ℕ) → accessed_by d made stamp ≡ Some m → m ≤ d.clock
  visit_timely d (visit.Judge replace key stored) h i stamp m e =
      judged_timely d stored.stamp stored.modified (is_seen d replace key stored) h i stamp m e
  visit_timely d _ h i stamp m e = i stamp m e

  access_timely : (w : World K V E) (a : Access K V E) → Needs w.desk.clock a →
      AccessedTimely w.desk → (stamp m : ℕ) → accessed_after w a stamp ≡ Some m → m ≤ w.desk.clock
  access_timely w (On_table operation) h i stamp m e = i stamp m e
  access_timely w (On_desk made) h i stamp m e = visit_timely w.desk made h i stamp m e

module _ {K V : Type 0} (eq : K → K → Bool) where
  operation_timely : (E : Type 0) (k n : ℕ) (t : TablePart K V) (o : TableOp K V) (answer : TableAnswer K V)
      (new : TablePart K V) → Operates eq n t o answer new → Needs {E = E} k (On_table o) →
      StoredTimely k t → StoredTimely k new
  operation_timely E k n t (op.Get key) answer new h f i = subst (StoredTimely k) (sym h.1) i
  operation_timely E k n t (op.InsertOrModify key stored) answer new h f i =
      subst (StoredTimely k) (sym h.1) (written_timely eq k n t i key stored f)
  operation_timely E k n t (op.InsertIfAbsent key stored) answer new h f i =
      subst (StoredTimely k) (sym h.1)
      (either_timely eq k n t (t.stored key) t (written eq n t key stored) i
      (written_timely eq k n t i key stored f))
  operation_timely E k n t (op.Keys part) answer new h f i = subst (StoredTimely k) (sym h.5) i
  operation_timely E k n t (op.RemoveIf key stamp) answer new h f i =
      subst (StoredTimely k) (sym h.1)
      (either_timely eq k n t (taken_by stamp (t.stored key)) (removed eq n t key) t
      (removed_timely eq k n t i key) i)

module _ {K V E : Type 0} (eq : K → K → Bool) where
  table_timely : (k n : ℕ) (w new : World K V E) (a : Access K V E) (g : Got K V E) →
      Gets eq n w a g new → Needs k a → StoredTimely k w.table → StoredTimely k new.table
  table_timely k n w new (On_table o) (got.Table table.Going) gets f i =
      subst (λ (v : World K V E). StoredTimely k v.table) (sym gets.1) i
  table_timely k n w new (On_table o) (got.Table (table.Decided answer)) gets f i =
      subst (λ (v : World K V E). StoredTimely k v.table) (sym gets.2)
      (operation_timely eq E k n (begun w.table n o) o answer gets.0 gets.1 f i)
  table_timely k n w new (On_desk made) (got.Desk g) gets f i =
      subst (λ (v : World K V E). StoredTimely k v.table) (sym gets.1) i
  table_timely k n w new (On_table o) (got.Desk g) gets f i = absurd gets
  table_timely k n w new (On_desk made) (got.Table turn) gets f i = absurd gets

  -- ---- of a state

  -- no moment of a record that is stored, on its way or accessed is after the clock
  record IsTimely (s : State K V E) : Type 0 where
    stored : StoredTimely s.world.desk.clock s.world.table
    accessed : AccessedTimely s.world.desk
    plans : (n : ℕ) (c : Call K V E) → s.calls n ≡ Some c → AllTimely s.world.desk.clock c.plan

  timely_step : (s t : State K V E) (n : ℕ) (turn : Turn K V E) → IsTimely s →
      Step eq s n turn t → IsTimely t
  timely_step s t n turn i step = record {
    stored = λ q p e. subst (λ v. p.1.modified ≤ v) (sym base.clock)
        (subst (λ (v : State K V E). StoredTimely s.world.desk.clock v.world.table) (sym step.after)
        (table_timely s.world.desk.clock n s.world step.world (access_of n step.call) step.given
        step.gets needs i.stored) q p e);
    accessed = λ stamp m e. subst (λ v. m ≤ v) (sym base.clock)
        (access_timely s.world (access_of n step.call) needs i.accessed stamp m
        (sym (ap (λ f. f stamp) base.accessed) ∙ e));
    plans = λ m c live. subst (λ v. AllTimely v c.plan) (sym base.clock) (left m c live);
  }
    where
      base : SameBase (accessed_after s.world (access_of n step.call))
          (valid_from s.world (access_of n step.call)) s.world.desk t.world.desk
      base = step_base eq s t n turn step

      needs : Needs s.world.desk.clock (access_of n step.call)
      needs = plan_needs s.world.desk.clock n step.call.rules step.call.mode step.call.plan
          step.call.aborts step.call.carried (i.plans n step.call step.live)

      left : (m : ℕ) (c : Call K V E) → t.calls m ≡ Some c → AllTimely s.world.desk.clock c.plan
      left = step_cases eq (λ new next. AllTimely s.world.desk.clock (plan_left next.left))
          (λ v r. (m : ℕ) (c : Call K V E) → v.calls m ≡ Some c →
          AllTimely s.world.desk.clock c.plan) s t n turn step
          (on_plan eq s.world n step.call i.stored (i.plans n step.call step.live) step.call.plan refl)
          (λ w next q m c live. put_cases s.calls n next.left m (Some c)
          (AllTimely s.world.desk.clock c.plan) live
          (λ here is. subst (λ v. AllTimely s.world.desk.clock (plan_left v)) is q)
          (λ there is. i.plans m c is))

  timely_followed : IsFollowed eq IsTimely
  timely_followed = record {
    at = λ s moment fits led i.
        let on : s.world.desk.clock ≤ moment = grind (arith, nat_tests, fits) in
        record {
          stored = λ q p e. later p.1.modified s.world.desk.clock moment (i.stored q p e) on;
          accessed = λ stamp m e. later m s.world.desk.clock moment (i.accessed stamp m e) on;
          plans = λ n c live. timely_on s.world.desk.clock moment on c.plan (i.plans n c live);
        };
    start = λ s begin fits led i. record {
      stored = i.stored;
      accessed = i.accessed;
      plans = λ n c live. put_cases s.calls (s.world.desk.last + 1)
          (Some (fresh_call s.world.table.division.parts s.world.desk.rules begin)) n (Some c)
          (AllTimely s.world.desk.clock c.plan) live
          (λ here is. subst (λ v. AllTimely s.world.desk.clock (plan_left v)) is
          (fresh_timely s.world.desk.clock s.world.desk.rules _
          (fresh_plan s.world.table.division.parts s.world.desk.rules begin)))
          (λ there is. i.plans n c is);
    };
    step = λ s t n turn led i step. timely_step s t n turn i step;
    tell = λ s n given asked led i.
        record { stored = i.stored; accessed = i.accessed; plans = i.plans };
    hear = λ s n off running led i.
        record { stored = i.stored; accessed = i.accessed; plans = i.plans };
    drop = λ s n c live between led i. record {
      stored = i.stored;
      accessed = i.accessed;
      plans = λ m b lives. put_cases s.calls n None m (Some b)
          (AllTimely s.world.desk.clock b.plan) lives
          (λ here is. absurd (none_some is)) (λ there is. i.plans m b is);
    };
  }

  in_timely : (s : State K V E) → IsReached eq s → IsTimely s
  in_timely s h = follow eq IsTimely timely_followed (fresh K V E h.division h.rules h.size h.handed) s
      h.events h.replies (record {
        stored = λ q p e. absurd (none_some e);
        accessed = λ stamp m e. absurd (none_some e);
        plans = λ n c live. absurd (none_some live);
      }) h.run

  pub in_time_accessed : AccessesAreInTime K V E eq
  in_time_accessed s key there stored h e =
      let i : IsTimely s = in_timely s h in (
        omega arith,
        in_time s.world.desk stored.stamp stored.modified (i.stored key (there, stored) e) i.accessed,
      )

  -- what is kept of accesses after a step with this plan
  abbrev kept_by : DeskPart K V E → List (Item K V E) → ℕ → Option ℕ
  kept_by d (plan.Judge aim there stored ∷ rest) =
      (judged d stored.stamp stored.modified (is_seen d (replace_of aim) there stored)).accessed
  kept_by d _ = d.accessed

  kept_so : (w : World K V E) (n : ℕ) (rules : Rules) (mode : Mode) (p : List (Item K V E))
      (aborts : ℕ) (ids : Option (List (ℕ × ℕ))) →
      accessed_after w (access_of n (record { rules = rules; mode = mode; plan = p; aborts = aborts; carried = ids }))
      ≡ kept_by w.desk p
  kept_so w n rules mode [] aborts ids = refl
  kept_so w n rules mode (plan.Judge aim there stored ∷ rest) aborts ids = refl
  kept_so w n rules mode (_ ∷ rest) aborts ids = refl

  -- what is kept of a stamp once a record of the same stamp, or of another, was judged
  abbrev kept_now : DeskPart K V E → ℕ → ℕ → ℕ → Bool → Bool → Option ℕ
  kept_now d at modified stamp seen same = cond seen
      (cond same (Some (max (accessed_at d at modified) d.clock)) (d.accessed stamp))
      (d.accessed stamp)

  raised : (d : DeskPart K V E) (p : List (Item K V E)) (stamp modified : ℕ) → AccessedTimely d →
      AllTimely d.clock p → modified ≤ d.clock →
      max modified (unwrap_or (kept_by d p stamp) modified) ≡
      cond (sees_next d p stamp) d.clock (accessed_at d stamp modified)
  raised d [] stamp modified i q h = refl
  raised d (plan.Judge aim there stored ∷ rest) stamp modified i q h =
      by (is_seen d (replace_of aim) there stored) (stored.stamp == stamp) refl
    where
      kept : (seen : Bool) →
          (judged d stored.stamp stored.modified seen).accessed stamp ≡
          kept_now d stored.stamp stored.modified stamp seen (stored.stamp == stamp)
      kept true = refl
      kept false = refl

      by : (seen b : Bool) → (stored.stamp == stamp) ≡ b →
          max modified (unwrap_or ((judged d stored.stamp stored.modified seen).accessed stamp)
          modified) ≡
          cond ((stored.stamp == stamp) && seen) d.clock (accessed_at d stamp modified)
      by seen b is = ap (λ o. max modified (unwrap_or o modified))
          (kept seen ∙ ap (kept_now d stored.stamp stored.modified stamp seen) is) ∙ so seen b ∙
          ap (λ v. cond (v && seen) d.clock (accessed_at d stamp modified)) (sym is)
        where
          so : (seen b : Bool) → max modified (unwrap_or
              (kept_now d stored.stamp stored.modified stamp seen b) modified) ≡
              cond (b && seen) d.clock (accessed_at d stamp modified)
          so true true = omega (
            arith,
            in_time d stored.stamp stored.modified q.0 i,
            h,
          )
          so true false = refl
          so false true = refl
          so false false = refl
  raised d (_ ∷ rest) stamp modified i q h = refl

  pub accesses_seen : AccessesAreSeen K V E eq
  accesses_seen s t n c reply key there stored h live step e =
      let i : IsTimely s = in_timely s h in
      let is : step.call ≡ c = some_same (sym step.live ∙ live) in
      subst (λ (b : Call K V E). accessed_in t stored ≡ cond
      (sees_next s.world.desk b.plan stored.stamp) s.world.desk.clock (accessed_in s stored)) is
      (ap (λ f. max stored.modified (unwrap_or (f stored.stamp) stored.modified))
      ((step_base eq s t n reply step).accessed ∙ kept_so s.world n step.call.rules step.call.mode
      step.call.plan step.call.aborts step.call.carried) ∙
      raised s.world.desk step.call.plan stored.stamp stored.modified i.accessed
      (i.plans n step.call step.live) (i.stored key (there, stored) e))
