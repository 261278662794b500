-- A disabled cache stores nothing.
use Rattle.std.proofs.Common.{◌≡◌, ℕ, ◌+◌, Bool, true, List, [], ◌∷◌, map, Option, Some, None, is_some, inr, refl, sym, ap, ◌∙◌, subst, arith, ◌++◌}
use Rattle.std.proofs.lemmas.Bool.{false≢true}
use Rattle.std.specs.Prelude.{Contains}
use Rattle.moka_hist.specs.Finite.{times}
use Rattle.moka_hist.specs.State.{State, World, Call, TablePart}
use Rattle.moka_hist.specs.Plan.{Item, Aim, held_by, is_disabled, plan_of, lists_from}
use Rattle.moka_hist.specs.Plan as plan
use Rattle.moka_hist.specs.Next.{Next, goes}
use Rattle.moka_hist.specs.Looking.{finds_pair, hits, keeps, misses}
use Rattle.moka_hist.specs.Loading.{after_read, after_told}
use Rattle.moka_hist.specs.Notices.{HasReplaced, WriteAt}
use Rattle.moka_hist.specs.Places.{IsLawful}
use Rattle.moka_hist.specs.Step.{Step}
use Rattle.moka_hist.specs.Tables.{taken_by}
use Rattle.moka_hist.specs.Visits.{number_of}
use Rattle.moka_hist.specs.Writing.{nothing_answer, said, stamp_asked}
use Rattle.moka_hist.specs.Run.{IsReached, fresh_call}
use Rattle.moka_hist.specs.declared.accesses.Turn.{Turn}
use Rattle.moka_hist.specs.declared.events.Told.{Told}
use Rattle.moka_hist.specs.declared.events.Told.TheVariants as answer
use Rattle.moka_hist.specs.declared.loads.Load.{Load}
use Rattle.moka_hist.specs.declared.loads.Sought.{Sought}
use Rattle.moka_hist.specs.declared.notices.Notice.{Notice}
use Rattle.moka_hist.specs.declared.records.Stored.{Stored}
use Rattle.moka_hist.specs.declared.rules.Rules.{Rules}
use Rattle.moka_hist.specs.declared.visits.Found.TheVariants as found
use Rattle.moka_hist.specs.declared.visits.Settled.{Settled}
use Rattle.moka_hist.specs.declared.visits.Settled.TheVariants as settled
use Rattle.moka_hist.specs.declared.writes.Owed.{Owed}
use Rattle.moka_hist.specs.declared.writes.Place.{Place}
use Rattle.moka_hist.specs.declared.writes.Place.TheVariants as place
use Rattle.moka_hist.specs.declared.writes.Write.{Write}
use Rattle.moka_laws.specs.Removals.{DisabledStoresNothing, StoresNothing}
use Rattle.moka_laws.proofs.Counting.{none_some, put_cases, times_same}
use Rattle.moka_laws.proofs.Weights.{weigh, weigh_call, weigh_goes, weigh_said}
use Rattle.moka_laws.proofs.Locking.{IsLocking, locking_kept}
use Rattle.moka_laws.proofs.Rules.{abort_next, chosen_next, kept_next, loaded_plans_by, IsFresh, Puts, Locks_and_puts, Finds_or_puts, fresh_plan, read_key_next, told_op_next, Walks_over}
use Rattle.moka_laws.proofs.Kept.{IsInvariant, in_reached}
use Rattle.moka_laws.proofs.Steady.{step_rules}
use Rattle.moka_laws.proofs.StepCases.{OnStep, step_cases}
use Rattle.moka_laws.proofs.Outcomes.{Outcomes, outcomes, passes_on}
use Rattle.moka_hist.specs.declared.loads.Compute.{Compute}
use Rattle.moka_hist.specs.Computing.{after_told_op, after_read_key}
use Rattle.moka_laws.proofs.Walks.{weigh_finds, weigh_retiring}
use Rattle.moka_hist.specs.Maintenance.{carrying}

none_in : {A : Type 0} (xs : List A) (x : A) → xs ≡ [] → Contains xs x → ⊥
none_in xs x e h = let k = subst (λ v. Contains v x) e h in omega (arith, k.1)

-- a look for this stores a value where nothing is seen
abbrev inserts : {K V : Type 0} → Aim K V → ℕ
inserts (plan.To_insert key value) = 1
inserts _ = 0

module _ {K V : Type 0} where
  -- no record is stored, and none was
  record IsEmpty (t : TablePart K V) : Type 0 where
    stored : (q : K) → t.stored q ≡ None
    committed : t.committed ≡ []

module _ {K V E : Type 0} where
  -- the item stores a value, or may
  abbrev stores : Item K V E → ℕ
  stores (plan.Moment (plan.To_store key value)) = 1
  stores (plan.Write key value moment) = 1
  stores (plan.Get aim key) = inserts aim
  stores (plan.Judge aim key found) = inserts aim
  stores _ = 0

  -- what a step has to show
  record Leaves (new : World K V E) (next : Next K V E) : Type 0 where
    empty : IsEmpty new.table
    calm : weigh_call stores next.left ≡ 0

  keeps_calm : (c : Call K V E) → weigh_call stores (keeps c).left ≡ 0
  keeps_calm c = kept_next (λ v. weigh_call stores v.left ≡ 0) c (λ off. refl) (λ on. refl)

  misses_calm : (c : Call K V E) (aim : Aim K V) → inserts aim ≡ 0 →
      weigh_call stores (misses c aim).left ≡ 0
  misses_calm c (plan.To_insert key value) h = absurd (omega (arith, h))
  misses_calm c (plan.To_evict key stamp cause) h = keeps_calm c
  misses_calm c _ h = refl

  finds_calm : (c : Call K V E) (aim : Aim K V) (there : K) (seen : Stored V) → inserts aim ≡ 0 →
      weigh_call stores (finds_pair c aim there seen).left ≡ 0
  finds_calm c (plan.To_insert key value) there seen h = absurd (omega (arith, h))
  finds_calm c (plan.To_evict key stamp cause) there seen h =
      chosen_next (λ v. weigh_call stores v.left ≡ 0) c key stamp cause there seen (λ off. refl)
      (λ on. refl) refl
  finds_calm c _ there seen h = refl

  hits_calm : (c : Call K V E) (aim : Aim K V) (there : K) (value : V) → weigh stores c.plan ≡ 0 →
      weigh_call stores (hits c aim there value).left ≡ 0
  hits_calm c (plan.To_evict key stamp cause) there value p = p
  hits_calm c _ there value p = refl

  read_calm : (c : Call K V E) (sought : Sought K) (with : Settled V E) → weigh stores c.plan ≡ 0 →
      weigh_call stores (after_read c sought (found.ReadSettled with)).left ≡ 0
  read_calm c sought settled.NotYet p = p
  read_calm c sought settled.Aborted p = abort_next (λ v. weigh_call stores v.left ≡ 0) c sought refl refl
  read_calm c sought _ p = refl

  read_key_calm : (c : Call K V E) (compute : Compute K) (with : Settled V E) →
      weigh stores c.plan ≡ 0 →
      weigh_call stores (after_read_key c compute (found.ReadSettled with)).left ≡ 0
  read_key_calm c compute with p = read_key_next (λ v. weigh_call stores v.left ≡ 0) c compute with
      (p)
      (refl)

  told_calm : (c : Call K V E) (load : Load K) (given : Told V E) → is_disabled c.rules ≡ true →
      weigh stores c.plan ≡ 0 →
      weigh_call stores (after_told c load (found.TakeTold (Some given))).left ≡ 0
  told_calm c load (answer.Value value) off p =
      loaded_plans_by (λ q. weigh_call stores (goes c q).left ≡ 0) c.rules load value (λ e. refl)
      (λ able e. absurd (false≢true (sym able ∙ off)))
      (λ able e. absurd (false≢true (sym able ∙ off)))
  told_calm c load answer.Nothing off p = refl
  told_calm c load (answer.Err error) off p = refl
  told_calm c load _ off p = p

  told_op_calm : (c : Call K V E) (compute : Compute K) (pair : Option (K × V)) (given : Told V E) →
      is_disabled c.rules ≡ true → weigh stores c.plan ≡ 0 →
      weigh_call stores (after_told_op c compute pair (found.TakeTold (Some given))).left ≡ 0
  told_op_calm c compute pair given off p =
      told_op_next (λ v. weigh_call stores v.left ≡ 0) c compute pair given
      (λ a. refl)
      (λ value able free. absurd (false≢true (sym able ∙ off)))
      (λ value able locked. absurd (false≢true (sym able ∙ off)))
      (λ free. refl)
      (λ locked. refl)
      p

  form_calm : (rules : Rules) (p : List (Item K V E)) → IsFresh rules p → is_disabled rules ≡ true →
      weigh stores p ≡ 0
  form_calm rules p (Puts key value able e) off = absurd (false≢true (sym able ∙ off))
  form_calm rules p (Locks_and_puts key value able e) off = absurd (false≢true (sym able ∙ off))
  form_calm rules p (Finds_or_puts key value able) off = absurd (false≢true (sym able ∙ off))
  form_calm rules p (Walks_over parts able) off = absurd (false≢true (sym able ∙ off))
  form_calm rules p _ off = refl

  module _ (eq : K → K → Bool) (w : World K V E) (n : ℕ) (c : Call K V E)
      (off : is_disabled c.rules ≡ true) (empty : IsEmpty w.table)
      (p : weigh stores c.plan ≡ 0) where
    goes_on : {new : World K V E} (rest : List (Item K V E)) → IsEmpty new.table → weigh stores rest ≡
        0 → Leaves new (goes c rest)
    goes_on rest none h = record { empty = none; calm = weigh_goes stores c rest (λ a. refl) ∙ h }

    on_item : (item : Item K V E) (rest : List (Item K V E)) → weigh stores (item ∷ rest) ≡ 0 →
        Outcomes eq Leaves w n c item rest
    on_item plan.Drain rest q = (
      λ e. goes_on rest empty (omega (arith, q)),
      λ x xs e. record { empty = empty; calm = omega (arith, q) },
      λ x number xs e. record { empty = empty; calm = omega (arith, q) },
    )
    on_item (plan.Notice key old cause upsert) rest q = (
      λ e. goes_on rest empty (omega (arith, q)),
      λ e. record
          { empty = empty; calm = omega (arith, q) },
    )
    on_item (plan.Post write) rest q = (
      λ e. goes_on rest empty (omega (arith, q)),
      λ e. record
          { empty = empty; calm = omega (arith, q) },
    )
    on_item plan.Apply rest q = (
      λ e. goes_on rest empty (omega (arith, q)),
      λ x xs e. record
          { empty = empty; calm = omega (arith, q) },
    )
    on_item (plan.Get aim key) rest q = (
      λ more. record { empty = empty; calm = p },
      λ none. record { empty = empty; calm = misses_calm c aim (omega (arith, q)) },
      λ there seen some. record
          { empty = empty; calm = finds_calm c aim there seen (omega (arith, q)) },
    )
    on_item (plan.Judge aim key found) rest q = (
      λ seen. record { empty = empty; calm = hits_calm c aim key found.value p },
      λ unseen. record { empty = empty; calm = misses_calm c aim (omega (arith, q)) },
    )
    on_item (plan.Own sought) rest q = (
      λ able e. record { empty = empty; calm = refl },
      λ disabled e. record { empty = empty; calm = refl },
      λ owner e. record { empty = empty; calm = refl },
    )
    on_item (plan.Own_key compute) rest q = (
      (
        (λ able e. record { empty = empty; calm = refl }),
        λ disabled e. record { empty = empty; calm = refl },
      ),
      λ owner e. record {
        empty =
            empty;
        calm = refl;
      },
    )
    on_item (plan.Own_alone key) rest q = (
      (
        (λ able e. record { empty = empty; calm = refl }),
        λ disabled e. record { empty = empty; calm = refl },
      ),
      λ owner e. (
        (λ able. record { empty = empty; calm = refl }),
        λ not. record { empty = empty; calm = refl },
      ),
    )
    on_item (plan.Read sought) rest q = (
      λ e. record { empty = empty; calm = p },
      λ with e. record
          { empty = empty; calm = read_calm c sought with p },
    )
    on_item (plan.Read_key compute) rest q = (
      λ e. record { empty = empty; calm = p },
      λ with e. record
          { empty = empty; calm = read_key_calm c compute with p },
    )
    on_item (plan.Ask load) rest q = record { empty = empty; calm = refl }
    on_item (plan.Ask_op compute pair) rest q = record { empty = empty; calm = refl }
    on_item (plan.Told load) rest q = (
      λ e. record { empty = empty; calm = p },
      λ given e. record
          { empty = empty; calm = told_calm c load given off p },
    )
    on_item (plan.Told_op compute pair) rest q = (
      λ e. record { empty = empty; calm = p },
      λ given e. record
          { empty = empty; calm = told_op_calm c compute pair given off p },
    )
    on_item (plan.Holds key stamp cause there seen) rest q = (
      λ e. record { empty = empty; calm = refl },
      λ e. record
          { empty = empty; calm = keeps_calm c },
    )
    on_item (plan.Moment (plan.To_store key value)) rest q = absurd (omega (arith, q))
    on_item (plan.Moment (plan.To_take_out removal key)) rest q = record
        { empty = empty; calm = omega (arith, q) }
    on_item (plan.Write key value moment) rest q = absurd (omega (arith, q))
    on_item (plan.Out removal key) rest q = (
      λ more. record { empty = empty; calm = p },
      λ e none. record { empty = empty; calm = omega (arith, out) },
      λ e none. record { empty = empty; calm = omega (arith, out) },
      λ k old e some. absurd (nothing k old some),
      λ k old e some. absurd (nothing k old some),
    )
      where
        out : weigh stores (said removal (nothing_answer removal)) ≡ 0
        out = weigh_said stores removal (nothing_answer removal) refl refl

        nothing : (k : K) (old : Stored V) → taken_by (stamp_asked removal) (w.table.stored key) ≡
            Some (k, old) → ⊥
        nothing k old some = none_some (sym (ap (taken_by (stamp_asked removal))
            (empty.stored key)) ∙ some)
    on_item (plan.List_keys part) rest q = (
      λ more. record { empty = record { stored = empty.stored; committed = empty.committed }; calm = p },
      λ listed keys is gives. goes_on (map plan.Find keys ++ rest) (record { stored = empty.stored; committed = empty.committed })
          (omega (arith, q, weigh_finds {E = E} stores (λ key. refl) keys rest)),
    )
    on_item (plan.Find key) rest q = (
      λ more. record { empty = empty; calm = p },
      λ none. goes_on rest empty (omega (arith, q)),
      λ there seen some none. record { empty = empty; calm = omega (arith, q) },
      λ there seen ids some is. record { empty = empty; calm = omega (arith, q) },
    )
    on_item (plan.Scan there found) rest q = (
      λ seen. record { empty = empty; calm = omega (arith, q) },
      λ unseen. goes_on rest empty (omega (arith, q)),
    )
    on_item (plan.Register test) rest q = record { empty = empty; calm = refl }
    on_item (plan.Candidates parts) rest q = (
      λ none. record { empty = empty; calm = refl },
      λ id more some.
          let lists : List (Item K V E) = lists_from 0 parts (plan.Retire ∷ []) in
          record {
            empty = empty;
            calm = weigh_goes stores (carrying c (id ∷ more)) lists (λ a. refl) ∙ weigh_retiring stores (λ part. refl) refl parts;
          },
    )
    on_item (plan.Strike there found) rest q =
        record { empty = empty; calm = weigh_goes stores (carrying c _) rest (λ a. refl) ∙ omega (arith, q) }
    on_item plan.Retire rest q = record { empty = empty; calm = refl }
    on_item (plan.Reply a) rest q = record { empty = empty; calm = refl }
    on_item item rest q = passes_on eq Leaves w n c item rest tt
        (λ d. goes_on rest empty (omega (arith, q))) (record { empty = empty; calm = p })

    on_plan : (plan : List (Item K V E)) → c.plan ≡ plan → OnStep eq Leaves w n c plan
    on_plan [] e = record { empty = empty; calm = p }
    on_plan (item ∷ rest) e = outcomes eq Leaves w n c item rest
        (on_item item rest (ap (weigh stores) (sym e) ∙ p))

-- ---- of a state

module _ {K V E : Type 0} (eq : K → K → Bool) where
  -- where the cache is disabled no record is stored, and no call is to store one
  record IsIdle (s : State K V E) : Type 0 where
    locking : IsLocking s
    empty : is_disabled s.world.desk.rules ≡ true → IsEmpty s.world.table
    calm : is_disabled s.world.desk.rules ≡ true → (n : ℕ) (c : Call K V E) → s.calls n ≡ Some c →
        weigh stores c.plan ≡ 0

  idle_step : (s t : State K V E) (n : ℕ) (turn : Turn K V E) → IsIdle s → Step eq s n turn t → IsIdle t
  idle_step s t n turn i step = record {
    locking = (locking_kept eq).step s t n turn i.locking step;
    empty = λ off. (both (was off)).0;
    calm = λ off. (both (was off)).1;
  }
    where
      was : is_disabled t.world.desk.rules ≡ true → is_disabled s.world.desk.rules ≡ true
      was off = ap is_disabled (sym (step_rules eq s t n turn step)) ∙ off

      both : is_disabled s.world.desk.rules ≡ true →
          IsEmpty t.world.table × ((m : ℕ) (c : Call K V E) → t.calls m ≡ Some c →
          weigh stores c.plan ≡ 0)
      both off =
          step_cases eq Leaves (λ v _. IsEmpty v.world.table ×
          ((m : ℕ) (c : Call K V E) → v.calls m ≡ Some c → weigh stores c.plan ≡
          0)) s t n turn step
          (on_plan eq s.world n step.call (ap is_disabled (i.locking.rules n step.call step.live) ∙
          off) (i.empty off)
          (i.calm off n step.call step.live) step.call.plan refl)
          (λ w next l. (
            l.empty,
            λ m c live. put_cases s.calls n next.left m (Some c) (weigh stores c.plan ≡ 0) live
                (λ here is. subst (λ v. weigh_call stores v ≡ 0) is l.calm)
                (λ there is. i.calm off m c is),
          ))

  idle_kept : IsInvariant eq IsIdle
  idle_kept = record {
    fresh = λ division divides rules size built has_log. record {
      locking = (locking_kept eq).fresh division divides rules size built has_log;
      empty = λ off. record { stored = λ q. refl; committed = refl };
      calm = λ off n c live. absurd (none_some live);
    };
    at = λ s moment i. record {
      locking = (locking_kept eq).at s moment i.locking;
      empty = i.empty;
      calm = i.calm;
    };
    start = λ s start i. record {
      locking = (locking_kept eq).start s start i.locking;
      empty = i.empty;
      calm = λ off n c live.
          put_cases s.calls (s.world.desk.last + 1) (Some (fresh_call s.world.table.division.parts s.world.desk.rules start)) n
          (Some c) (weigh stores c.plan ≡ 0) live
          (λ here is. subst (λ v. weigh_call stores v ≡ 0) is
          (form_calm s.world.desk.rules (plan_of s.world.table.division.parts s.world.desk.rules start)
          (fresh_plan s.world.table.division.parts s.world.desk.rules start) off))
          (λ there is. i.calm off n c is);
    };
    step = idle_step;
    tell = λ s n given asked i. record {
      locking = (locking_kept eq).tell s n given asked i.locking;
      empty = i.empty;
      calm = i.calm;
    };
    hear = λ s n off running i. record {
      locking = (locking_kept eq).hear s n off running i.locking;
      empty = i.empty;
      calm = i.calm;
    };
    drop = λ s n c live between i. record {
      locking = (locking_kept eq).drop s n c live between i.locking;
      empty = i.empty;
      calm = λ off m d lives. put_cases s.calls n None m (Some d) (weigh stores d.plan ≡ 0) lives
          (λ here is. absurd (none_some is)) (λ there is. i.calm off m d is);
    };
  }

  -- ---- what follows where nothing was committed

  module _ (s : State K V E) (lawful : IsLawful eq s) (none : s.world.table.committed ≡ []) where
    not_committed : (number : ℕ) → Contains s.world.table.committed number → ⊥
    not_committed number h = none_in s.world.table.committed number none h

    none_held : (n : ℕ) (c : Call K V E) → s.calls n ≡ Some c → (o : Option Write) → held_by c.plan ≡
        o → o ≡ None
    none_held n c live None e = refl
    none_held n c live (Some w) e = absurd (not_committed (number_of w)
        (lawful.committed (number_of w) place.Held
        (n, record { call = c; live = live; write = w; held = e; named = refl })))

    none_owed : (l : List Owed) → s.world.desk.owed ≡ l → l ≡ []
    none_owed [] e = refl
    none_owed (x ∷ xs) e = absurd (not_committed (number_of x.write)
        (lawful.committed (number_of x.write) place.Owed
        (omega (
          arith,
          ap (λ l. times (number_of x.write) (map (λ o. number_of o.write) l)) e,
          times_same (number_of x.write) (map (λ o. number_of o.write) xs),
        ))))

    none_logged : (l : List Write) → s.world.desk.log ≡ l → l ≡ []
    none_logged [] e = refl
    none_logged (x ∷ xs) e = absurd (not_committed (number_of x)
        (lawful.committed (number_of x) place.Logged
        (omega (
          arith,
          ap (λ l. times (number_of x) (map number_of l)) e,
          times_same (number_of x)
              (map number_of xs),
        ))))

    none_applied : (l : List Write) → s.world.desk.applied ≡ l → l ≡ []
    none_applied [] e = refl
    none_applied (x ∷ xs) e = absurd (not_committed (number_of x)
        (lawful.committed (number_of x) place.Applied
        (omega (
          arith,
          ap (λ l. times (number_of x) (map number_of l)) e,
          times_same (number_of x)
              (map number_of xs),
        ))))

    none_at : (p : Place) (w : Write) → WriteAt s p w → ⊥
    none_at place.Held w h = none_some (sym (none_held h.0 h.1 h.2 (held_by h.1.plan) refl) ∙ h.3)
    none_at place.Owed w h = none_in (map (λ o. o.write) s.world.desk.owed) w
        (ap (map (λ o. o.write)) (none_owed s.world.desk.owed refl)) h
    none_at place.Logged w h = none_in s.world.desk.log w (none_logged s.world.desk.log refl) h
    none_at place.Applied w h = none_in s.world.desk.applied w
        (none_applied s.world.desk.applied refl) h

    none_noticed : (n : ℕ) (o : Option (Notice K V)) → s.world.desk.notices n ≡ o → o ≡ None
    none_noticed n None e = refl
    none_noticed n (Some x) e =
        let r : HasReplaced s n = (lawful.notices.no_other n (inr (ap is_some e))).1 in
        absurd (none_at r.where_ r.write r.stands)

    stores_nothing : ((q : K) → s.world.table.stored q ≡ None) → StoresNothing s
    stores_nothing stored = record {
      stored = stored;
      committed = none;
      held = λ n c live. none_held n c live (held_by c.plan) refl;
      owed = none_owed s.world.desk.owed refl;
      log = none_logged s.world.desk.log refl;
      applied = none_applied s.world.desk.applied refl;
      unnoticed = λ n. none_noticed n (s.world.desk.notices n) refl;
    }

  pub disabled_nothing : ((s : State K V E) → IsReached eq s → IsLawful eq s) →
      DisabledStoresNothing K V E eq
  disabled_nothing lawful s h zero =
      let i : IsIdle s = in_reached eq IsIdle idle_kept s h in
      let off : is_disabled s.world.desk.rules ≡ true = rw zero refl in
      stores_nothing s (lawful s h) (i.empty off).committed (i.empty off).stored
