-- A call that asks for a load owns it, and a load has one owner.
use Rattle.std.proofs.Common.{◌≡◌, ℕ, ◌+◌, ◌==◌, Bool, true, false, cond, ◌&&◌, List, [], ◌∷◌, Option, Some, None, refl, sym, ap, ◌∙◌, subst, arith, map, ◌++◌}
use Rattle.std.proofs.lemmas.Bool.{false≢true}
use Rattle.std.specs.Option.{option_map_or}
use Rattle.std.specs.Cmp.{IsEquivalence}
use Rattle.moka_hist.specs.Finite.{put_key, load_eq, kind_eq}
use Rattle.moka_hist.specs.State.{State, World, Call, DeskPart}
use Rattle.moka_hist.specs.Plan.{Item, Aim, Removal, plan_of, lists_from}
use Rattle.moka_hist.specs.Computing.{after_told_op}
use Rattle.moka_hist.specs.Entries.{unchanged}
use Rattle.moka_hist.specs.Writing.{cause_handed, nothing_answer, removed_answer}
use Rattle.moka_hist.specs.declared.writes.Write.TheVariants.{Remove}
use Rattle.moka_hist.specs.Plan as plan
use Rattle.moka_hist.specs.Visits.{owners_without}
use Rattle.moka_hist.specs.Next.{Next, goes}
use Rattle.moka_hist.specs.Looking.{hits, misses, keeps as stays, finds_pair}
use Rattle.moka_hist.specs.Loading.{after_read, after_told}
use Rattle.moka_hist.specs.Step.{Step, state_after}
use Rattle.moka_hist.specs.Run.{IsReached, fresh_call}
use Rattle.moka_hist.specs.Places.{AsksFor, Initializes}
use Rattle.moka_hist.specs.declared.records.Stored.{Stored}
use Rattle.moka_hist.specs.declared.loads.Compute as computes
use Rattle.moka_hist.specs.declared.loads.Load.{Load}
use Rattle.moka_hist.specs.declared.loads.Sought.{Sought}
use Rattle.moka_hist.specs.declared.loads.Kind.{Kind}
use Rattle.moka_hist.specs.declared.loads.Kind.TheVariants.{GetWith, Optional, Try, Compute}
use Rattle.moka_hist.specs.declared.rules.Rules.{Rules}
use Rattle.moka_hist.specs.declared.events.Start.{Start}
use Rattle.moka_hist.specs.declared.events.Told.{Told}
use Rattle.moka_hist.specs.declared.events.Told.TheVariants as answer
use Rattle.moka_hist.specs.declared.visits.Settled.{Settled}
use Rattle.moka_hist.specs.declared.visits.Settled.TheVariants as settled
use Rattle.moka_hist.specs.declared.visits.Found.TheVariants as found
use Rattle.moka_hist.specs.declared.accesses.Turn.{Turn}
use Rattle.moka_laws.proofs.Rules.{abort_next, put_plans, loaded_plans, kept_next, chosen_next, read_key_next, said_next, told_op_next, IsFresh, Disabled, fresh_plan, Walks_over}
use Rattle.moka_laws.proofs.Counting.{some_same, none_some, put_cases, other_number}
use Rattle.moka_laws.proofs.Weights.{weigh}
use Rattle.moka_laws.proofs.Kept.{IsInvariant, in_reached}
use Rattle.moka_laws.proofs.StepCases.{OnStep, step_cases}
use Rattle.moka_laws.proofs.Outcomes.{alone_of, computes_of, Outcomes, OwnsKey, outcomes}
use Rattle.moka_laws.proofs.Walks.{weigh_finds, weigh_walk, walk_is_walk, weigh_retiring}
use Rattle.moka_hist.specs.Maintenance.{carrying}

-- a kind is equal to itself, and to no other
kind_self : (a : Kind) → kind_eq a a ≡ true
kind_self Compute = refl
kind_self _ = refl

pub kind_one : (a b : Kind) → kind_eq a b ≡ true → a ≡ b
kind_one GetWith GetWith e = refl
kind_one Optional Optional e = refl
kind_one Try Try e = refl
kind_one Compute Compute e = refl
kind_one GetWith Optional e = absurd (false≢true e)
kind_one GetWith Try e = absurd (false≢true e)
kind_one GetWith Compute e = absurd (false≢true e)
kind_one Optional GetWith e = absurd (false≢true e)
kind_one Optional Try e = absurd (false≢true e)
kind_one Optional Compute e = absurd (false≢true e)
kind_one Try GetWith e = absurd (false≢true e)
kind_one Try Optional e = absurd (false≢true e)
kind_one Try Compute e = absurd (false≢true e)
kind_one Compute GetWith e = absurd (false≢true e)
kind_one Compute Optional e = absurd (false≢true e)
kind_one Compute Try e = absurd (false≢true e)

pub and_left : (x y : Bool) → (x && y) ≡ true → x ≡ true
and_left true y h = refl
and_left false y h = absurd (false≢true h)

pub and_right : (x y : Bool) → (x && y) ≡ true → y ≡ true
and_right true y h = h
and_right false y h = absurd (false≢true h)

module _ {K : Type 0} (eq : K → K → Bool) (laws : IsEquivalence eq) where
  pub loads_self : (a : Load K) → load_eq eq a a ≡ true
  loads_self a = rw (laws.refl a.key, kind_self a.kind) refl

  -- a load is equal to both or to neither of two that are equal
  pub loads_alike : (l a b : Load K) → load_eq eq a b ≡ true → load_eq eq l a ≡ load_eq eq l b
  loads_alike l a b e =
      let keys = and_left _ _ e in
      let alike : eq l.key a.key ≡ eq l.key b.key = laws.symm l.key a.key ∙ laws.congr a.key b.key l.key keys ∙ laws.symm b.key l.key in
      let kinds : a.kind ≡ b.kind = kind_one a.kind b.kind (and_right _ _ e) in
      rw (kinds, alike) refl

-- who owned a load owns it still, but for the call
abbrev OthersOwn : {K : Type 0} → ℕ → (Load K → Option ℕ) → (Load K → Option ℕ) → Type 0
OthersOwn {K = K} n f g = (m : ℕ) → (n == m) ≡ false → (load : Load K) → f load ≡ Some m → g load ≡ Some m

module _ {K : Type 0} (eq : K → K → Bool) where
  -- equal loads have one owner
  abbrev pub OneOwner : (Load K → Option ℕ) → Type 0
  OneOwner owners = (a b : Load K) → load_eq eq a b ≡ true → owners a ≡ owners b

module _ {K V E : Type 0} where
  -- the item is one of an owner that has not yet asked, or whose ask is open
  abbrev owning : Item K V E → ℕ
  owning (plan.Get (plan.To_own sought) key) = 1
  owning (plan.Get (plan.To_compute compute) key) = 1
  owning (plan.Judge (plan.To_own sought) key stored) = 1
  owning (plan.Judge (plan.To_compute compute) key stored) = 1
  owning (plan.Ask load) = 1
  owning (plan.Ask_op compute found) = 1
  owning (plan.Told load) = 1
  owning (plan.Told_op compute found) = 1
  owning _ = 0

  -- the load that the plan wants owned, by its first item, or behind the posts of what was owed
  abbrev pub wanted : List (Item K V E) → Option (Load K)
  wanted (plan.Drain ∷ rest) = wanted rest
  wanted (plan.Ended number ∷ rest) = wanted rest
  wanted (plan.Post write ∷ rest) = wanted rest
  wanted (plan.Turn ∷ rest) = wanted rest
  wanted (plan.Apply ∷ rest) = wanted rest
  wanted (plan.End ∷ rest) = wanted rest
  wanted (plan.Get (plan.To_own sought) key ∷ rest) = Some sought.load
  wanted (plan.Get (plan.To_compute compute) key ∷ rest) = Some (computes_of compute.key)
  wanted (plan.Judge (plan.To_own sought) key stored ∷ rest) = Some sought.load
  wanted (plan.Judge (plan.To_compute compute) key stored ∷ rest) = Some (computes_of compute.key)
  wanted (plan.Ask load ∷ rest) = Some load
  wanted (plan.Ask_op compute found ∷ rest) = Some (computes_of compute.key)
  wanted (plan.Told load ∷ rest) = Some load
  wanted (plan.Told_op compute found ∷ rest) = Some (computes_of compute.key)
  wanted _ = None

  -- how many items want one behind that place
  abbrev behind : List (Item K V E) → ℕ
  behind [] = 0
  behind (plan.Drain ∷ rest) = behind rest
  behind (plan.Ended number ∷ rest) = behind rest
  behind (plan.Post write ∷ rest) = behind rest
  behind (plan.Turn ∷ rest) = behind rest
  behind (plan.Apply ∷ rest) = behind rest
  behind (plan.End ∷ rest) = behind rest
  behind (item ∷ rest) = weigh owning rest

  abbrev pub plan_left : Option (Call K V E) → List (Item K V E)
  plan_left None = []
  plan_left (Some c) = c.plan

  -- the call owns the load that its plan wants owned, and no later item wants one
  pub record Owns (owners : Load K → Option ℕ) (n : ℕ) (plan : List (Item K V E)) : Type 0 where
    pub first : (load : Load K) → wanted plan ≡ Some load → owners load ≡ Some n
    pub later : behind plan ≡ 0

  -- where no item wants one, the plan doesn't
  wants_none : (p : List (Item K V E)) → weigh owning p ≡ 0 → wanted p ≡ None
  wants_none [] h = refl
  wants_none (plan.Drain ∷ rest) h = wants_none rest (omega arith)
  wants_none (plan.Ended number ∷ rest) h = wants_none rest (omega arith)
  wants_none (plan.Post write ∷ rest) h = wants_none rest (omega arith)
  wants_none (plan.Turn ∷ rest) h = wants_none rest (omega arith)
  wants_none (plan.Apply ∷ rest) h = wants_none rest (omega arith)
  wants_none (plan.End ∷ rest) h = wants_none rest (omega arith)
  wants_none (plan.Get (plan.To_own sought) key ∷ rest) h = absurd (omega arith)
  wants_none (plan.Get (plan.To_compute compute) key ∷ rest) h = absurd (omega arith)
  wants_none (plan.Judge (plan.To_own sought) key stored ∷ rest) h = absurd (omega arith)
  wants_none (plan.Judge (plan.To_compute compute) key stored ∷ rest) h = absurd (omega arith)
  wants_none (plan.Ask load ∷ rest) h = absurd (omega arith)
  wants_none (plan.Ask_op compute found ∷ rest) h = absurd (omega arith)
  wants_none (plan.Told load ∷ rest) h = absurd (omega arith)
  wants_none (plan.Told_op compute found ∷ rest) h = absurd (omega arith)
  wants_none (_ ∷ rest) h = refl

  behind_none : (p : List (Item K V E)) → weigh owning p ≡ 0 → behind p ≡ 0
  behind_none [] h = refl
  behind_none (plan.Drain ∷ rest) h = behind_none rest (omega arith)
  behind_none (plan.Ended number ∷ rest) h = behind_none rest (omega arith)
  behind_none (plan.Post write ∷ rest) h = behind_none rest (omega arith)
  behind_none (plan.Turn ∷ rest) h = behind_none rest (omega arith)
  behind_none (plan.Apply ∷ rest) h = behind_none rest (omega arith)
  behind_none (plan.End ∷ rest) h = behind_none rest (omega arith)
  behind_none (_ ∷ rest) h = omega arith

  module _ (owners : Load K → Option ℕ) (n : ℕ) where
    owns_none : (plan : List (Item K V E)) → weigh owning plan ≡ 0 → Owns owners n plan
    owns_none plan h =
        record { first = λ l e. absurd (none_some (sym (wants_none plan h) ∙ e)); later = behind_none plan h }

    goes_owns : (c : Call K V E) (rest : List (Item K V E)) → Owns owners n rest →
        Owns owners n (plan_left (goes c rest).left)
    goes_owns c (plan.Reply a ∷ []) o = owns_none [] refl
    goes_owns c _ o = o

    goes_none : (c : Call K V E) (rest : List (Item K V E)) → weigh owning rest ≡ 0 →
        Owns owners n (plan_left (goes c rest).left)
    goes_none c rest h = goes_owns c rest (owns_none rest h)

    keeps_owns : (c : Call K V E) → Owns owners n (plan_left (stays c).left)
    keeps_owns c = kept_next (λ v. Owns owners n (plan_left v.left)) c (λ off. owns_none [] refl)
        (λ on. owns_none (plan.Unlock false ∷ plan.Reply _ ∷ []) refl)

    misses_owns : (c : Call K V E) (aim : Aim K V) (key : K) (rest : List (Item K V E)) → Owns owners n (plan.Get aim key ∷ rest) →
        Owns owners n (plan_left (misses c aim).left)
    misses_owns c (plan.To_show form) key rest o = owns_none [] refl
    misses_owns c (plan.To_load sought) key rest o = owns_none (plan.Own sought ∷ []) refl
    misses_owns c (plan.To_insert there value) key rest o =
        put_plans (λ p. Owns owners n (plan_left (goes c p).left)) c.rules there value _
        (owns_none _ refl) (owns_none _ refl)
    misses_owns c (plan.To_evict there stamp cause) key rest o = keeps_owns c
    misses_owns c _ key rest o = record { first = o.first; later = refl }

    -- the record that was judged is not seen
    unseen_owns : (c : Call K V E) (aim : Aim K V) (key : K) (stored : Stored V)
        (rest : List (Item K V E)) → Owns owners n (plan.Judge aim key stored ∷ rest) →
        Owns owners n (plan_left (misses c aim).left)
    unseen_owns c (plan.To_show form) key stored rest o = owns_none [] refl
    unseen_owns c (plan.To_load sought) key stored rest o =
        owns_none (plan.Own sought ∷ []) refl
    unseen_owns c (plan.To_insert there value) key stored rest o =
        put_plans (λ p. Owns owners n (plan_left (goes c p).left)) c.rules there value _
        (owns_none _ refl) (owns_none _ refl)
    unseen_owns c (plan.To_evict there stamp cause) key stored rest o = keeps_owns c
    unseen_owns c _ key stored rest o = record { first = o.first; later = refl }

    finds_owns : (c : Call K V E) (aim : Aim K V) (key k : K) (stored : Stored V) (rest : List (Item K V E)) →
        Owns owners n (plan.Get aim key ∷ rest) →
        Owns owners n (plan_left (finds_pair c aim k stored).left)
    finds_owns c (plan.To_evict there stamp cause) key k stored rest o =
        chosen_next (λ v. Owns owners n (plan_left v.left)) c there stamp cause k stored
        (λ off. owns_none [] refl) (λ on. owns_none (plan.Unlock false ∷ plan.Reply _ ∷ []) refl)
        (owns_none (plan.Holds there stamp cause k stored ∷ []) refl)
    finds_owns c _ key k stored rest o = record { first = o.first; later = refl }

    hits_owns : (c : Call K V E) (aim : Aim K V) (there : K) (value : V) (stored : Stored V)
        (rest : List (Item K V E)) →
        Owns owners n c.plan → Owns owners n (plan.Judge aim there stored ∷ rest) →
        Owns owners n (plan_left (hits c aim there value).left)
    hits_owns c (plan.To_own sought) there value stored rest p o =
        owns_none (plan.Settle (settled.Ready value) ∷ plan.Reply _ ∷ []) refl
    hits_owns c (plan.To_compute compute) there value stored rest p o =
        record { first = o.first; later = refl }
    hits_owns c (plan.To_evict key stamp cause) there value stored rest p o = p
    hits_owns c _ there value stored rest p o = owns_none [] refl

    read_owns : (c : Call K V E) (sought : Sought K) (with : Settled V E) → Owns owners n c.plan →
        Owns owners n (plan_left (after_read c sought (found.ReadSettled with)).left)
    read_owns c sought settled.NotYet h = h
    read_owns c sought settled.Aborted h = abort_next (λ v. Owns owners n (plan_left v.left)) c sought (owns_none [] refl) (owns_none (plan.Own sought ∷ []) refl)
    read_owns c sought _ h = owns_none [] refl

    told_owns : (c : Call K V E) (load : Load K) (given : Told V E) → Owns owners n c.plan →
        Owns owners n (plan_left (after_told c load (found.TakeTold (Some given))).left)
    told_owns c load (answer.Value value) h =
        loaded_plans (λ p. Owns owners n (plan_left (goes c p).left)) c.rules load value
        (owns_none _ refl) (owns_none _ refl) (owns_none _ refl)
    told_owns c load answer.Nothing h = owns_none _ refl
    told_owns c load (answer.Err error) h = owns_none _ refl
    told_owns c load _ h = h

    told_op_owns : (c : Call K V E) (compute : computes.Compute K) (pair : Option (K × V))
        (given : Told V E) → Owns owners n c.plan →
        Owns owners n (plan_left (after_told_op c compute pair (found.TakeTold (Some given))).left)
    told_op_owns c compute pair given h =
        told_op_next (λ v. Owns owners n (plan_left v.left)) c compute pair given
        (λ a. owns_none _ refl) (λ value able off. owns_none _ refl)
        (λ value able on. owns_none _ refl)
        (λ off. owns_none _ refl) (λ on. owns_none _ refl) h

    fresh_weighs : (rules : Rules) (p : List (Item K V E)) → IsFresh rules p → weigh owning p ≡ 0
    fresh_weighs rules p (Disabled a d plain) = refl
    fresh_weighs rules p (Walks_over parts able) =
        weigh_walk owning (record { list = λ part. refl; find = λ key. refl; scan = λ there stored. refl; end = refl; choose = λ parts. refl; strike = λ there stored. refl; retire = refl }) p (walk_is_walk 0 parts)
    fresh_weighs rules p _ = refl

    fresh_owns : (parts : ℕ) (rules : Rules) (start : Start K V) → Owns owners n (plan_of parts rules start)
    fresh_owns parts rules start =
        owns_none (plan_of parts rules start) (fresh_weighs rules (plan_of parts rules start) (fresh_plan parts rules start))

module _ {K V E : Type 0} (eq : K → K → Bool) where
  -- each live call owns what it asks for, and equal loads have one owner
  pub record IsOwned (s : State K V E) : Type 0 where
    pub one_owner : OneOwner eq s.world.desk.owners
    pub calls : (n : ℕ) (c : Call K V E) → s.calls n ≡ Some c → Owns s.world.desk.owners n c.plan

  -- what a step has to show
  record Leaves (w : World K V E) (n : ℕ) (new : World K V E) (next : Next K V E) : Type 0 where
    one_owner : OneOwner eq new.desk.owners
    owns : Owns new.desk.owners n (plan_left next.left)
    others : OthersOwn n w.desk.owners new.desk.owners

  -- ---- the owners without a call

  without_one_owner : (d : DeskPart K V E) (n : ℕ) → OneOwner eq d.owners → OneOwner eq (owners_without d n)
  without_one_owner d n one a b e = ap (λ o. cond (option_map_or (λ v. v == n) o false) None o) (one a b e)

  without_others : (d : DeskPart K V E) (n : ℕ) → OthersOwn n d.owners (owners_without d n)
  without_others d n m h load e = ap (λ o. cond (option_map_or (λ v. v == n) o false) None o) e ∙ ap
      (λ b. cond {A = Option ℕ} b None (Some m)) (other_number n m h)

  module _ (laws : IsEquivalence eq) (w : World K V E) (n : ℕ) (c : Call K V E) (one : OneOwner eq w.desk.owners) where
    -- ---- the owners with a call that owns a load which nobody owned

    claimed_one_owner : (load : Load K) → OneOwner eq (put_key (load_eq eq) w.desk.owners load (Some n))
    claimed_one_owner load a b e = by (load_eq eq load a) (load_eq eq load b) (loads_alike eq laws load a b e)
      where
        by : (x y : Bool) → x ≡ y → cond x (Some n) (w.desk.owners a) ≡ cond y (Some n) (w.desk.owners b)
        by true true h = refl
        by false false h = one a b e
        by true false h = absurd (false≢true (sym h))
        by false true h = absurd (false≢true h)

    claimed_others : (load : Load K) → w.desk.owners load ≡ None →
        OthersOwn n w.desk.owners (put_key (load_eq eq) w.desk.owners load (Some n))
    claimed_others load none m h other e = by (load_eq eq load other) refl
      where
        by : (x : Bool) → load_eq eq load other ≡ x → cond x (Some n) (w.desk.owners other) ≡ Some m
        by true same = absurd (none_some (sym none ∙ one load other same ∙ e))
        by false same = e

    claimed_owns : (load : Load K) → put_key (load_eq eq) w.desk.owners load (Some n) load ≡ Some n
    claimed_owns load = ap (λ b. cond b (Some n) (w.desk.owners load)) (loads_self eq laws load)

    owns_now : (load l : Load K) → Some load ≡ Some l →
        put_key (load_eq eq) w.desk.owners load (Some n) l ≡ Some n
    owns_now load l e =
        subst (λ v. put_key (load_eq eq) w.desk.owners load (Some n) v ≡ Some n) (some_same e)
        (claimed_owns load)

    -- the owners are as they were
    keeps : {new : World K V E} {next : Next K V E} → new.desk.owners ≡ w.desk.owners → Owns new.desk.owners n (plan_left next.left) →
        Leaves w n new next
    keeps e o = record { one_owner = subst (OneOwner eq) (sym e) one; owns = o; others = λ m h load f. subst (λ v. v load ≡ Some m) (sym e) f }

    -- the call owns the compute's key from now on
    owns_key : (compute : computes.Compute K) → OwnsKey eq (Leaves w n) w n c compute
    owns_key compute = (
      (λ able none. record {
        one_owner = claimed_one_owner (computes_of compute.key);
        owns = record { first = λ l e. owns_now (computes_of compute.key) l e; later = refl };
        others = claimed_others (computes_of compute.key) none;
      }),
      λ not none. record {
        one_owner = claimed_one_owner (computes_of compute.key);
        owns = record { first = λ l e. owns_now (computes_of compute.key) l e; later = refl };
        others = claimed_others (computes_of compute.key) none;
      },
    )

    on_item : (item : Item K V E) (rest : List (Item K V E)) → Owns w.desk.owners n c.plan → Owns w.desk.owners n (item ∷ rest) →
        Outcomes eq (Leaves w n) w n c item rest
    on_item plan.Drain rest p o = (
      λ e. keeps refl (goes_owns _ n c rest (record { first = o.first; later = o.later })),
      λ x xs e. keeps refl (record { first = o.first; later = o.later }),
      λ x number xs e. keeps refl (record { first = o.first; later = o.later }),
    )
    on_item (plan.Ended number) rest p o = (
      λ e. keeps refl (goes_owns _ n c rest (record { first = o.first; later = o.later })),
      λ e. keeps refl p,
    )
    on_item plan.Heard rest p o =
        (λ e. keeps refl (goes_none _ n c rest o.later), λ e. keeps refl p)
    on_item (plan.Lock key) rest p o =
        (λ e. keeps refl (goes_none _ n c rest o.later), λ e. keeps refl p)
    on_item (plan.Notice key old cause upsert) rest p o = (
      (λ e. keeps refl (goes_none _ n c rest o.later)),
      λ e. keeps refl (owns_none _ n (plan.Heard ∷ rest) (omega (arith, o.later))),
    )
    on_item (plan.Post write) rest p o = (
      λ e. keeps refl (goes_owns _ n c rest (record { first = o.first; later = o.later })),
      λ e. keeps refl (record { first = o.first; later = o.later }),
    )
    on_item plan.Turn rest p o = (
      λ e. keeps refl (goes_owns _ n c rest (record { first = o.first; later = o.later })),
      λ e. keeps refl p,
    )
    on_item plan.Apply rest p o = (
      λ e. keeps refl (goes_owns _ n c rest (record { first = o.first; later = o.later })),
      λ x xs e. keeps refl (record { first = o.first; later = o.later }),
    )
    on_item plan.End rest p o =
        keeps refl (goes_owns _ n c rest (record { first = o.first; later = o.later }))
    on_item (plan.Get aim key) rest p o = (
      (λ more. keeps refl p),
      (λ none. keeps refl (misses_owns _ n c aim key rest o)),
      λ k stored some. keeps refl (finds_owns _ n c aim key k stored rest o),
    )
    on_item (plan.Judge aim key stored) rest p o = (
      (λ seen. keeps refl (hits_owns _ n c aim key stored.value stored rest p o)),
      λ unseen. keeps refl (unseen_owns _ n c aim key stored rest o),
    )
    on_item (plan.Own sought) rest p o = (
      (λ able none. record {
        one_owner = claimed_one_owner sought.load;
        owns = record { first = λ l e. owns_now sought.load l e; later = refl };
        others = claimed_others sought.load none;
      }),
      (λ not none. record {
        one_owner = claimed_one_owner sought.load;
        owns = record { first = λ l e. owns_now sought.load l e; later = refl };
        others = claimed_others sought.load none;
      }),
      λ owner some. keeps refl (owns_none _ n (plan.Read sought ∷ []) refl),
    )
    on_item (plan.Own_key compute) rest p o = (
      owns_key compute,
      λ owner some. keeps refl (owns_none _ n (plan.Read_key compute ∷ []) refl),
    )
    on_item (plan.Own_alone key) rest p o = (
      owns_key (alone_of key),
      λ owner some. (
        (λ able. keeps refl (owns_none _ n (plan.Drain ∷ plan.Get (plan.To_show (plan.As_report key)) key ∷ []) refl)),
        λ not. keeps refl (owns_none _ n (plan.Drain ∷ plan.Reply (unchanged key None) ∷ []) refl),
      ),
    )
    on_item (plan.Read sought) rest p o = (λ none. keeps refl p, λ with some. keeps refl (read_owns _ n c sought with p))
    on_item (plan.Read_key compute) rest p o = (
      λ none. keeps refl p,
      λ with some. keeps refl (read_key_next (λ v. Owns w.desk.owners n (plan_left v.left)) c compute with p
          (owns_none _ n (plan.Own_key compute ∷ []) refl)),
    )
    on_item (plan.Settle with) rest p o =
        record { one_owner = without_one_owner w.desk n one; owns = goes_none _ n c rest o.later; others = without_others w.desk n }
    on_item (plan.Ask load) rest p o = keeps refl (record { first = o.first; later = refl })
    on_item (plan.Ask_op compute pair) rest p o =
        keeps refl (record { first = o.first; later = refl })
    on_item (plan.Told load) rest p o = (λ none. keeps refl p, λ given some. keeps refl (told_owns _ n c load given p))
    on_item (plan.Told_op compute pair) rest p o =
        (λ none. keeps refl p, λ given some. keeps refl (told_op_owns _ n c compute pair given p))
    on_item (plan.Holds key stamp cause there stored) rest p o =
        ((λ e. keeps refl (owns_none _ n (plan.Moment _ ∷ []) refl)), λ e. keeps refl (keeps_owns _ n c))
    on_item (plan.Moment (plan.To_store key value)) rest p o =
        keeps refl (owns_none _ n (plan.Write key value w.desk.clock ∷ rest) (omega (arith, o.later)))
    on_item (plan.Moment (plan.To_take_out removal key)) rest p o =
        keeps refl (owns_none _ n (plan.Out removal key ∷ rest) (omega (arith, o.later)))
    on_item (plan.Write key value moment) rest p o = (
      λ more. keeps refl p,
      λ off old. keeps refl (owns_none _ n (plan.Post _ ∷ rest) (omega (arith, o.later))),
      λ on. keeps refl (owns_none _ n (plan.Unlock true ∷ plan.Post _ ∷ rest) (omega (arith, o.later))),
      λ k old on some. keeps refl
          (owns_none _ n (plan.Notice key old None true ∷ plan.Unlock true ∷ plan.Post _ ∷ rest)
          (omega (arith, o.later))),
    )
    on_item (plan.Out removal key) rest p o = (
      (λ more. keeps refl p),
      (λ off none. keeps refl (said_next (λ v. Owns w.desk.owners n (plan_left v.left)) c (λ q. plan.Idle ∷ q) removal
          (nothing_answer removal) (owns_none _ n _ refl) (owns_none _ n _ refl))),
      (λ on none. keeps refl (said_next (λ v. Owns w.desk.owners n (plan_left v.left)) c (λ q. plan.Unlock false ∷ q) removal
          (nothing_answer removal) (owns_none _ n _ refl) (owns_none _ n _ refl))),
      (λ k old off some. keeps refl (said_next (λ v. Owns w.desk.owners n (plan_left v.left)) c
          (λ q. plan.Post (Remove n old.stamp) ∷ q) removal
          (removed_answer removal old.value) (owns_none _ n _ refl) (owns_none _ n _ refl))),
      λ k old on some. keeps refl (said_next (λ v. Owns w.desk.owners n (plan_left v.left)) c
          (λ q. plan.Notice key old (cause_handed removal) false ∷ plan.Unlock true ∷ plan.Post (Remove n old.stamp) ∷ q) removal
          (removed_answer removal old.value) (owns_none _ n _ refl) (owns_none _ n _ refl)),
    )
    on_item (plan.List_keys part) rest p o = (
      (λ more. keeps refl p),
      λ listed keys e gives. keeps refl
          (goes_none _ n c (map plan.Find keys ++ rest) (weigh_finds owning (λ key. refl) keys rest ∙ o.later)),
    )
    on_item (plan.Find key) rest p o = (
      (λ more. keeps refl p),
      (λ none. keeps refl (goes_none _ n c rest o.later)),
      (λ k stored some none. keeps refl (owns_none _ n (plan.Scan k stored ∷ rest) (omega (arith, o.later)))),
      λ k stored ids some is. keeps refl (owns_none _ n (plan.Strike k stored ∷ rest) (omega (arith, o.later))),
    )
    on_item (plan.Scan there stored) rest p o =
        ((λ seen. keeps refl (owns_none _ n rest o.later)), λ unseen. keeps refl (goes_none _ n c rest o.later))
    on_item (plan.Register test) rest p o = keeps refl (owns_none _ n [] refl)
    on_item (plan.Candidates parts) rest p o = (
      (λ none. keeps refl (owns_none _ n [] refl)),
      λ id more some. keeps refl
          (goes_none _ n (carrying c (id ∷ more)) (lists_from 0 parts (plan.Retire ∷ [])) (weigh_retiring owning (λ part. refl) refl parts)),
    )
    on_item (plan.Strike there stored) rest p o = keeps refl (goes_none _ n (carrying c _) rest o.later)
    on_item plan.Retire rest p o = keeps refl (owns_none _ n [] refl)
    on_item (plan.Reply answer) rest p o = keeps refl (owns_none _ n [] refl)
    on_item _ rest p o = keeps refl (goes_none _ n c rest o.later)

    on_plan : (plan : List (Item K V E)) → c.plan ≡ plan → Owns w.desk.owners n c.plan → OnStep eq (Leaves w n) w n c plan
    on_plan [] e p = keeps refl p
    on_plan (item ∷ rest) e p = outcomes eq (Leaves w n) w n c item rest (on_item item rest p (subst (Owns w.desk.owners n) e p))

module _ {K V E : Type 0} (eq : K → K → Bool) (laws : IsEquivalence eq) where
  -- what another call owns it owns still
  owns_still : (n m : ℕ) (f g : Load K → Option ℕ) (plan : List (Item K V E)) → (n == m) ≡ false → OthersOwn n f g → Owns f m plan →
      Owns g m plan
  owns_still n m f g plan h others o = record { first = λ load e. others m h load (o.first load e); later = o.later }

  owned : (s : State K V E) (n : ℕ) (w : World K V E) (next : Next K V E) → IsOwned eq s → Leaves eq s.world n w next →
      IsOwned eq (state_after s n w next)
  owned s n w next i l = record {
    one_owner = l.one_owner;
    calls = λ m c live.
        put_cases s.calls n next.left m (Some c) (Owns w.desk.owners m c.plan) live
        (λ here is. subst (λ v. Owns w.desk.owners v c.plan) here (subst (λ v. Owns w.desk.owners n (plan_left v)) is l.owns))
        (λ there is. owns_still n m s.world.desk.owners w.desk.owners c.plan there l.others (i.calls m c is));
  }

  owned_step : (s t : State K V E) (n : ℕ) (turn : Turn K V E) → IsOwned eq s → Step eq s n turn t → IsOwned eq t
  owned_step s t n turn i step =
      let c : Call K V E = step.call in
      step_cases eq (Leaves eq s.world n) (λ v _. IsOwned eq v) s t n turn step
      (on_plan eq laws s.world n c i.one_owner c.plan refl (i.calls n c step.live)) (λ w next. owned s n w next i)

  owned_kept : IsInvariant eq (IsOwned {K = K} {V = V} {E = E} eq)
  owned_kept = record {
    fresh = λ division divides rules size built has_log. record { one_owner = λ a b e. refl; calls = λ n c live. absurd (none_some live) };
    at = λ s moment i. record { one_owner = i.one_owner; calls = i.calls };
    start = λ s start i. record {
      one_owner = i.one_owner;
      calls = λ m c live.
          put_cases s.calls (s.world.desk.last + 1) (Some (fresh_call s.world.table.division.parts s.world.desk.rules start)) m (Some c) (Owns s.world.desk.owners m c.plan) live
          (λ here is. subst (λ v. Owns s.world.desk.owners m (plan_left v)) is (fresh_owns s.world.desk.owners m s.world.table.division.parts s.world.desk.rules start))
          (λ there is. i.calls m c is);
    };
    step = owned_step;
    tell = λ s n given asked i. record { one_owner = i.one_owner; calls = i.calls };
    hear = λ s n off running i. record { one_owner = i.one_owner; calls = i.calls };
    drop = λ s n c live between i. record {
      one_owner = without_one_owner eq s.world.desk n i.one_owner;
      calls = λ m b lives.
          put_cases s.calls n None m (Some b) (Owns (owners_without s.world.desk n) m b.plan) lives
          (λ here is. absurd (none_some is))
          (λ there is. owns_still n m s.world.desk.owners (owners_without s.world.desk n) b.plan there (without_others eq s.world.desk n)
          (i.calls m b is));
    };
  }

  pub in_owned : (s : State K V E) → IsReached eq s → IsOwned eq s
  in_owned s h = in_reached eq (IsOwned eq) owned_kept s h

  -- a plan that waits for the answer to an ask of the load wants that owned
  asks_wanted : (p : List (Item K V E)) (load : Load K) → AsksFor p load → wanted p ≡ Some load
  asks_wanted (plan.Told asked ∷ []) load e = ap Some (sym e)
  asks_wanted (plan.Told_op compute found ∷ []) load e = ap Some (sym e)
  asks_wanted _ load e = absurd e

  -- a call with an open initializer owns its load
  initializer_owns : (s : State K V E) → IsOwned eq s → (n : ℕ) (load : Load K) → Initializes s n load → s.world.desk.owners load ≡ Some n
  initializer_owns s i n load h =
      (i.calls n h.call h.live).first load (asks_wanted h.call.plan load h.asked)

  pub one_initializes : (s : State K V E) → IsReached eq s → (n m : ℕ) (a b : Load K) → Initializes s n a → Initializes s m b →
      load_eq eq a b ≡ true → n ≡ m
  one_initializes s h n m a b x y e =
      let i = in_owned s h in
      some_same (sym (initializer_owns s i n a x) ∙ i.one_owner a b e ∙ initializer_owns s i m b y)
