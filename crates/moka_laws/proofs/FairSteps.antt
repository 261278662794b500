-- A fresh call is fair where what it brings is, and each access of a fair call leaves it and the
-- table fair: it stores only pairs of P, and hands out only values of R.
use Rattle.moka_hist.specs.Computing.{after_told_op, end_compute, put_told}
use Rattle.moka_hist.specs.Entries.{put_answer, unchanged}
use Rattle.moka_hist.specs.Finite.{put_at, put_key}
use Rattle.moka_hist.specs.Invalidating.{registering_answer}
use Rattle.moka_hist.specs.Loading.{after_read, after_told}
use Rattle.moka_hist.specs.Looking.{finds_pair, hits, keeps, misses}
use Rattle.moka_hist.specs.Maintenance.{carrying}
use Rattle.moka_hist.specs.Next.{Next, goes}
use Rattle.moka_hist.specs.Plan as plan
use Rattle.moka_hist.specs.Plan.{Item, Aim, told_on, Removal, plan_of, is_disabled, get_plan, insert_plan, load_plan, or_insert_plan, seek, under_lock, iter_plan, lists_from, pending_plan}
use Rattle.moka_hist.specs.State.{World, Call, DeskPart}
use Rattle.moka_hist.specs.Step.{Gets, access_of, next_of}
use Rattle.moka_hist.specs.Tables.{taken_by}
use Rattle.moka_hist.specs.Visits.{registering}
use Rattle.moka_hist.specs.Writing.{cause_handed, nothing_answer, removed_answer, said, stamp_asked}
use Rattle.moka_hist.specs.Run.{reply_of}
use Rattle.moka_hist.specs.declared.accesses.Got.{Got}
use Rattle.moka_hist.specs.declared.accesses.Turn.{Turn}
use Rattle.moka_hist.specs.declared.accesses.Turn.TheVariants as turn
use Rattle.moka_hist.specs.declared.replies.Ask.TheVariants as ask
use Rattle.moka_hist.specs.declared.events.Op.TheVariants as op
use Rattle.moka_hist.specs.declared.events.Start.TheVariants as start
use Rattle.moka_hist.specs.declared.events.Start.{Start}
use Rattle.moka_hist.specs.declared.events.Told.TheVariants as told
use Rattle.moka_hist.specs.declared.events.Told.{Told}
use Rattle.moka_hist.specs.declared.loads.Compute.{Compute}
use Rattle.moka_hist.specs.declared.loads.Kind.TheVariants as kind
use Rattle.moka_hist.specs.declared.loads.Load.{Load}
use Rattle.moka_hist.specs.declared.loads.Sought.{Sought}
use Rattle.moka_hist.specs.declared.predicates.PredicateError.TheVariants as refused
use Rattle.moka_hist.specs.declared.predicates.PredicateError.{PredicateError}
use Rattle.moka_hist.specs.declared.records.Stored.{Stored}
use Rattle.moka_hist.specs.declared.replies.Answer.TheVariants as answer
use Rattle.moka_hist.specs.declared.replies.Answer.{Answer}
use Rattle.moka_hist.specs.declared.rules.Rules.{Rules}
use Rattle.moka_hist.specs.declared.visits.Found.TheVariants as found
use Rattle.moka_hist.specs.declared.visits.Settled.TheVariants as settled
use Rattle.moka_hist.specs.declared.visits.Settled.{Settled}
use Rattle.moka_hist.specs.declared.writes.Write.TheVariants.{Remove, Upsert}
use Rattle.moka_laws.proofs.Counting.{none_some, some_same, put_here, put_there}
use Rattle.moka_laws.proofs.Outcomes.{Outcomes, computes_of, outcomes, passes_by}
use Rattle.moka_laws.proofs.Rules.{abort_next, shown_next, chosen_next, kept_next, loaded_plans, put_plans, read_key_next}
use Rattle.moka_laws.proofs.StepCases.{OnStep, by_plan}
use Rattle.moka_laws.proofs.Walks.{Ends, Finds, IsWalk, Lists, Scans, walk_is_walk, Chooses, Retires, Strikes}
use Rattle.moka_laws.specs.Fair.{AimFair, KeepsLoads, Leads, NextFair, PairFair, PlanFair, RestFair, TableFair, ToldFair, TurnFair, ValueFair, ready}
use Rattle.moka_laws.specs.Given.{asked_key, handed, value_in, value_of}
use Rattle.moka_laws.specs.Starts.{brought, key_started}
use Rattle.std.proofs.Common.{◌≡◌, ℕ, ◌+◌, ◌==◌, Bool, true, false, cond, List, [], ◌∷◌, Option, Some, None, Result, Ok, Err, refl, sym, ap, ◌∙◌, subst, map, ◌++◌, zero, suc}
use Rattle.std.specs.Option.{option_map}
use Rattle.std.specs.Prelude.{unwrap_or}

-- what is taken out is gone, and what is left was there
pub out_was : {A : Type 0} (b : Bool) (p : A) (old : Option A) → cond b None old ≡ Some p → old ≡ Some p
out_was true p old is = absurd (none_some is)
out_was false p old is = is

taken_was : {K V : Type 0} (stamp : Option ℕ) (there : Option (K × Stored V)) (p : K × Stored V) →
    taken_by stamp there ≡ Some p → there ≡ Some p
taken_was stamp None p e = absurd (none_some e)
taken_was None (Some pair) p e = e
taken_was (Some stamp) (Some pair) p e = by (pair.1.stamp == stamp) e
  where
    by : (b : Bool) → cond b (Some pair) None ≡ Some p → Some pair ≡ Some p
    by true e = e
    by false e = absurd (none_some e)

module _ {K V : Type 0} (R : K → V → Type 0) (q : K) where
  one_fair : (value : V) → R q value → ValueFair R q (Some value)
  one_fair value h v e = subst (R q) (some_same e) h

  none_fair : ValueFair R q None
  none_fair v e = absurd (none_some e)

-- who registers a predicate is handed no value
pub registered_says : (K V E : Type 0) (registering : Result ℕ PredicateError) →
    value_of (registering_answer {K = K} {V = V} {E = E} registering) ≡ None
registered_says K V E (Ok id) = refl
registered_says K V E (Err refused.InvalidationClosuresDisabled) = refl
registered_says K V E (Err refused.NoId) = refl
registered_says K V E (Err refused.Memory) = refl

registered_fair : {K V : Type 0} (E : Type 0) (R : K → V → Type 0) (q : K)
    (registering : Result ℕ PredicateError) →
    ValueFair R q (value_of (registering_answer {K = K} {V = V} {E = E} registering))
registered_fair {K} {V} E R q registering v e =
    absurd (none_some (sym (registered_says K V E registering) ∙ e))

-- what was given for the key may be handed out for it
own_fair : {K V : Type 0} (P R : K → V → Type 0) (q : K) (eq : K → K → Bool) → Leads P R eq →
    (key : K) (value : V) → P key value → key ≡ q → R q value
own_fair P R q eq leads key value h is = subst (λ k. R k value) is (leads.own key value h)

none_told : {K V : Type 0} (E : Type 0) (P : K → V → Type 0) (key : K) → ToldFair {E = E} P key None
none_told E P key g v e = absurd (none_some e)

module _ {K V : Type 0} (P R : K → V → Type 0) (q : K) where
  pair_fair : (key : K) (value : V) → P key value → R q value → PairFair P R q (Some (key, value))
  pair_fair key value p r pair e = subst (λ o. P o.0 o.1 × R q o.1) (some_same e) (p, r)

  no_pair : PairFair P R q None
  no_pair pair e = absurd (none_some e)

  -- the value of such a pair may be handed out
  pair_value : (pair : Option (K × V)) → PairFair P R q pair → ValueFair R q (option_map (λ p. p.1) pair)
  pair_value None f = none_fair R q
  pair_value (Some pair) f = one_fair R q pair.1 (f pair refl).1

-- what a turn hands out, as it is replied
pub turn_hands : {K V E : Type 0} (P R : K → V → Type 0) (q : K) (t : Turn K V E) → TurnFair P R q t →
    ValueFair R q (handed (reply_of t))
turn_hands P R q turn.Going f = f
turn_hands P R q turn.Wait f = f
turn_hands P R q (turn.Ask ask.Init) f = f
turn_hands P R q (turn.Ask (ask.Compute None)) f = λ value e. absurd (none_some e)
turn_hands P R q (turn.Ask (ask.Compute (Some pair))) f = λ value e. subst (R q) (some_same e) (f pair refl).1
turn_hands P R q (turn.Ask (ask.Listener key value cause)) f = λ told e. subst (R q) (some_same e) f.1
turn_hands P R q (turn.Answer said) f = f
turn_hands P R q (turn.Item key value) f = f

module _ {K V E : Type 0} (P R : K → V → Type 0) (q : K) where
  lists_fair : (rest : List (Item K V E)) → RestFair P R q rest → (part left : ℕ) → RestFair P R q (lists_from part left rest)
  lists_fair rest f part zero = f
  lists_fair rest f part (suc left) = (tt, lists_fair rest f (part + 1) left)

  keys_fair : (keys : List K) (rest : List (Item K V E)) → RestFair P R q rest → RestFair P R q (map plan.Find keys ++ rest)
  keys_fair [] rest f = f
  keys_fair (key ∷ keys) rest f = (tt, keys_fair keys rest f)

  pub rest_fair : (told : Option (Told V E)) (rest : List (Item K V E)) → RestFair P R q rest →
      PlanFair P R q told rest
  rest_fair told [] h = h
  rest_fair told (plan.Told load ∷ rest) h = absurd h.0
  rest_fair told (plan.Told_op compute found ∷ rest) h = absurd h.0
  rest_fair told (_ ∷ rest) h = h

  goes_fair : (told : Option (Told V E)) (c : Call K V E) (rest : List (Item K V E)) →
      RestFair P R q rest → NextFair P R q told (goes c rest)
  goes_fair told c [] h = (h, none_fair R q)
  goes_fair told c (plan.Reply a ∷ []) h = (tt, h.0)
  goes_fair told c (plan.Reply a ∷ x ∷ rest) h = (h, none_fair R q)
  goes_fair told c (plan.Told load ∷ rest) h = absurd h.0
  goes_fair told c (plan.Told_op compute found ∷ rest) h = absurd h.0
  goes_fair told c (_ ∷ rest) h = (h, none_fair R q)

  said_fair : (removal : Removal K) (a : Answer K V E) → ValueFair R q (value_of a) →
      RestFair {E = E} P R q (said removal a)
  said_fair (plan.To_remove_as_told key) a h = (none_fair R q, (h, tt))
  said_fair _ a h = (h, tt)

  -- a removal that found nothing answers no value, and one that took a record out no other
  nothing_fair : (c : Call K V E) (removal : Removal K) →
      RestFair {E = E} P R q (said removal (nothing_answer removal))
  nothing_fair c (plan.To_remove_as_told key) = (none_fair R q, (none_fair R q, tt))
  nothing_fair c _ = (none_fair R q, tt)

  removed_fair : (c : Call K V E) (removal : Removal K) (value : V) → R q value →
      RestFair {E = E} P R q (said removal (removed_answer removal value))
  removed_fair c plan.To_remove value h = (one_fair R q value h, tt)
  removed_fair c (plan.To_remove_as_told key) value h =
      (none_fair R q, (one_fair R q value h, tt))
  removed_fair c _ value h = (none_fair R q, tt)

  unchanged_fair : (c : Call K V E) (key : K) (pair : Option (K × V)) →
      ValueFair R q (option_map (λ pair. pair.1) pair) →
      RestFair {E = E} P R q (end_compute (unchanged key pair))
  unchanged_fair c key None h = (none_fair R q, (h, tt))
  unchanged_fair c key (Some pair) h = (none_fair R q, (h, tt))

  put_answer_fair : (c : Call K V E) (key : K) (pair : Option (K × V)) (value : V) → R q value →
      RestFair {E = E} P R q (end_compute (put_answer key pair value))
  put_answer_fair c key None value h = (none_fair R q, (one_fair R q value h, tt))
  put_answer_fair c key (Some pair) value h = (none_fair R q, (one_fair R q value h, tt))

  told_on_fair : (c : Call K V E) (value : V) → R q value → RestFair {E = E} P R q (told_on value)
  told_on_fair c value h = (one_fair R q value h, (one_fair R q value h, tt))

  keeps_fair : (told : Option (Told V E)) (c : Call K V E) → NextFair P R q told (keeps c)
  keeps_fair told c = kept_next (λ v. NextFair P R q told v) c (λ off. (tt, none_fair R q))
      (λ on. ((tt, (none_fair R q, tt)), none_fair R q))

  finds_fair : (told : Option (Told V E)) (c : Call K V E) (aim : Aim K V) (there : K)
      (seen : Stored V) → P there seen.value → R q seen.value → AimFair P q aim →
      NextFair P R q told (finds_pair c aim there seen)
  finds_fair told c (plan.To_evict key stamp cause) there seen s r h =
      chosen_next (λ v. NextFair P R q told v) c key stamp cause there seen (λ off. (tt, none_fair R q))
      (λ on. ((tt, (none_fair R q, tt)), none_fair R q)) ((h, tt), none_fair R q)
  finds_fair told c _ there seen s r h = ((((s, r), h), tt), none_fair R q)

  hits_fair : (told : Option (Told V E)) (c : Call K V E) (aim : Aim K V) (there : K) (value : V) →
      P there value → R q value → AimFair P q aim → PlanFair P R q told c.plan →
      NextFair P R q told (hits c aim there value)
  hits_fair told c (plan.To_show form) there value s r h p = (
    tt,
    shown_next (λ a. ValueFair R q (value_of a)) form (Some (there, value)) (one_fair R q value r)
        (λ key. one_fair R q value r),
  )
  hits_fair told c (plan.To_own sought) there value s r h p =
      ((one_fair R q value r, (one_fair R q value r, tt)), none_fair R q)
  hits_fair told c (plan.To_compute compute) there value s r h p =
      (((h, pair_fair P R q there value s r), tt), none_fair R q)
  hits_fair told c (plan.To_evict key stamp cause) there value s r h p = (p, none_fair R q)
  hits_fair told c _ there value s r h p = (tt, one_fair R q value r)

  read_fair : (told : Option (Told V E)) (c : Call K V E) (sought : Sought K) (with : Settled V E) →
      sought.load.key ≡ q → ValueFair R q (ready with) → PlanFair P R q told c.plan →
      NextFair P R q told (after_read c sought (found.ReadSettled with))
  read_fair told c sought settled.NotYet h r p = (p, r)
  read_fair told c sought settled.Aborted h r p =
      abort_next (NextFair P R q told) c sought (tt, r) ((h, tt), r)
  read_fair told c sought _ h r p = (tt, r)

  module _ (eq : K → K → Bool) (leads : Leads P R eq) where
    misses_fair : (told : Option (Told V E)) (c : Call K V E) (aim : Aim K V) → AimFair P q aim →
        NextFair P R q told (misses c aim)
    misses_fair told c (plan.To_show form) h = (
      tt,
      shown_next (λ a. ValueFair R q (value_of a)) form None (none_fair R q)
          (λ key. none_fair R q),
    )
    misses_fair told c (plan.To_compute compute) h = (((h, no_pair P R q), tt), none_fair R q)
    misses_fair told c (plan.To_insert key value) h =
        let r : ValueFair R q (Some value) = one_fair R q value (own_fair P R q eq leads key value h.0 h.1) in
        put_plans (λ p. NextFair P R q told (goes c p)) c.rules key value
        (plan.Reply (answer.Loaded value true) ∷ []) ((tt, (h, (r, tt))), none_fair R q)
        ((tt, (tt, (h, (r, tt)))), none_fair R q)
    misses_fair told c (plan.To_evict key stamp cause) h = keeps_fair told c
    misses_fair told c _ h = ((h, tt), none_fair R q)

    told_fair : (o : Option (Told V E)) (c : Call K V E) (load : Load K) (given : Told V E) →
        load.key ≡ q → ((value : V) → value_in given ≡ Some value → P load.key value) →
        PlanFair P R q o c.plan → NextFair P R q o (after_told c load (found.TakeTold (Some given)))
    told_fair o c load (told.Value value) is gave p =
        let h : P load.key value = gave value refl in
        let r = told_on_fair c value (own_fair P R q eq leads load.key value h is) in
        loaded_plans (λ rest. NextFair P R q o (goes c rest)) c.rules load value (r, none_fair R q)
        ((tt, ((h, is), r)), none_fair R q) ((tt, (tt, ((h, is), r))), none_fair R q)
    told_fair o c load told.Nothing is gave p =
        ((none_fair R q, (none_fair R q, tt)), none_fair R q)
    told_fair o c load (told.Err error) is gave p =
        ((none_fair R q, (none_fair R q, tt)), none_fair R q)
    told_fair o c load _ is gave p = (p, none_fair R q)

    puts_fair : (o : Option (Told V E)) (c : Call K V E) (key : K) (pair : Option (K × V))
        (value : V) → P key value → key ≡ q → (b : Bool) →
        NextFair P R q o (goes c (put_told b c key pair value))
    puts_fair o c key pair value h is b = by b
      where
        r : RestFair {E = E} P R q (end_compute (put_answer key pair value))
        r = put_answer_fair c key pair value (own_fair P R q eq leads key value h is)

        by : (b : Bool) → NextFair P R q o (goes c (put_told b c key pair value))
        by true = goes_fair o c (end_compute (put_answer key pair value)) r
        by false = put_plans (λ rest. NextFair P R q o (goes c rest)) c.rules key value
            (end_compute (put_answer key pair value)) ((tt, ((h, is), r)), none_fair R q)
            ((tt, (tt, ((h, is), r))), none_fair R q)

    out_fair : (c : Call K V E) (removal : Removal K) (key : K) → key ≡ q → (b : Bool) →
        RestFair {E = E} P R q (under_lock b key (plan.Moment (plan.To_take_out removal key) ∷ []))
    out_fair c removal key is true = (tt, (is, tt))
    out_fair c removal key is false = (is, tt)

    told_op_fair : (o : Option (Told V E)) (c : Call K V E) (compute : Compute K)
        (pair : Option (K × V)) (given : Told V E) → compute.key ≡ q →
        PairFair P R q pair →
        ((value : V) → value_in given ≡ Some value → P compute.key value) → PlanFair P R q o c.plan →
        NextFair P R q o (after_told_op c compute pair (found.TakeTold (Some given)))
    told_op_fair o c compute pair (told.Op op.Nop) is r gave p =
        goes_fair o c (end_compute (unchanged compute.key pair)) (unchanged_fair c compute.key pair (pair_value P R q pair r))
    told_op_fair o c compute pair (told.Op (op.Put value)) is r gave p =
        puts_fair o c compute.key pair value (gave value refl) is (is_disabled c.rules)
    told_op_fair o c compute pair (told.Value value) is r gave p =
        puts_fair o c compute.key pair value (gave value refl) is (is_disabled c.rules)
    told_op_fair o c compute pair (told.Op op.Remove) is r gave p = (
      (tt, out_fair c (plan.To_remove_as_told compute.key) compute.key is c.rules.listener),
      none_fair R q,
    )
    told_op_fair o c compute pair (told.Err error) is r gave p =
        ((none_fair R q, (none_fair R q, tt)), none_fair R q)
    told_op_fair o c compute pair _ is r gave p = (p, none_fair R q)

    -- what a step has to show
    module _ (D : (Load K → Option ℕ) → (ℕ → Option ℕ) → (ℕ → Option (Settled V E)) → Type 0) where
      -- what a step has to show
      pub record Leaves (d : DeskPart K V E) (n : ℕ) (new : World K V E) (next : Next K V E) : Type 0
        where
          pub table : TableFair P eq new.table.stored
          pub desk : D new.desk.owners new.desk.joined new.desk.settled
          pub told : (m : ℕ) → (n == m) ≡ false → new.desk.told m ≡ d.told m
          pub fair : NextFair P R q (new.desk.told n) next

      module _ (w : World K V E) (n : ℕ) (c : Call K V E)
          (table : TableFair P eq w.table.stored)
          (loads : KeepsLoads R q eq D w.desk n c)
          (p : PlanFair P R q (w.desk.told n) c.plan) where
        abbrev After : World K V E → Next K V E → Type 0
        After new next = Leaves w.desk n new next

        -- nothing was told or taken
        still : {new : World K V E} {next : Next K V E} → TableFair P eq new.table.stored →
            D new.desk.owners new.desk.joined new.desk.settled →
            new.desk.told ≡ w.desk.told → NextFair P R q (w.desk.told n) next → Leaves w.desk n new next
        still {new} {next} t d e h = record {
          table = t;
          desk = d;
          told = λ m other. ap (λ f. f m) e;
          fair = subst (λ v. NextFair P R q v next) (sym (ap (λ f. f n) e)) h;
        }

        goes_on : {new : World K V E} (rest : List (Item K V E)) → TableFair P eq new.table.stored →
            D new.desk.owners new.desk.joined new.desk.settled →
            new.desk.told ≡ w.desk.told → RestFair P R q rest → Leaves w.desk n new (goes c rest)
        goes_on rest t d e h = still t d e (goes_fair (w.desk.told n) c rest h)

        -- so where it carries predicates
        goes_as : {new : World K V E} (other : Call K V E) (rest : List (Item K V E)) → TableFair P eq new.table.stored →
            D new.desk.owners new.desk.joined new.desk.settled →
            new.desk.told ≡ w.desk.told → RestFair P R q rest → Leaves w.desk n new (goes other rest)
        goes_as other rest t d e h = still t d e (goes_fair (w.desk.told n) other rest h)

        -- the call has taken what it was told, or has just asked
        took : {new : World K V E} {next : Next K V E} → TableFair P eq new.table.stored →
            D new.desk.owners new.desk.joined new.desk.settled →
            new.desk.told ≡ put_at w.desk.told n None → NextFair P R q None next → Leaves w.desk n new next
        took {new} {next} t d e h = record {
          table = t;
          desk = d;
          told = λ m other. ap (λ f. f m) e ∙ put_there w.desk.told n None m other;
          fair = subst (λ v. NextFair P R q v next) (sym (ap (λ f. f n) e ∙ put_here w.desk.told n None)) h;
        }

        taken : (key : K) → TableFair P eq (put_key eq w.table.stored key None)
        taken key x y e = table x y (out_was (eq key x) y (w.table.stored x) e)

        wrote : (key : K) (new : Stored V) → P key new.value →
            TableFair P eq (put_key eq w.table.stored key (Some (key, new)))
        wrote key new h x y e = by (eq key x) refl e
          where
            by : (b : Bool) → eq key x ≡ b → cond b (Some (key, new)) (w.table.stored x) ≡ Some y →
                P y.0 y.1.value × (eq y.0 x ≡ true)
            by true is e =
                subst (λ v. P v.0 v.1.value × (eq v.0 x ≡ true)) (some_same e) (h, is)
            by false is e = table x y e

        -- what is found where the call's key is looked up may be handed out
        seen : (key there : K) (stored : Stored V) → key ≡ q →
            w.table.stored key ≡ Some (there, stored) → R q stored.value
        seen key there stored is e =
            let t = table key (there, stored) e in
            subst (λ k. R k stored.value) is (leads.near there key stored.value t.0 t.1)

        on_item : (item : Item K V E) (rest : List (Item K V E)) → c.plan ≡ item ∷ rest →
            PlanFair P R q (w.desk.told n) (item ∷ rest) → Outcomes eq After w n c item rest
        on_item plan.Drain rest is f = (
          λ e. goes_on rest table loads.now refl f.1,
          λ x xs e. goes_on (plan.Post x ∷ plan.Drain ∷ rest) table loads.now refl (tt, f),
          λ x number xs e. goes_on (plan.Ended number ∷ plan.Post x ∷ plan.Drain ∷ rest) table loads.now
              refl (tt, (tt, f)),
        )
        on_item (plan.Notice key old cause upsert) rest is f = (
          λ e. goes_on rest table loads.now refl f.1,
          λ e. still table loads.now refl ((tt, f.1), f.0),
        )
        on_item (plan.Post write) rest is f = (
          λ e. goes_on rest table loads.now refl f.1,
          λ e. goes_on (plan.Turn ∷ plan.Apply ∷ plan.End ∷ plan.Post write ∷ rest) table loads.now refl
              (tt, (tt, (tt, f))),
        )
        on_item plan.Apply rest is f = (
          λ e. goes_on rest table loads.now refl f.1,
          λ x xs e. goes_on (plan.Apply ∷ rest) table loads.now refl f,
        )
        on_item (plan.Get aim key) rest is f = (
          λ more. still table loads.now refl (p, none_fair R q),
          λ none. still table loads.now refl (misses_fair (w.desk.told n) c aim f.0.1),
          λ there stored some. still table loads.now refl
              (finds_fair (w.desk.told n) c aim there stored (table key (there, stored) some).0
              (seen key there stored f.0.0 some) f.0.1),
        )
        on_item (plan.Judge aim key stored) rest is f = (
          λ yes. still table loads.now refl (hits_fair (w.desk.told n) c aim key stored.value f.0.0.0 f.0.0.1 f.0.1 p),
          λ no. still table loads.now refl (misses_fair (w.desk.told n) c aim f.0.1),
        )
        on_item (plan.Own sought) rest is f = (
          λ able e. still table (loads.owned sought.load f.0) refl (((f.0, f.0), tt), none_fair R q),
          λ disabled e. still table (loads.owned sought.load f.0) refl ((f.0, tt), none_fair R q),
          λ owner e. still table (loads.joins sought.load owner f.0 e) refl ((f.0, tt), none_fair R q),
        )
        on_item (plan.Own_key compute) rest is f = (
          (
            (λ able e. still table (loads.owned (computes_of compute.key) f.0) refl
                ((tt, ((f.0, f.0), tt)), none_fair R q)),
            λ disabled e. still table (loads.owned (computes_of compute.key) f.0) refl
                ((tt, ((f.0, no_pair P R q), tt)), none_fair R q),
          ),
          λ owner e. still table (loads.joins (computes_of compute.key) owner f.0 e) refl
              ((f.0, tt), none_fair R q),
        )
        on_item (plan.Own_alone key) rest is f = (
          (
            (λ able e. still table (loads.owned (computes_of key) f.0) refl
                ((tt, ((f.0, f.0), tt)), none_fair R q)),
            λ disabled e. still table (loads.owned (computes_of key) f.0) refl
                ((tt, ((f.0, no_pair P R q), tt)), none_fair R q),
          ),
          λ owner e. (
            (λ able. still table loads.now refl ((tt, ((f.0, tt), tt)), none_fair R q)),
            λ not. still table loads.now refl ((tt, (none_fair R q, tt)), none_fair R q),
          ),
        )
        on_item (plan.Read sought) rest is f = (
          λ e. still table loads.now refl (p, none_fair R q),
          λ with e. still table loads.was_read refl
              (read_fair (w.desk.told n) c sought with f.0 (loads.reads sought rest is with e) p),
        )
        on_item (plan.Read_key compute) rest is f = (
          λ e. still table loads.now refl (p, none_fair R q),
          λ with e. still table loads.was_read refl
              (read_key_next (λ v. NextFair P R q (w.desk.told n) v) c compute with (p, none_fair R q)
              ((f.0, tt), none_fair R q)),
        )
        on_item (plan.Settle with) rest is f = goes_on rest table (loads.settles with rest is f.0) refl f.1
        on_item (plan.Ask load) rest is f =
            took table loads.now refl (((f.0, none_told E P load.key), tt), none_fair R q)
        on_item (plan.Ask_op compute pair) rest is f =
            took table loads.now refl (((f.0.0, f.0.1, none_told E P compute.key), tt), f.0.1)
        on_item (plan.Told load) rest is f = (
          λ e. still table loads.now refl (p, none_fair R q),
          λ given e. took table loads.now refl (told_fair None c load given f.0.0
              (λ v g. f.0.1 given v e g)
              (subst (PlanFair P R q None) (sym is) ((f.0.0, none_told E P load.key), f.1))),
        )
        on_item (plan.Told_op compute pair) rest is f = (
          λ e. still table loads.now refl (p, none_fair R q),
          λ given e. took table loads.now refl (told_op_fair None c compute pair given f.0.0 f.0.1
              (λ v g. f.0.2 given v e g)
              (subst (PlanFair P R q None) (sym is) ((f.0.0, f.0.1, none_told E P compute.key), f.1))),
        )
        on_item (plan.Holds key stamp cause there stored) rest is f = (
          λ e. still table loads.now refl ((f.0, tt), none_fair R q),
          λ e. still table loads.now refl (keeps_fair (w.desk.told n) c),
        )
        on_item (plan.Moment (plan.To_store key value)) rest is f =
            goes_on (plan.Write key value w.desk.clock ∷ rest) table loads.now refl f
        on_item (plan.Moment (plan.To_take_out removal key)) rest is f =
            goes_on (plan.Out removal key ∷ rest) table loads.now refl f
        on_item (plan.Write key value moment) rest is f =
            let new : Stored V = record { value = value; stamp = n; modified = moment } in
            let t : TableFair P eq (put_key eq w.table.stored key (Some (key, new))) =
            wrote key new f.0.0 in (
              λ more. still table loads.now refl (p, none_fair R q),
              λ off old. goes_on (plan.Post (Upsert n old) ∷ rest) t loads.now refl (tt, f.1),
              λ on. goes_on (plan.Unlock true ∷ plan.Post (Upsert n None) ∷ rest) t loads.now refl
                  (tt, (tt, f.1)),
              λ there old on some. goes_on
                  (plan.Notice key old None true ∷ plan.Unlock true ∷
                  plan.Post (Upsert n (Some old.stamp)) ∷ rest)
                  t loads.now refl ((f.0.1, seen key there old f.0.1 some), (tt, (tt, f.1))),
            )
        on_item (plan.Out removal key) rest is f = (
          λ more. still table loads.now refl (p, none_fair R q),
          λ off none. still table loads.now refl ((tt, nothing_fair c removal), none_fair R q),
          λ on none. still table loads.now refl ((tt, nothing_fair c removal), none_fair R q),
          λ there old off some. goes_on
              (plan.Post (Remove n old.stamp) ∷ said removal (removed_answer removal old.value))
              (taken key) loads.now refl (tt, removed_fair c removal old.value (out there old some)),
          λ there old on some. goes_on
              (plan.Notice key old (cause_handed removal) false ∷ plan.Unlock true ∷
              plan.Post (Remove n old.stamp) ∷ said removal (removed_answer removal old.value))
              (taken key) loads.now refl
              ((f.0, out there old some), (tt, (tt, removed_fair c removal old.value (out there old some)))),
        )
          where
            out : (there : K) (old : Stored V) →
                taken_by (stamp_asked removal) (w.table.stored key) ≡ Some (there, old) →
                R q old.value
            out there old some =
                seen key there old f.0 (taken_was (stamp_asked removal) _ (there, old) some)
        on_item (plan.List_keys part) rest is f = (
          λ more. still table loads.now refl (p, none_fair R q),
          λ listed keys e gives. goes_on (map plan.Find keys ++ rest) table loads.now refl (keys_fair keys rest f.1),
        )
        on_item (plan.Find key) rest is f = (
          λ more. still table loads.now refl (p, none_fair R q),
          λ none. goes_on rest table loads.now refl f.1,
          λ there stored some none. goes_on (plan.Scan there stored ∷ rest) table loads.now refl (tt, f.1),
          λ there stored ids some is. goes_on (plan.Strike there stored ∷ rest) table loads.now refl (tt, f.1),
        )
        on_item (plan.Scan there stored) rest is f = (
          λ yes. still table loads.now refl (rest_fair (w.desk.told n) rest f.1, none_fair R q),
          λ no. goes_on rest table loads.now refl f.1,
        )
        on_item (plan.Register test) rest is f = still table loads.now refl (tt, registered_fair E R q (registering w.desk))
        on_item (plan.Candidates parts) rest is f = (
          λ none. still table loads.now refl (tt, none_fair R q),
          λ id more some. goes_as (carrying c (id ∷ more)) (lists_from 0 parts (plan.Retire ∷ [])) table loads.now refl (lists_fair (plan.Retire ∷ []) (tt, tt) 0 parts),
        )
        on_item (plan.Strike there stored) rest is f = goes_as (carrying c _) rest table loads.now refl f.1
        on_item plan.Retire rest is f = still table loads.now refl (tt, none_fair R q)
        on_item (plan.Reply a) rest is f = still table loads.now refl (tt, f.0)
        on_item item rest is f = passes_by eq After w n c item rest tt
            (λ d a. goes_on rest table (rw (a.owners, a.joined, a.settled) loads.now) a.told f.1)
            (still table loads.now refl (p, none_fair R q))

        pub on_plan : (rest : List (Item K V E)) → c.plan ≡ rest → OnStep eq After w n c rest
        on_plan [] is = still table loads.now refl (p, none_fair R q)
        on_plan (item ∷ rest) is = outcomes eq After w n c item rest
            (on_item item rest is (subst (PlanFair P R q (w.desk.told n)) is p))

        -- whatever the call's access gives, what is left of it is fair, and the table then
        pub access_fair : (given : Got K V E) (new : World K V E) →
            Gets eq n w (access_of n c) given new → Leaves w.desk n new (next_of n c given)
        access_fair given new gets =
            by_plan eq After w n c.rules c.mode c.plan c.aborts c.carried given new gets (on_plan c.plan refl)

module _ {K V : Type 0} (E : Type 0) (P R : K → V → Type 0) where
  -- what a fresh call is to store, or hands out, is what it was started with
  lock_fair : (q : K) (b : Bool) (rest : List (Item K V E)) → RestFair P R q rest →
      RestFair P R q (under_lock b q rest)
  lock_fair q true rest h = (tt, h)
  lock_fair q false rest h = h

  get_fair : (q : K) (b : Bool) → RestFair P R q (get_plan {E = E} b q)
  get_fair q true = (none_fair R q, tt)
  get_fair q false = (tt, ((refl, tt), tt))

  insert_fair : (q : K) (b : Bool) (rules : Rules) (value : V) → P q value →
      RestFair P R q (insert_plan {E = E} b rules q value)
  insert_fair q true rules value h = (none_fair R q, tt)
  insert_fair q false rules value h =
      (tt, lock_fair q rules.listener _ ((h, refl), (none_fair R q, tt)))

  load_fair : (b : Bool) (sought : Sought K) →
      RestFair P R sought.load.key (load_plan {E = E} b sought)
  load_fair true sought = (tt, (refl, tt))
  load_fair false sought = (tt, ((refl, refl), tt))

  or_insert_fair : (q : K) (b : Bool) (value : V) → P q value → R q value →
      RestFair P R q (or_insert_plan {E = E} b q value)
  or_insert_fair q true value h r = (tt, (one_fair R q value r, tt))
  or_insert_fair q false value h r = (tt, ((refl, (h, refl)), tt))

  walk_fair : (q : K) (p : List (Item K V E)) → IsWalk p → RestFair P R q p
  walk_fair q p Ends = (none_fair R q, tt)
  walk_fair q p Retires = (tt, tt)
  walk_fair q p (Chooses parts) = (tt, tt)
  walk_fair q p (Strikes there stored rest walk) = (tt, walk_fair q rest walk)
  walk_fair q p (Lists part rest walk) = (tt, walk_fair q rest walk)
  walk_fair q p (Finds key rest walk) = (tt, walk_fair q rest walk)
  walk_fair q p (Scans there stored rest walk) = (tt, walk_fair q rest walk)

  iter_fair : (q : K) (b : Bool) (parts : ℕ) → RestFair P R q (iter_plan {E = E} b parts)
  iter_fair q true parts = (none_fair R q, tt)
  iter_fair q false parts = walk_fair q _ (walk_is_walk 0 parts)

  pub fresh_fair : ((q : K) (value : V) → P q value → R q value) → (parts : ℕ) (rules : Rules)
      (start : Start K V) →
      ((key : K) (value : V) → brought start ≡ Some (key, value) → P key value) → (none : K) →
      RestFair P R (unwrap_or (key_started start) none) (plan_of {E = E} parts rules start)
  fresh_fair own parts rules (start.Get key) h none = get_fair key (is_disabled rules)
  fresh_fair own parts rules (start.Insert key value) h none =
      insert_fair key (is_disabled rules) rules value (h key value refl)
  fresh_fair own parts rules (start.GetWith key replace) h none =
      load_fair (is_disabled rules) (seek kind.GetWith key replace)
  fresh_fair own parts rules (start.Optional key) h none =
      load_fair (is_disabled rules) (seek kind.Optional key None)
  fresh_fair own parts rules (start.Try key) h none = load_fair (is_disabled rules) (seek kind.Try key None)
  fresh_fair own parts rules (start.OrInsert key value) h none =
      or_insert_fair key (is_disabled rules) value (h key value refl)
      (own key value (h key value refl))
  fresh_fair own parts rules (start.Invalidate key) h none = (tt, lock_fair key rules.listener _ (refl, tt))
  fresh_fair own parts rules (start.Remove key) h none = (tt, lock_fair key rules.listener _ (refl, tt))
  fresh_fair own parts rules (start.Evict key stamp cause) h none =
      lock_fair key rules.listener _ ((refl, refl), tt)
  fresh_fair own parts rules start.InvalidateAll h none = (tt, (none_fair R none, tt))
  fresh_fair own parts rules (start.InvalidateIf test) h none = (tt, tt)
  fresh_fair own parts rules start.Pending h none = by (is_disabled rules)
    where
      by : (b : Bool) → RestFair P R none (pending_plan {E = E} b parts)
      by true = (none_fair R none, tt)
      by false = (tt, (tt, (tt, (tt, (tt, tt)))))
  fresh_fair own parts rules start.Iter h none = iter_fair none (is_disabled rules) parts
  fresh_fair own parts rules _ h none = (refl, tt)

module _ {K V E : Type 0} (P R : K → V → Type 0) where
  -- a call that is told a value for its key
  pub answered_fair : (q : K) (o : Option (Told V E)) (given : Told V E) (rest : List (Item K V E)) →
      ((key : K) (value : V) → asked_key rest ≡ Some key → value_in given ≡ Some value →
      P key value) → PlanFair P R q o rest → PlanFair P R q (Some given) rest
  answered_fair q o given [] gave p = p
  answered_fair q o given (plan.Told load ∷ rest) gave p =
      ((p.0.0, λ g v e f. gave load.key v refl (ap value_in (some_same e) ∙ f)), p.1)
  answered_fair q o given (plan.Told_op compute pair ∷ rest) gave p =
      ((p.0.0, p.0.1, λ g v e f. gave compute.key v refl (ap value_in (some_same e) ∙ f)), p.1)
  answered_fair q o given (_ ∷ rest) gave p = p
