-- A call answers as what it was started for may.
use Rattle.std.proofs.Common.{◌≡◌, ℕ, ◌+◌, ◌==◌, Bool, true, false, List, [], ◌∷◌, Option, Some, None, refl, sym, ◌∙◌, subst, map, ◌++◌, Result, Ok, Err, zero, suc}
use Rattle.std.proofs.lemmas.Bool.{false≢true}
use Rattle.moka_hist.specs.Invalidating.{registering_answer}
use Rattle.moka_hist.specs.Conditions.{may_end}
use Rattle.moka_hist.specs.State.{State, World, Call}
use Rattle.moka_hist.specs.Plan.{Item, Aim, Change, Removal, end_load, is_disabled, get_plan, insert_plan, load_plan, or_insert_plan, seek, take_out, under_lock, plan_of, iter_plan, lists_from, pending_plan, walk_from}
use Rattle.moka_hist.specs.Plan as plan
use Rattle.moka_hist.specs.Next.{Next, goes, waits}
use Rattle.moka_hist.specs.Looking.{shown, hits, misses, keeps, finds_pair}
use Rattle.moka_hist.specs.Loading.{after_read, after_abort, after_told, retries}
use Rattle.moka_hist.specs.Step.{Step, state_after, takes_of}
use Rattle.moka_hist.specs.Telling.{takes_error, does_take}
use Rattle.moka_hist.specs.Visits.{settlement_for, registering}
use Rattle.moka_hist.specs.Writing.{said, nothing_answer, removed_answer}
use Rattle.moka_hist.specs.Run.{IsReached}
use Rattle.moka_hist.specs.declared.predicates.PredicateError.{PredicateError}
use Rattle.moka_hist.specs.declared.predicates.PredicateError.TheVariants as refused
use Rattle.moka_hist.specs.declared.accesses.Turn.{Turn}
use Rattle.moka_hist.specs.declared.accesses.Turn.TheVariants as turn
use Rattle.moka_hist.specs.declared.events.Start.{Start}
use Rattle.moka_hist.specs.declared.events.Start.TheVariants as start
use Rattle.moka_hist.specs.declared.events.Told.{Told}
use Rattle.moka_hist.specs.declared.events.Told.TheVariants as told
use Rattle.moka_hist.specs.declared.loads.Kind.{Kind}
use Rattle.moka_hist.specs.declared.loads.Kind.TheVariants as kind
use Rattle.moka_hist.specs.declared.loads.Load.{Load}
use Rattle.moka_hist.specs.declared.loads.Sought.{Sought}
use Rattle.moka_hist.specs.declared.records.Stored.{Stored}
use Rattle.moka_hist.specs.declared.replies.Answer.{Answer}
use Rattle.moka_hist.specs.declared.replies.Answer.TheVariants as answer
use Rattle.moka_hist.specs.declared.rules.Rules.{Rules}
use Rattle.moka_hist.specs.declared.visits.Settled.{Settled}
use Rattle.moka_hist.specs.declared.visits.Settled.TheVariants as settled
use Rattle.moka_hist.specs.declared.visits.Found.TheVariants as found
use Rattle.moka_laws.specs.Loads.{AnswersFit}
use Rattle.moka_laws.specs.Starts.{may_answer}
use Rattle.moka_laws.proofs.Alongside.{HoldsIf, holds_since}
use Rattle.moka_laws.proofs.Counting.{none_some, some_same, put_here}
use Rattle.moka_laws.proofs.TakesFit.{AllTake, ToldFits, load_takes_no_op, compute_loses_none}
use Rattle.moka_laws.proofs.KindsOfEnds.{settlements_fit}
use Rattle.moka_laws.proofs.Owning.{plan_left}
use Rattle.moka_laws.proofs.Rules.{put_plans, loaded_plans, kept_next, chosen_next, read_key_next, told_op_next_by, IsLoad, IsComputes}
use Rattle.moka_laws.proofs.Safe.{in_well}
use Rattle.moka_laws.proofs.StepCases.{OnStep, step_cases}
use Rattle.moka_laws.proofs.Outcomes.{Outcomes, outcomes, passes_on}
use Rattle.moka_hist.specs.declared.entries.CompResult.{CompResult}
use Rattle.moka_hist.specs.declared.loads.Compute.{Compute}
use Rattle.moka_hist.specs.declared.visits.Takes.{Takes}
use Rattle.moka_hist.specs.declared.visits.Takes.TheVariants as takes
use Rattle.moka_hist.specs.Computing.{after_told_op, after_read_key}
use Rattle.moka_hist.specs.Entries.{unchanged, put_answer}
use Rattle.moka_hist.specs.Maintenance.{carrying}

same_answer : {K V E : Type 0} (a b : Answer K V E) → ◌≡◌ {A = Turn K V E} (turn.Answer a)
    (turn.Answer b) →
    a ≡ b
same_answer a b e = cc

-- the kind of load that a call was started for
abbrev pub kind_of : {K V : Type 0} → Start K V → Option Kind
kind_of (start.GetWith key replace) = Some kind.GetWith
kind_of (start.Optional key) = Some kind.Optional
kind_of (start.Try key) = Some kind.Try
kind_of _ = None

-- ---- what a load may answer

module _ {K V : Type 0} (E : Type 0) where
  loads_may : (begin : Start K V) (k : Kind) (value : V) (fresh : Bool) → kind_of begin ≡ Some k →
      may_answer {E = E} begin (answer.Loaded value fresh) ≡ true
  loads_may (start.GetWith key replace) k value fresh e = refl
  loads_may (start.Optional key) k value fresh e = refl
  loads_may (start.Try key) k value fresh e = refl
  loads_may _ k value fresh e = absurd (none_some e)

  gives_up_may : (begin : Start K V) (k : Kind) → kind_of begin ≡ Some k →
      may_answer {E = E} begin answer.RetriesExhausted ≡ true
  gives_up_may (start.GetWith key replace) k e = refl
  gives_up_may (start.Optional key) k e = refl
  gives_up_may (start.Try key) k e = refl
  gives_up_may _ k e = absurd (none_some e)

  nothing_may : (begin : Start K V) (k : Kind) → kind_of begin ≡ Some k →
      may_end {V = V} {E = E} k settled.Nothing ≡ true → may_answer {E = E} begin answer.Nothing ≡ true
  nothing_may (start.Optional key) k e may = refl
  nothing_may (start.GetWith key replace) k e may =
      absurd (false≢true (subst (λ v. may_end {V = V} {E = E} v settled.Nothing ≡ true) (sym (some_same e)) may))
  nothing_may (start.Try key) k e may =
      absurd (false≢true (subst (λ v. may_end {V = V} {E = E} v settled.Nothing ≡ true) (sym (some_same e)) may))
  nothing_may _ k e may = absurd (none_some e)

module _ {K V E : Type 0} where
  error_may : (begin : Start K V) (k : Kind) (error : E) → kind_of begin ≡ Some k →
      may_end {V = V} k (settled.Err error) ≡ true → may_answer begin (answer.InitErr error) ≡ true
  error_may (start.Try key) k error e may = refl
  error_may (start.GetWith key replace) k error e may =
      absurd (false≢true (subst (λ v. may_end {V = V} v (settled.Err error) ≡ true) (sym (some_same e)) may))
  error_may (start.Optional key) k error e may =
      absurd (false≢true (subst (λ v. may_end {V = V} v (settled.Err error) ≡ true) (sym (some_same e)) may))
  error_may _ k error e may = absurd (none_some e)

-- what an ask takes its owner may end with
told_nothing : (V E : Type 0) (k : Kind) → does_take {V = V} {E = E} (takes_of k) told.Nothing ≡ true →
    may_end {V = V} {E = E} k settled.Nothing ≡ true
told_nothing V E kind.GetWith e = absurd (false≢true e)
told_nothing V E kind.Optional e = refl
told_nothing V E kind.Try e = absurd (false≢true e)
told_nothing V E kind.Compute e = refl

told_error : (V : Type 0) {E : Type 0} (k : Kind) (error : E) →
    does_take {V = V} (takes_of k) (told.Err error) ≡ true →
    may_end {V = V} k (settled.Err error) ≡ true
told_error V kind.GetWith error e = absurd (false≢true e)
told_error V kind.Optional error e = absurd (false≢true e)
told_error V kind.Try error e = refl
told_error V kind.Compute error e = absurd (false≢true e)

module _ {K V : Type 0} (E : Type 0) (begin : Start K V) where
  -- what a removal for this answers
  abbrev pub SuitsRemoval : Removal K → Type 0
  SuitsRemoval removal =
      ((value : V) → may_answer {E = E} begin (removed_answer removal value) ≡ true) ×
      (may_answer {E = E} begin (nothing_answer removal) ≡ true)

  -- a compute that asks so answers as the start may
  abbrev pub SuitsCompute : Takes → Type 0
  SuitsCompute takes =
      ((done : CompResult K V) → may_answer {E = E} begin (answer.Computed done) ≡ true) ×
      ((error : E) → takes_error takes ≡ true →
      may_answer begin (answer.ComputeErr error) ≡ true)

  -- a look for this goes on as the start may
  abbrev pub SuitsAim : Aim K V → Type 0
  SuitsAim (plan.To_show form) =
      (pair : Option (K × V)) → may_answer {E = E} begin (shown form pair) ≡ true
  SuitsAim (plan.To_load sought) = kind_of begin ≡ Some sought.load.kind
  SuitsAim (plan.To_own sought) = kind_of begin ≡ Some sought.load.kind
  SuitsAim (plan.To_compute compute) = SuitsCompute compute.takes
  SuitsAim (plan.To_insert key own) =
      (value : V) (fresh : Bool) → may_answer {E = E} begin (answer.Loaded value fresh) ≡ true
  SuitsAim (plan.To_evict key stamp cause) = SuitsRemoval (plan.To_evict_chosen stamp cause)

module _ {K V E : Type 0} (begin : Start K V) where
  -- the call may answer so
  abbrev pub May : Answer K V E → Type 0
  May a = may_answer begin a ≡ true

  -- the item answers as the start may
  abbrev pub Suits : Item K V E → Type 0
  Suits (plan.Get aim key) = SuitsAim E begin aim
  Suits (plan.Judge aim key stored) = SuitsAim E begin aim
  Suits (plan.Own sought) = kind_of begin ≡ Some sought.load.kind
  Suits (plan.Read sought) = kind_of begin ≡ Some sought.load.kind
  Suits (plan.Ask load) = kind_of begin ≡ Some load.kind
  Suits (plan.Told load) = kind_of begin ≡ Some load.kind
  Suits (plan.Own_key compute) = SuitsCompute E begin compute.takes
  Suits (plan.Own_alone key) = SuitsCompute E begin takes.TryOp
  Suits (plan.Read_key compute) = SuitsCompute E begin compute.takes
  Suits (plan.Ask_op compute pair) = SuitsCompute E begin compute.takes
  Suits (plan.Told_op compute pair) = SuitsCompute E begin compute.takes
  Suits (plan.Holds key stamp cause there stored) = SuitsRemoval E begin (plan.To_evict_chosen stamp cause)
  Suits (plan.Moment (plan.To_take_out removal key)) = SuitsRemoval E begin removal
  Suits (plan.Out removal key) = SuitsRemoval E begin removal
  Suits (plan.Register test) =
      (registering : Result ℕ PredicateError) → May (registering_answer registering)
  Suits (plan.Candidates parts) = May answer.Done
  Suits plan.Retire = May answer.Done
  Suits (plan.Reply a) = May a
  Suits _ = Unit {0}

  abbrev pub AllSuit : List (Item K V E) → Type 0
  AllSuit [] = Unit {0}
  AllSuit (item ∷ rest) = Suits item × AllSuit rest

  -- the looks for listed keys answer nothing
  lists_suit : (rest : List (Item K V E)) → AllSuit rest → (part left : ℕ) → AllSuit (lists_from part left rest)
  lists_suit rest suits part zero = suits
  lists_suit rest suits part (suc left) = (tt, lists_suit rest suits (part + 1) left)

  keys_suit : (keys : List K) (rest : List (Item K V E)) → AllSuit rest → AllSuit (map plan.Find keys ++ rest)
  keys_suit [] rest q = q
  keys_suit (key ∷ keys) rest q = (tt, keys_suit keys rest q)

  -- what a step has to show
  pub record Leaves (next : Next K V E) : Type 0 where
    pub suits : AllSuit (plan_left next.left)
    pub now : (a : Answer K V E) → next.turn ≡ turn.Answer a → May a

  answers_so : (a : Answer K V E) (next : Next K V E) → next.left ≡ None →
      next.turn ≡ turn.Answer a → May a →
      Leaves next
  answers_so a next none is may = record {
    suits = subst (λ v. AllSuit (plan_left v)) (sym none) tt;
    now = λ b e. subst May (same_answer {K = K} a b (sym is ∙ e)) may;
  }

  on : (next : Next K V E) → ((a : Answer K V E) → next.turn ≡ turn.Answer a → ⊥) →
      AllSuit (plan_left next.left) → Leaves next
  on next going q = record { suits = q; now = λ a e. absurd (going a e) }

  module _ (c : Call K V E) where
    goes_suits : (rest : List (Item K V E)) → AllSuit rest → Leaves (goes c rest)
    goes_suits (plan.Reply a ∷ []) q = answers_so a _ refl refl q.0
    goes_suits _ q = on _ (λ b e. cc) q

    keeps_suit : May answer.Kept → Leaves (keeps c)
    keeps_suit may = kept_next Leaves c (λ off. answers_so answer.Kept _ refl refl may)
        (λ is_on. on _ (λ b e. cc) (tt, (may, tt)))

    misses_suit : (aim : Aim K V) → SuitsAim E begin aim → Leaves (misses c aim)
    misses_suit (plan.To_show form) s = answers_so (shown form None) _ refl refl (s None)
    misses_suit (plan.To_insert key value) s =
        put_plans (λ p. Leaves (goes c p)) c.rules key value (plan.Reply (answer.Loaded value true) ∷ [])
        (on _ (λ b e. cc) (tt, (tt, (s value true, tt))))
        (on _ (λ b e. cc) (tt, (tt, (tt, (s value true, tt)))))
    misses_suit (plan.To_evict key stamp cause) s = keeps_suit s.1
    misses_suit _ s = on _ (λ b e. cc) (s, tt)

    finds_suit : (aim : Aim K V) (there : K) (stored : Stored V) → SuitsAim E begin aim →
        Leaves (finds_pair c aim there stored)
    finds_suit (plan.To_evict key stamp cause) there stored s =
        chosen_next Leaves c key stamp cause there stored
        (λ off. answers_so answer.Kept _ refl refl s.1)
        (λ is_on. on _ (λ b e. cc) (tt, (s.1, tt))) (on _ (λ b e. cc) (s, tt))
    finds_suit _ there stored s = on _ (λ b e. cc) (s, tt)

    hits_suit : (aim : Aim K V) (there : K) (value : V) → SuitsAim E begin aim → AllSuit c.plan →
        Leaves (hits c aim there value)
    hits_suit (plan.To_show form) there value s p =
        answers_so (shown form (Some (there, value))) _ refl refl (s (Some (there, value)))
    hits_suit (plan.To_load sought) there value s p =
        answers_so (answer.Loaded value false) _ refl refl (loads_may E begin sought.load.kind value false s)
    hits_suit (plan.To_own sought) there value s p =
        on _ (λ b e. cc) (tt, (loads_may E begin sought.load.kind value false s, tt))
    hits_suit (plan.To_compute compute) there value s p = on _ (λ b e. cc) (s, tt)
    hits_suit (plan.To_insert key own) there value s p =
        answers_so (answer.Loaded value false) _ refl refl (s value false)
    hits_suit (plan.To_evict key stamp cause) there value s p = on _ (λ b e. cc) p

    read_suits : (sought : Sought K) (with : Settled V E) → kind_of begin ≡ Some sought.load.kind →
        may_end sought.load.kind with ≡ true → AllSuit c.plan →
        Leaves (after_read c sought (found.ReadSettled with))
    read_suits sought (settled.Ready value) s may p =
        answers_so (answer.Loaded value false) _ refl refl (loads_may E begin sought.load.kind value false s)
    read_suits sought (settled.Err error) s may p =
        answers_so (answer.InitErr error) _ refl refl (error_may begin sought.load.kind error s may)
    read_suits sought settled.Nothing s may p =
        answers_so answer.Nothing _ refl refl (nothing_may E begin sought.load.kind s may)
    read_suits sought settled.NotYet s may p = on _ (λ b e. cc) p
    read_suits sought settled.Aborted s may p = by (c.aborts + 1 == retries) refl
      where
        by : (b : Bool) → (c.aborts + 1 == retries) ≡ b → Leaves (after_abort c sought)
        by true is = rw is (answers_so answer.RetriesExhausted _ refl refl
            (gives_up_may E begin sought.load.kind s))
        by false is = rw is (on _ (λ b e. cc) (s, tt))

    read_key_suits : (compute : Compute K) (with : Settled V E) →
        SuitsCompute E begin compute.takes →
        AllSuit c.plan → Leaves (after_read_key c compute (found.ReadSettled with))
    read_key_suits compute with s p = read_key_next Leaves c compute with
        (on _ (λ b e. cc) p) (on _ (λ b e. cc) (s, tt))

    told_suits : (load : Load K) (given : Told V E) → kind_of begin ≡ Some load.kind →
        IsLoad load.kind → does_take (takes_of load.kind) given ≡ true →
        Leaves (after_told c load (found.TakeTold (Some given)))
    told_suits load (told.Value value) s one takes =
        let may : May (answer.Loaded value true) = loads_may E begin load.kind value true s in
        loaded_plans (λ p. Leaves (goes c p)) c.rules load value
        (on _ (λ b e. cc) (tt, (may, tt))) (on _ (λ b e. cc) (tt, (tt, (tt, (may, tt)))))
        (on _ (λ b e. cc) (tt, (tt, (tt, (tt, (may, tt))))))
    told_suits load told.Nothing s one takes = on _ (λ b e. cc) (
      tt,
      (nothing_may E begin load.kind s (told_nothing V E load.kind takes), tt),
    )
    told_suits load (told.Err error) s one takes = on _ (λ b e. cc) (
      tt,
      (error_may begin load.kind error s (told_error V load.kind error takes), tt),
    )
    told_suits load (told.Op op) s one takes = absurd (load_takes_no_op load.kind one takes)
    told_suits load _ s one takes = absurd (false≢true takes)

    -- what a compute answers the start may
    unchanged_may : (key : K) (pair : Option (K × V)) (takes : Takes) →
        SuitsCompute E begin takes → May (unchanged key pair)
    unchanged_may key None takes s = s.0 _
    unchanged_may key (Some pair) takes s = s.0 _

    put_may : (key : K) (pair : Option (K × V)) (value : V) (takes : Takes) →
        SuitsCompute E begin takes → May (put_answer key pair value)
    put_may key None value takes s = s.0 _
    put_may key (Some pair) value takes s = s.0 _

    told_op_suits : (compute : Compute K) (pair : Option (K × V)) (given : Told V E) →
        SuitsCompute E begin compute.takes → IsComputes compute.takes →
        does_take compute.takes given ≡ true →
        Leaves (after_told_op c compute pair (found.TakeTold (Some given)))
    told_op_suits compute pair given s one takes = told_op_next_by Leaves c compute pair given
        (on _ (λ b e. cc) (tt, (unchanged_may compute.key pair compute.takes s, tt)))
        (λ error f. on _ (λ b e. cc)
        (tt, (s.1 error (subst (λ v. does_take compute.takes v ≡ true) f takes), tt)))
        (λ value disabled. on _ (λ b e. cc) (tt, (puts value, tt)))
        (λ value able off. on _ (λ b e. cc) (tt, (tt, (tt, (puts value, tt)))))
        (λ value able is_on. on _ (λ b e. cc) (tt, (tt, (tt, (tt, (puts value, tt))))))
        (λ off. on _ (λ b e. cc) (tt, (((λ value. s.0 _), s.0 _), tt)))
        (λ is_on. on _ (λ b e. cc) (tt, (tt, (((λ value. s.0 _), s.0 _), tt))))
        (λ lost. absurd (compute_loses_none compute.takes given one takes lost))
      where
        puts : (value : V) → May (put_answer compute.key pair value)
        puts value = put_may compute.key pair value compute.takes s

  -- so does what is left of a removal
  said_suits : (removal : Removal K) (a : Answer K V E) → May a → AllSuit (said removal a)
  said_suits (plan.To_remove_as_told key) a may = (tt, (may, tt))
  said_suits _ a may = (may, tt)

  -- what a load reads of its owner, and what an owner is told, fits the call's plan
  pub record ReadsFit (w : World K V E) (n : ℕ) (c : Call K V E) : Type 0 where
    pub ends : (sought : Sought K) (with : Settled V E) (rest : List (Item K V E)) →
        c.plan ≡ plan.Read sought ∷ rest → settlement_for w.desk n ≡ Some with →
        may_end sought.load.kind with ≡ true
    pub loads : (load : Load K) (given : Told V E) (rest : List (Item K V E)) →
        c.plan ≡ plan.Told load ∷ rest → w.desk.told n ≡ Some given →
        IsLoad load.kind × (does_take (takes_of load.kind) given ≡ true)
    pub computes : (compute : Compute K) (pair : Option (K × V)) (given : Told V E)
        (rest : List (Item K V E)) → c.plan ≡ plan.Told_op compute pair ∷ rest →
        w.desk.told n ≡ Some given →
        IsComputes compute.takes × (does_take compute.takes given ≡ true)

  module _ (eq : K → K → Bool) (w : World K V E) (n : ℕ) (c : Call K V E) (p : AllSuit c.plan)
      (reads : ReadsFit w n c) where
    abbrev After : World K V E → Next K V E → Type 0
    After new next = Leaves next

    parks : Leaves (waits c)
    parks = on _ (λ b e. cc) p

    on_item : (item : Item K V E) (rest : List (Item K V E)) → c.plan ≡ item ∷ rest → AllSuit (item ∷ rest) →
        Outcomes eq After w n c item rest
    on_item plan.Drain rest e q = (
      λ f. goes_suits c rest q.1,
      λ x xs f. on _ (λ b g. cc) (tt, q),
      λ x number xs f. on _ (λ b g. cc) (tt, (tt, q)),
    )
    on_item (plan.Notice key old cause upsert) rest e q =
        (λ f. goes_suits c rest q.1, λ f. on _ (λ b g. cc) (tt, q.1))
    on_item (plan.Post write) rest e q =
        (λ f. goes_suits c rest q.1, λ f. on _ (λ b g. cc) (tt, (tt, (tt, q))))
    on_item plan.Apply rest e q = (λ f. goes_suits c rest q.1, λ x xs f. on _ (λ b g. cc) q)
    on_item (plan.Get aim key) rest e q = (
      (λ more. on _ (λ b g. cc) p),
      (λ none. misses_suit c aim q.0),
      λ k stored some. finds_suit c aim k stored q.0,
    )
    on_item (plan.Judge aim key stored) rest e q =
        ((λ seen. hits_suit c aim key stored.value q.0 p), λ unseen. misses_suit c aim q.0)
    on_item (plan.Own sought) rest e q = (
      λ able none. on _ (λ b g. cc) (q.0, tt),
      λ disabled none. on _ (λ b g. cc) (q.0, tt),
      λ owner some. on _ (λ b g. cc) (q.0, tt),
    )
    on_item (plan.Own_key compute) rest e q = (
      (
        (λ able none. on _ (λ b g. cc) (tt, (q.0, tt))),
        λ disabled none. on _ (λ b g. cc) (tt, (q.0, tt)),
      ),
      λ owner some. on _ (λ b g. cc) (q.0, tt),
    )
    on_item (plan.Own_alone key) rest e q = (
      (
        (λ able none. on _ (λ b g. cc) (tt, (q.0, tt))),
        λ disabled none. on _ (λ b g. cc) (tt, (q.0, tt)),
      ),
      λ owner some. (
        (λ able. on _ (λ b g. cc) (tt, ((λ pair. unchanged_may c key pair takes.TryOp q.0), tt))),
        λ not. on _ (λ b g. cc) (tt, (q.0.0 _, tt)),
      ),
    )
    on_item (plan.Read sought) rest e q = (
      λ none. parks,
      λ with some. read_suits c sought with q.0 (reads.ends sought with rest e some) p,
    )
    on_item (plan.Read_key compute) rest e q =
        (λ none. parks, λ with some. read_key_suits c compute with q.0 p)
    on_item (plan.Ask load) rest e q = on _ (λ b g. cc) (q.0, tt)
    on_item (plan.Ask_op compute pair) rest e q = on _ (λ b g. cc) (q.0, tt)
    on_item (plan.Told load) rest e q = (
      λ none. parks,
      λ given some. let fits = reads.loads load given rest e some in
          told_suits c load given q.0 fits.0 fits.1,
    )
    on_item (plan.Told_op compute pair) rest e q = (
      λ none. parks,
      λ given some. let fits = reads.computes compute pair given rest e some in
          told_op_suits c compute pair given q.0 fits.0 fits.1,
    )
    on_item (plan.Holds key stamp cause there stored) rest e q =
        (λ leaves. on _ (λ b g. cc) (q.0, tt), λ stays. keeps_suit c q.0.1)
    on_item (plan.Moment (plan.To_store key value)) rest e q = on _ (λ b g. cc) (tt, q.1)
    on_item (plan.Moment (plan.To_take_out removal key)) rest e q = on _ (λ b g. cc) q
    on_item (plan.Write key value moment) rest e q = (
      (λ more. on _ (λ b g. cc) p),
      (λ off old. on _ (λ b g. cc) (tt, q.1)),
      (λ is_on. on _ (λ b g. cc) (tt, (tt, q.1))),
      λ k old is_on some. on _ (λ b g. cc) (tt, (tt, (tt, q.1))),
    )
    on_item (plan.Out removal key) rest e q = (
      (λ more. on _ (λ b g. cc) p),
      (λ off none. on _ (λ b g. cc) (tt, said_suits removal _ q.0.1)),
      (λ is_on none. on _ (λ b g. cc) (tt, said_suits removal _ q.0.1)),
      (λ k old off some. on _ (λ b g. cc) (tt, said_suits removal _ (q.0.0 old.value))),
      λ k old is_on some. on _ (λ b g. cc)
          (tt, (tt, (tt, said_suits removal _ (q.0.0 old.value)))),
    )
    on_item (plan.List_keys part) rest e q = (
      (λ more. on _ (λ b g. cc) p),
      λ listed keys is gives. goes_suits c (map plan.Find keys ++ rest) (keys_suit keys rest q.1),
    )
    on_item (plan.Find key) rest e q = (
      (λ more. on _ (λ b g. cc) p),
      (λ none. goes_suits c rest q.1),
      (λ k stored some none. on _ (λ b g. cc) (tt, q.1)),
      λ k stored ids some is. on _ (λ b g. cc) (tt, q.1),
    )
    on_item (plan.Scan there stored) rest e q =
        ((λ seen. on _ (λ b g. cc) q.1), λ unseen. goes_suits c rest q.1)
    on_item (plan.Register test) rest e q =
        answers_so (registering_answer (registering w.desk)) _ refl refl (q.0 (registering w.desk))
    on_item (plan.Candidates parts) rest e q = (
      (λ none. answers_so answer.Done _ refl refl q.0),
      λ id more some. goes_suits (carrying c (id ∷ more)) (lists_from 0 parts (plan.Retire ∷ [])) (lists_suit (plan.Retire ∷ []) (q.0, tt) 0 parts),
    )
    on_item (plan.Strike there stored) rest e q = goes_suits (carrying c _) rest q.1
    on_item plan.Retire rest e q = answers_so answer.Done _ refl refl q.0
    on_item (plan.Reply a) rest e q = answers_so a _ refl refl q.0
    on_item item rest e q =
        passes_on eq After w n c item rest tt (λ d. goes_suits c rest q.1) parks

    pub on_plan : (q : List (Item K V E)) → c.plan ≡ q → AllSuit q → OnStep eq After w n c q
    on_plan [] e q = parks
    on_plan (item ∷ rest) e q = outcomes eq After w n c item rest (on_item item rest e q)

-- ---- as a call is started

module _ {K V : Type 0} (E : Type 0) where
  load_suits : (begin : Start K V) (b : Bool) (sought : Sought K) → kind_of begin ≡ Some sought.load.kind →
      AllSuit {E = E} begin (load_plan b sought)
  load_suits begin true sought s = (tt, (s, tt))
  load_suits begin false sought s = (tt, (s, tt))

  -- what a removal is started for it may answer
  out_suits : (begin : Start K V) (rules : Rules) (removal : Removal K) (key : K) →
      SuitsRemoval E begin removal → AllSuit {E = E} begin (take_out rules removal key)
  out_suits begin rules removal key s = by rules.listener
    where
      by : (b : Bool) → AllSuit {E = E} begin
          (plan.Drain ∷ under_lock b key (plan.Moment (plan.To_take_out removal key) ∷ []))
      by true = (tt, (tt, (s, tt)))
      by false = (tt, (s, tt))

  pub fresh_suits : (parts : ℕ) (rules : Rules) (begin : Start K V) → AllSuit {E = E} begin (plan_of parts rules begin)
  fresh_suits parts rules (start.Get key) = by (is_disabled rules)
    where
      by : (b : Bool) → AllSuit {V = V} {E = E} (start.Get key) (get_plan b key)
      by true = (refl, tt)
      by false = (tt, (λ value. refl, tt))
  fresh_suits parts rules (start.Insert key value) = by (is_disabled rules)
    where
      by : (b : Bool) → AllSuit {E = E} (start.Insert key value) (insert_plan b rules key value)
      by true = (refl, tt)
      by false = put_plans (AllSuit {E = E} (start.Insert key value)) rules key value
          (plan.Reply answer.Done ∷ []) (tt, (tt, (refl, tt))) (tt, (tt, (tt, (refl, tt))))
  fresh_suits parts rules (start.GetWith key replace) =
      load_suits (start.GetWith key replace) (is_disabled rules) (seek kind.GetWith key replace) refl
  fresh_suits parts rules (start.Optional key) =
      load_suits (start.Optional key) (is_disabled rules) (seek kind.Optional key None) refl
  fresh_suits parts rules (start.Try key) =
      load_suits (start.Try key) (is_disabled rules) (seek kind.Try key None) refl
  fresh_suits parts rules (start.OrInsert key value) = by (is_disabled rules)
    where
      by : (b : Bool) → AllSuit {E = E} (start.OrInsert key value) (or_insert_plan b key value)
      by true = (tt, (refl, tt))
      by false = (tt, (λ v fresh. refl, tt))
  fresh_suits parts rules (start.TryCompute key) = (((λ done. refl), λ error e. refl), tt)
  fresh_suits parts rules (start.ComputeAlone key) = (((λ done. refl), λ error e. refl), tt)
  fresh_suits parts rules (start.Invalidate key) =
      out_suits (start.Invalidate key) rules plan.To_invalidate key (λ value. refl, refl)
  fresh_suits parts rules (start.Remove key) =
      out_suits (start.Remove key) rules plan.To_remove key (λ value. refl, refl)
  fresh_suits parts rules start.InvalidateAll = (tt, (refl, tt))
  fresh_suits parts rules (start.InvalidateIf test) = (by, tt)
    where
      by : (registering : Result ℕ PredicateError) →
          may_answer {K = K} {V = V} {E = E} (start.InvalidateIf test) (registering_answer registering) ≡ true
      by (Ok id) = refl
      by (Err refused.InvalidationClosuresDisabled) = refl
      by (Err refused.NoId) = refl
      by (Err refused.Memory) = refl
  fresh_suits parts rules start.Iter = by (is_disabled rules)
    where
      by : (b : Bool) → AllSuit {K = K} {V = V} {E = E} start.Iter (iter_plan b parts)
      by true = (refl, tt)
      by false = lists_suit start.Iter (plan.Reply answer.End ∷ []) (refl, tt) 0 parts
  fresh_suits parts rules start.Pending = by (is_disabled rules)
    where
      by : (b : Bool) → AllSuit {K = K} {V = V} {E = E} start.Pending (pending_plan b parts)
      by true = (refl, tt)
      by false = (tt, (tt, (tt, (tt, (refl, tt)))))
  fresh_suits parts rules (start.Evict key stamp cause) = by rules.listener
    where
      by : (b : Bool) → AllSuit {V = V} {E = E} (start.Evict key stamp cause)
          (under_lock b key (plan.Get (plan.To_evict key stamp cause) key ∷ []))
      by true = (tt, ((λ value. refl, refl), tt))
      by false = ((λ value. refl, refl), tt)
  fresh_suits parts rules _ =
      (((λ done. refl), λ error e. absurd (false≢true e)), tt)

-- ---- of a state

module _ {K V E : Type 0} (eq : K → K → Bool) (begin : Start K V) (n : ℕ) where
  -- the call goes on as what it was started for may
  abbrev SuitsCall : State K V E → Call K V E → Type 0
  SuitsCall s c = AllSuit begin c.plan

  -- what it reads, and is told, fits its plan
  reads_fit : (s : State K V E) → IsReached eq s → (c : Call K V E) → s.calls n ≡ Some c →
      ReadsFit begin s.world n c
  reads_fit s reached c live = record {
    ends = λ sought with rest e some. settlements_fit eq s n c (plan.Read sought) rest sought.load with
        reached live e refl some;
    loads = λ load given rest e some.
        let t = subst (AllTake (s.world.desk.asks n) (s.world.desk.told n)) e taking in
        (t.0.0, subst (ToldFits (takes_of load.kind)) some t.0.2);
    computes = λ compute pair given rest e some.
        let t = subst (AllTake (s.world.desk.asks n) (s.world.desk.told n)) e taking in
        (t.0.0, subst (ToldFits compute.takes) some t.0.2);
  }
    where
      taking : AllTake (s.world.desk.asks n) (s.world.desk.told n) c.plan
      taking = (in_well eq s reached).fitting.taking.take n c live

  suits_if : (v : State K V E) (o : Option (Call K V E)) → AllSuit begin (plan_left o) →
      HoldsIf SuitsCall v o
  suits_if v None h = tt
  suits_if v (Some c) h = h

  -- what its own step leaves, and answers
  own_step : (s t : State K V E) (reply : Turn K V E) → IsReached eq s →
      HoldsIf SuitsCall s (s.calls n) → Step eq s n reply t → HoldsIf SuitsCall t (t.calls n) ×
      ((a : Answer K V E) → reply ≡ turn.Answer a → May {E = E} begin a)
  own_step s t reply h i step =
      let c : Call K V E = step.call in
      let suits : AllSuit begin c.plan = subst (HoldsIf SuitsCall s) step.live i in
      step_cases eq (λ new next. Leaves begin next) (λ v r. HoldsIf SuitsCall v (v.calls n) ×
      ((a : Answer K V E) → r ≡ turn.Answer a → May {E = E} begin a)) s t n reply step
      (on_plan begin eq s.world n c suits (reads_fit s h c step.live) c.plan refl suits)
      (λ w next l. (
        suits_if (state_after s n w next) _ (subst (λ v. AllSuit begin (plan_left v))
            (sym (put_here s.calls n next.left)) l.suits),
        l.now,
      ))

module _ {K V E : Type 0} (eq : K → K → Bool) where
  pub answers_fit : AnswersFit K V E eq
  answers_fit s t begin n a w step =
      let i = holds_since eq begin n (SuitsCall eq begin n) (λ s v c led rules h. h)
      (λ s t r h i step. (own_step eq begin n s t r h i step).0) s w
      (λ v. fresh_suits E v.world.table.division.parts v.world.desk.rules begin) in
      (own_step eq begin n s t (turn.Answer a) i.0 i.1 step).1 a refl
