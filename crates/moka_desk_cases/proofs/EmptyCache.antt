-- Looks on an empty cache.
use Rattle.std.proofs.Common.{◌≡◌, ℕ, zero, suc, ◌+◌, ◌≤◌, ◌==◌, Bool, true, false, cond, arith, List, [], ◌∷◌, ◌++◌, map, drop, Option, Some, None, is_some, IfOk, OnOk, refl, sym, ap, subst, ◌∙◌, ◌⊎◌, inl, inr}
use Rattle.std.specs.Option.{option_map}
use Rattle.std.proofs.lemmas.List.{map-append}
use Rattle.std.specs.declared.result.Result as result
use Rattle.std.specs.declared.result.Result.TheVariants as results
use Rattle.moka_hist.specs.Bound.{stayed, times_of, decided_by}
use Rattle.moka_hist.specs.State.{Call, World}
use Rattle.moka_hist.specs.Plan.{Item, is_disabled, get_plan}
use Rattle.moka_hist.specs.Plan as plan
use Rattle.moka_hist.specs.Step.{Access, Gets, May, CallMoves, MovesOn, IsSafe, On_desk, On_table, access_of, next_of, going_as}
use Rattle.moka_hist.specs.Visits.{finds, makes, holding_with, first_of}
use Rattle.moka_hist.specs.Tables.{answer_of}
use Rattle.moka_hist.specs.Run.{fresh_call}
use Rattle.moka_hist.specs.declared.events.Start.TheVariants as start
use Rattle.moka_hist.specs.declared.rules.Rules.{Rules}
use Rattle.moka_hist.specs.declared.records.Mode.{Mode}
use Rattle.moka_hist.specs.declared.records.Mode.TheVariants as mode
use Rattle.moka_hist.specs.declared.visits.Found.{Found}
use Rattle.moka_hist.specs.declared.visits.Visit.TheVariants as visit
use Rattle.moka_hist.specs.declared.visits.Found.TheVariants as found
use Rattle.moka_hist.specs.declared.tables.TableOp.{TableOp}
use Rattle.moka_hist.specs.declared.tables.TableOp.TheVariants as op
use Rattle.moka_hist.specs.declared.tables.TableAnswer.{TableAnswer}
use Rattle.moka_hist.specs.declared.tables.TableTurn.TheVariants as table
use Rattle.moka_hist.specs.declared.tables.TableAnswer.TheVariants as answer
use Rattle.moka_hist.specs.declared.accesses.Got.{Got}
use Rattle.moka_hist.specs.declared.accesses.Got.TheVariants as got
use Rattle.moka_hist.specs.declared.accesses.Want.{Want}
use Rattle.moka_hist.specs.declared.writes.Owed.{Owed}
use Rattle.moka_hist.specs.declared.accesses.Want.TheVariants as want
use Rattle.moka_init.specs.Grounds.{Accesses, wanted}
use Rattle.moka_desk_cases.specs.EmptyCache.{IsBare, BareGives, BareServes, bare_account, noted}

-- nothing is stored, and no write is owed or held
record IsEmpty {K V E : Type 0} (w : World K V E) : Type 0 where
  owed : w.desk.owed ≡ []
  holding : (n : ℕ) → w.desk.holding n ≡ None
  stored : (q : K) → w.table.stored q ≡ None

-- no rule is set
abbrev pub no_rules : Rules
no_rules = record { max_capacity = None; time_to_live = None; time_to_idle = None; listener = false; closures = false }

module _ {K V E : Type 0} where
  -- a call's row is no longer than the row that there is
  times_less : (w : World K V E) (n : ℕ) → times_of w.stay n ≤ w.stay.times
  times_less w n = by (w.stay.call == n)
    where
      by : (b : Bool) → cond b w.stay.times 0 ≤ w.stay.times
      by true = omega arith
      by false = omega arith

  -- an empty cache on which a look stays undecided once more, with a step less to do so
  pub stays_bare : (left : ℕ) (w : World K V E) (n : ℕ) → IsBare (left + 1) w → IsBare left (record w { stay = stayed w.stay n })
  stays_bare left w n bare = record {
    owed = bare.owed;
    log = bare.log;
    size = bare.size;
    joined = bare.joined;
    holding = bare.holding;
    stored = bare.stored;
    patient = omega (arith, bare.patient, times_less w n);
  }

module _ {K V E : Type 0} (eq : K → K → Bool) where
  -- a look that decides finds nothing
  pub looked_bare : (left : ℕ) (key : K) → BareGives {V = V} {E = E} eq left (On_table (op.Get key)) (got.Table (table.Decided answer.None)) left
  looked_bare left key = λ n w bare. (
    record w { stay = decided_by n },
    (w.table, (ap answer_of (sym (bare.stored key)), refl), refl),
    record {
      owed = bare.owed;
      holding = bare.holding;
      log = bare.log;
      size = bare.size;
      joined = bare.joined;
      stored = bare.stored;
      patient = omega (arith, bare.patient);
    },
  )

  -- nothing is found owed
  pub owes_bare : (left n : ℕ) → BareGives {K = K} {V = V} {E = E} eq left (On_desk (visit.TakeOwed n)) (got.Desk (found.TakeOwed None)) left
  owes_bare left n = λ m w bare.
      let owed : List Owed → World K V E = λ l. record w { desk = record w.desk { owed = l } } in (
        record w { desk = makes eq w.desk (visit.TakeOwed n) },
        (ap (λ l. finds (owed l).desk (visit.TakeOwed n)) (sym bare.owed), refl),
        record {
          owed = ap (λ l. drop 1 l) bare.owed;
          holding = λ k. ap (λ l. holding_with w.desk.holding n (option_map (λ o. o.write) (first_of l)) k) bare.owed ∙ bare.holding k;
          log = bare.log;
          size = bare.size;
          joined = bare.joined;
          stored = bare.stored;
          patient = bare.patient;
        },
      )

module _ {K V E : Type 0} where
  -- what was served is told
  pub serves_tell : (eq : K → K → Bool) (call call_now : ℕ) (begun begun_now : Option (TableOp K V)) (old new : List (Want K V E × Got K V E)) (left left_now : ℕ)
      (access : Access K V E) (wish : Want K V E) (given : Got K V E) → call_now ≡ call → BareServes eq old left access wish given begun_now new left_now
      → Accesses (bare_account call begun old left) access given (bare_account call_now begun_now new left_now)
  serves_tell eq call call_now begun begun_now old new left left_now access wish given same s =
      record {
        form = s.form;
        call = same;
        begun = s.begins;
        tells = λ before e.
            let is : map noted old ≡ before = cc in
            ap (λ l. Some (map noted l)) s.notes
            ∙ ap (λ l. Some l) (map-append noted old ((wish, given) ∷ []) ∙ ap (λ x. map noted old ++ x ∷ []) s.is_noted ∙ ap (λ l. l ++ (access, given) ∷ []) is);
        lists = s.lists;
        shortens = s.shortens;
      }

module _ {K V E : Type 0} where
  pub one_access : (a b : Access K V E) → Some a ≡ Some b → a ≡ b
  one_access a b e = cc

  -- what is wanted further is the operation that was begun
  pub wanted_table : (begun : Option (TableOp K V)) (wish : Want K V E) (access : Access K V E) → wish ≡ want.Table → wanted begun wish ≡ Some access
      → (o : TableOp K V) × (begun ≡ Some o) × (On_table o ≡ access)
  wanted_table begun wish access is e = by begun (subst (λ (v : Want K V E). wanted begun v ≡ Some access) is e)
    where
      by : (b : Option (TableOp K V)) → wanted b want.Table ≡ Some access → (o : TableOp K V) × (b ≡ Some o) × (On_table o ≡ access)
      by None e = absurd (cc)
      by (Some o) e = (o, refl, one_access _ _ e)

-- what follows of an answer, where there is one
pub on_ok_of : {A E : Type 0} (r : result.Result A E) (P : A → Type 0) (Q : Type 0) → ((a : A) → P a → Q) → IfOk r P → OnOk r Q
on_ok_of (results.Ok a) P Q f h = f a h
on_ok_of (results.Err e) P Q f h = tt

module _ {K V E : Type 0} (eq : K → K → Bool) where
  -- no write is found owed
  owes_none : (w : World K V E) (n : ℕ) → IsEmpty w → finds w.desk (visit.TakeOwed n) ≡ found.TakeOwed None
  owes_none w n bare = ap (λ l. finds (record w.desk { owed = l }) (visit.TakeOwed n)) bare.owed

  -- none is owed after
  still_bare : (w : World K V E) (n : ℕ) → IsEmpty w → IsEmpty (record w { desk = makes eq w.desk (visit.TakeOwed n) })
  still_bare w n bare = record {
    owed = ap (λ l. drop 1 l) bare.owed;
    holding = λ k. ap (λ l. holding_with w.desk.holding n (option_map (λ o. o.write) (first_of l)) k) bare.owed ∙ bare.holding k;
    stored = bare.stored;
  }

  -- a get that has not answered yet, on an empty cache
  abbrev Looks : Call K V E → Type 0
  Looks d = ((key : K) × (d.plan ≡ plan.Drain ∷ plan.Get (plan.To_show plan.As_value) key ∷ [])) ⊎ ((key : K) × (d.plan ≡ plan.Get (plan.To_show plan.As_value) key ∷ []))

  no_some : (d : Call K V E) → ¬ (Some d ≡ None)
  no_some d e = cc

  some_same : (d c : Call K V E) → Some d ≡ Some c → d ≡ c
  some_same d c e = cc

  -- the first step takes up nothing, and goes on to the look
  drained : (n : ℕ) (key : K) (r : Rules) (m : Mode) (aborts : ℕ) (ids : Option (List (ℕ × ℕ))) (mid new : World K V E) (d : Call K V E) (g : Got K V E) → IsEmpty mid
      → Gets eq n mid (On_desk (visit.TakeOwed n)) g new
      → going_as d ≡ next_of n (record { rules = r; mode = m; plan = plan.Drain ∷ plan.Get (plan.To_show plan.As_value) key ∷ []; aborts = aborts; carried = ids }) g
      → IsEmpty new × Looks d
  drained n key r m aborts ids mid new d (got.Table t) bare gets goes = absurd gets
  drained n key r m aborts ids mid new d (got.Desk f) bare gets goes =
      let is : f ≡ found.TakeOwed None = gets.0 ∙ owes_none mid n bare in
      let c : Call K V E = record { rules = r; mode = m; plan = plan.Drain ∷ plan.Get (plan.To_show plan.As_value) key ∷ []; aborts = aborts; carried = ids } in
      let next : going_as d ≡ next_of n c (got.Desk (found.TakeOwed None)) = goes ∙ ap (λ (x : Found V E). next_of n c (got.Desk x)) is in
      let left : Some d ≡ Some (record { rules = r; mode = mode.Mid; plan = plan.Get (plan.To_show plan.As_value) key ∷ []; aborts = aborts; carried = ids }) = ap (λ x. x.left) next in
      (subst (λ (w : World K V E). IsEmpty w) (sym gets.1) (still_bare mid n bare), inr (key, ap (λ x. x.plan) (some_same d _ left)))

  -- an undecided look stays; a decided one has answered
  looked : (n : ℕ) (key : K) (r : Rules) (m : Mode) (aborts : ℕ) (ids : Option (List (ℕ × ℕ))) (mid new : World K V E) (d : Call K V E) (g : Got K V E) → IsEmpty mid
      → Gets eq n mid (On_table (op.Get key)) g new
      → going_as d ≡ next_of n (record { rules = r; mode = m; plan = plan.Get (plan.To_show plan.As_value) key ∷ []; aborts = aborts; carried = ids }) g
      → IsEmpty new × Looks d
  looked n key r m aborts ids mid new d (got.Desk f) bare gets goes = absurd gets
  looked n key r m aborts ids mid new d (got.Table table.Going) bare gets goes =
      let left : Some d ≡ Some (record { rules = r; mode = mode.Mid; plan = plan.Get (plan.To_show plan.As_value) key ∷ []; aborts = aborts; carried = ids }) = ap (λ x. x.left) goes in
      (subst (λ (w : World K V E). IsEmpty w) (sym gets.1) (record { owed = bare.owed; holding = bare.holding; stored = bare.stored }), inr (key, ap (λ x. x.plan) (some_same d _ left)))
  looked n key r m aborts ids mid new d (got.Table (table.Decided a)) bare gets goes =
      let is : a ≡ answer.None = gets.1.0 ∙ ap (λ o. answer_of o) (bare.stored key) in
      let c : Call K V E = record { rules = r; mode = m; plan = plan.Get (plan.To_show plan.As_value) key ∷ []; aborts = aborts; carried = ids } in
      let next : going_as d ≡ next_of n c (got.Table (table.Decided answer.None)) = goes ∙ ap (λ (x : TableAnswer K V). next_of n c (got.Table (table.Decided x))) is in
      let left : Some d ≡ None = ap (λ x. x.left) next in
      absurd (no_some d left)

  -- one more step of such a get
  looks_more : (n : ℕ) (b : Call K V E) (mid new : World K V E) (d : Call K V E) → IsEmpty mid → Looks b
      → CallMoves eq n b mid (going_as d) new → IsEmpty new × Looks d
  looks_more n b mid new d bare (inl at) moves =
      let c : Call K V E = record { rules = b.rules; mode = b.mode; plan = plan.Drain ∷ plan.Get (plan.To_show plan.As_value) at.0 ∷ []; aborts = b.aborts; carried = b.carried } in
      let is : b ≡ c = ap (λ p. record b { plan = p }) at.1 in
      let m : CallMoves eq n c mid (going_as d) new = subst (λ (x : Call K V E). CallMoves eq n x mid (going_as d) new) is moves in
      drained n at.0 b.rules b.mode b.aborts b.carried mid new d m.given bare m.gets m.goes
  looks_more n b mid new d bare (inr at) moves =
      let c : Call K V E = record { rules = b.rules; mode = b.mode; plan = plan.Get (plan.To_show plan.As_value) at.0 ∷ []; aborts = b.aborts; carried = b.carried } in
      let is : b ≡ c = ap (λ p. record b { plan = p }) at.1 in
      let m : CallMoves eq n c mid (going_as d) new = subst (λ (x : Call K V E). CallMoves eq n x mid (going_as d) new) is moves in
      looked n at.0 b.rules b.mode b.aborts b.carried mid new d m.given bare m.gets m.goes

  -- as long as it goes on
  looks_on : (k n : ℕ) (c : Call K V E) (w : World K V E) (d : Call K V E) (mid : World K V E) → IsEmpty w → Looks c
      → MovesOn eq k n c w d mid → IsEmpty mid × Looks d
  unfolding MovesOn
  looks_on zero n c w d mid bare looks on =
      (subst (λ (x : World K V E). IsEmpty x) (sym on.1) bare, subst (λ (x : Call K V E). Looks x) (sym on.0) looks)
  looks_on (suc k) n c w d mid bare looks on =
      let so_far = looks_on k n c w on.0 on.1 bare looks on.2 in
      looks_more n on.0 on.1 mid d so_far.0 so_far.1 on.3

  may_look : (n : ℕ) (d : Call K V E) (mid : World K V E) → IsEmpty mid → Looks d → May mid (access_of n d)
  may_look n d mid bare (inl at) =
      subst (λ (p : List (Item K V E)). May mid (access_of n (record d { plan = p }))) (sym at.1) (ap (λ o. is_some o) (bare.holding n))
  may_look n d mid bare (inr at) = subst (λ (p : List (Item K V E)). May mid (access_of n (record d { plan = p }))) (sym at.1) tt

  -- an empty cache has what each step of a get needs
  pub get_is_safe : (left n parts : ℕ) (key : K) (r : Rules) (c : Call K V E) (w : World K V E) → c ≡ fresh_call parts r (start.Get key)
      → is_disabled r ≡ false → IsBare left w → IsSafe eq n c w
  get_is_safe left n parts key r c w is enabled bare = λ k d mid on.
      let whole : c.plan ≡ plan.Drain ∷ plan.Get (plan.To_show plan.As_value) key ∷ [] =
      ap (λ x. x.plan) is ∙ ap (λ b. get_plan b key) enabled in
      let on_to = looks_on k n c w d mid (record { owed = bare.owed; holding = bare.holding; stored = bare.stored }) (inl (key, whole)) on in
      may_look n d mid on_to.0 on_to.1
