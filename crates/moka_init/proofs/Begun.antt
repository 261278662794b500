-- Where a flow has begun its table operation, it is the one that is begun on its ground.
use Rattle.std.proofs.Common.{◌≡◌, ℕ, Bool, true, false, List, [], ◌∷◌, Option, Some, None, refl, sym, ap, subst, ◌∙◌, ◌⊎◌, inl, inr}
use Rattle.moka_hist.specs.State.{Call}
use Rattle.moka_hist.specs.Plan.{Item}
use Rattle.moka_hist.specs.Plan as plan
use Rattle.moka_hist.specs.Next.{stays, waits}
use Rattle.moka_hist.specs.declared.visits.Visit.{Visit}
use Rattle.moka_hist.specs.Step.{Access, access_of, want_for, next_of}
use Rattle.moka_hist.specs.Step as step
use Rattle.moka_hist.specs.declared.rules.Rules.{Rules}
use Rattle.moka_hist.specs.declared.records.Mode.{Mode}
use Rattle.moka_hist.specs.declared.records.Mode.TheVariants as mode
use Rattle.moka_hist.specs.declared.tables.TableOp.{TableOp}
use Rattle.moka_hist.specs.declared.tables.TableOp.TheVariants as op
use Rattle.moka_hist.specs.declared.tables.TableTurn.TheVariants as table
use Rattle.moka_hist.specs.declared.accesses.Got.{Got}
use Rattle.moka_hist.specs.declared.accesses.Got.TheVariants as got
use Rattle.moka_hist.specs.declared.accesses.Turn.{Turn}
use Rattle.moka_hist.specs.declared.accesses.Turn.TheVariants as turn
use Rattle.moka_init.specs.declared.flow.Flow.{Flow}
use Rattle.moka_init.specs.FlowPlan.{call_of, next_in, left_in, is_begun}
use Rattle.moka_init.specs.Grounds.{wanted, still_begun, access_at, HasBegun}

module _ {K V E : Type 0} where
  -- an access that was not begun is wanted as itself
  pub not_begun : (a : Access K V E) → wanted None (want_for false a) ≡ Some a
  not_begun (step.On_table operation) = refl
  not_begun (step.On_desk made) = refl

  -- an access that has not been left undecided leaves nothing begun
  pub ends_begun : (a : Access K V E) (given : Got K V E) → is_begun given ≡ false → still_begun a given ≡ None
  ends_begun (step.On_table operation) (got.Table (table.Decided answer)) e = refl
  ends_begun (step.On_table operation) (got.Table table.Going) e = cc
  ends_begun (step.On_table operation) (got.Desk found) e = refl
  ends_begun (step.On_desk made) given e = refl

  -- an undecided step of a table operation leaves the call where it stood
  pub record Stays (n : ℕ) (c : Call K V E) : Type 0 where
    pub operation : TableOp K V
    pub access : access_of n c ≡ step.On_table operation
    pub next : next_of n c (got.Table table.Going) ≡ stays c

  -- what isn't an answer to a visit parks the call where it stood
  pub record Parks (n : ℕ) (c : Call K V E) : Type 0 where
    pub made : Visit K V E
    pub access : access_of n c ≡ step.On_desk made
    pub next : next_of n c (got.Table table.Going) ≡ waits c

  stays_or_parks : (n : ℕ) (r : Rules) (m : Mode) (items : List (Item K V E)) (aborts : ℕ) (ids : Option (List (ℕ × ℕ)))
      → let c : Call K V E = record { rules = r; mode = m; plan = items; aborts = aborts; carried = ids } in Stays n c ⊎ Parks n c
  stays_or_parks n r m (plan.Get aim key ∷ rest) aborts ids = inl (record { operation = op.Get key; access = refl; next = refl })
  stays_or_parks n r m (plan.Write key value moment ∷ rest) aborts ids = inl (record { operation = _; access = refl; next = refl })
  stays_or_parks n r m (plan.Out removal key ∷ rest) aborts ids = inl (record { operation = _; access = refl; next = refl })
  stays_or_parks n r m (plan.List_keys part ∷ rest) aborts ids = inl (record { operation = op.Keys part; access = refl; next = refl })
  stays_or_parks n r m (plan.Find key ∷ rest) aborts ids = inl (record { operation = op.Get key; access = refl; next = refl })
  stays_or_parks n r m [] aborts ids = inr (record { made = _; access = refl; next = refl })
  stays_or_parks n r m (_ ∷ rest) aborts ids = inr (record { made = _; access = refl; next = refl })

  some_same : (c d : Call K V E) → Some c ≡ Some d → c ≡ d
  some_same c d e = cc

  -- a flow that has begun the operation at which it stands
  on_table : (after : Option (TableOp K V)) (new : Flow K V E) (o : TableOp K V) → access_at new ≡ step.On_table o → after ≡ Some o → new.begun ≡ true → HasBegun after new
  on_table after new o here there began =
      subst (λ (b : Bool). wanted after (want_for b (access_at new)) ≡ Some (access_at new)) (sym began)
      (subst (λ (a : Access K V E). wanted after (want_for true a) ≡ Some a) (sym here)
      (subst (λ (b : Option (TableOp K V)). wanted {E = E} b (want_for true (step.On_table o)) ≡ Some (step.On_table o)) (sym there) refl))

  any_visit : (b : Bool) (v : Visit K V E) → wanted None (want_for b (step.On_desk v)) ≡ Some (step.On_desk v)
  any_visit true v = refl
  any_visit false v = refl

  -- a flow that stands at a visit, where nothing is begun
  on_desk : (after : Option (TableOp K V)) (new : Flow K V E) (v : Visit K V E) → access_at new ≡ step.On_desk v → after ≡ None → HasBegun after new
  on_desk after new v here is_none =
      subst (λ (o : Option (TableOp K V)). HasBegun o new) (sym is_none)
      (subst (λ (a : Access K V E). wanted None (want_for new.begun a) ≡ Some a) (sym here) (any_visit new.begun v))

  pub left_going : (t : Turn K V E) (new : Flow K V E) (d : Call K V E) → next_in t new ≡ record { left = Some d; turn = turn.Going } → call_of new ≡ d
  left_going t new d e =
      some_same (call_of new) d (subst (λ (u : Turn K V E). left_in u new ≡ Some d) (ap (λ n. n.turn) e) (ap (λ n. n.left) e))

  left_waiting : (t : Turn K V E) (new : Flow K V E) (d : Call K V E) → next_in t new ≡ record { left = Some d; turn = turn.Wait } → call_of new ≡ d
  left_waiting t new d e =
      some_same (call_of new) d (subst (λ (u : Turn K V E). left_in u new ≡ Some d) (ap (λ n. n.turn) e) (ap (λ n. n.left) e))

  -- where the flow stands after the step that left its operation undecided
  after_going : (after : Option (TableOp K V)) (old new : Flow K V E) (t : Turn K V E) → new.call ≡ old.call → new.begun ≡ true
      → after ≡ still_begun (access_at old) (got.Table table.Going) → next_in t new ≡ next_of old.call (call_of old) (got.Table table.Going)
      → Stays old.call (call_of old) ⊎ Parks old.call (call_of old) → HasBegun after new
  after_going after old new t number began is_after next (inl stays) =
      let is_call : call_of new ≡ record (call_of old) { mode = mode.Mid } = left_going t new (record (call_of old) { mode = mode.Mid }) (next ∙ stays.next) in
      on_table after new stays.operation
      (ap (λ n. access_of n (call_of new)) number ∙ ap (λ d. access_of old.call d) is_call ∙ stays.access)
      (is_after ∙ ap (λ a. still_begun a (got.Table table.Going)) stays.access) began
  after_going after old new t number began is_after next (inr parks) =
      let is_call : call_of new ≡ record (call_of old) { mode = mode.Parked } = left_waiting t new (record (call_of old) { mode = mode.Parked }) (next ∙ parks.next) in
      on_desk after new parks.made
      (ap (λ n. access_of n (call_of new)) number ∙ ap (λ d. access_of old.call d) is_call ∙ parks.access)
      (is_after ∙ ap (λ a. still_begun a (got.Table table.Going)) parks.access)

  -- a flow that has begun nothing, where nothing is begun
  still_none : (after : Option (TableOp K V)) (new : Flow K V E) → new.begun ≡ false → after ≡ None → HasBegun after new
  still_none after new began is_none =
      subst (λ (b : Bool). wanted after (want_for b (access_at new)) ≡ Some (access_at new)) (sym began)
      (subst (λ (o : Option (TableOp K V)). wanted o (want_for false (access_at new)) ≡ Some (access_at new)) (sym is_none) (not_begun (access_at new)))

  -- after a step a flow is on its ground, as before
  pub still_on : (after : Option (TableOp K V)) (old new : Flow K V E) (given : Got K V E) (t : Turn K V E)
      → new.call ≡ old.call → new.begun ≡ is_begun given → after ≡ still_begun (access_at old) given
      → next_in t new ≡ next_of old.call (call_of old) given → HasBegun after new
  still_on after old new (got.Desk found) t number began is_after next =
      still_none after new began (is_after ∙ ends_begun (access_at old) (got.Desk found) refl)
  still_on after old new (got.Table (table.Decided answer)) t number began is_after next =
      still_none after new began (is_after ∙ ends_begun (access_at old) (got.Table (table.Decided answer)) refl)
  still_on after old new (got.Table table.Going) t number began is_after next =
      after_going after old new t number began is_after next (stays_or_parks old.call old.rules old.mode (call_of old).plan old.aborts (call_of old).carried)
