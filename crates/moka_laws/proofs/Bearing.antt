-- What one step leaves of all by which predicates are let go: those that are registered, the moments
-- that are pending, and the records that are stored.
use Rattle.std.proofs.Common.{◌≡◌, ℕ, ◌<◌, ◌≤◌, ◌==◌, nat_le, Bool, true, false, not, cond, ◌&&◌, List, [], ◌∷◌, filter, Option, Some, None, is_some, unwrap_or, ◌⊎◌, inl, inr, refl, sym, ap, ◌∙◌, subst, arith}
use Rattle.std.specs.List.{list_any}
use Rattle.std.specs.Option.{option_and_then, option_map}
use Rattle.std.proofs.lemmas.Bool.{eqb-true}
use Rattle.std.proofs.lemmas.Bool.Decides.{nat_tests}
use Rattle.moka_hist.specs.Finite.{put_at}
use Rattle.moka_hist.specs.Plan.{Item}
use Rattle.moka_hist.specs.Plan as plan
use Rattle.moka_hist.specs.State.{DeskPart, State, TablePart, World}
use Rattle.moka_hist.specs.Step.{Access, Gets, On_desk, On_table, Step, access_for, access_of}
use Rattle.moka_hist.specs.Tables.{Operates, begun, by_pair, removed, taken_by, written}
use Rattle.moka_hist.specs.Visits.{claimed, claimed_alone, does_strike, first_of, has_room, holding_with, is_named, is_unlocked_for, locked_by, makes, moment_of, next_free, once_freed, pending_of, read, registered_by, settlement_for, without_moment}
use Rattle.moka_hist.specs.declared.accesses.Got.{Got}
use Rattle.moka_hist.specs.declared.accesses.Got.TheVariants as got
use Rattle.moka_hist.specs.declared.accesses.Turn.{Turn}
use Rattle.moka_hist.specs.declared.predicates.Registered.{Registered}
use Rattle.moka_hist.specs.declared.records.Mode.{Mode}
use Rattle.moka_hist.specs.declared.records.Stored.{Stored}
use Rattle.moka_hist.specs.declared.rules.Rules.{Rules}
use Rattle.moka_hist.specs.declared.tables.TableAnswer.{TableAnswer}
use Rattle.moka_hist.specs.declared.tables.TableOp.{TableOp}
use Rattle.moka_hist.specs.declared.tables.TableOp.TheVariants as op
use Rattle.moka_hist.specs.declared.tables.TableTurn.TheVariants as table
use Rattle.moka_hist.specs.declared.visits.Visit.{Visit}
use Rattle.moka_hist.specs.declared.visits.Visit.TheVariants as visit
use Rattle.moka_hist.specs.declared.writes.Holding.{Holding}
use Rattle.moka_hist.specs.declared.writes.Holding.TheVariants as holding
use Rattle.moka_hist.specs.declared.writes.Write.{Write}
use Rattle.moka_laws.proofs.Counting.{none_some, some_same}
use Rattle.moka_laws.proofs.Naming.{and_first, and_second, any_first, any_found, any_kept}
use Rattle.moka_laws.proofs.Outcomes.{computes_of}
use Rattle.moka_laws.proofs.Stamps.{key_cases}

-- ---- moments that are pending

-- no moment is pending with what was put there: so one that is was so
pub put_quiet : (h : ℕ → Option Holding) (call : ℕ) (v : Option Holding) → option_and_then moment_of v ≡ None → (x taken : ℕ) →
    option_and_then moment_of (put_at h call v x) ≡ Some taken → option_and_then moment_of (h x) ≡ Some taken
put_quiet h call v none x taken e = by (call == x) e
  where
    by : (b : Bool) → option_and_then moment_of (cond b v (h x)) ≡ Some taken → option_and_then moment_of (h x) ≡ Some taken
    by true e = absurd (none_some (sym none ∙ e))
    by false e = e

without_none : (h : Option Holding) → option_and_then moment_of (option_map without_moment h) ≡ None
without_none None = refl
without_none (Some (holding.Own moment)) = refl
without_none (Some (holding.TookUp write)) = refl

freed_none : (h : Option Holding) (wrote : Bool) → option_and_then moment_of (once_freed h wrote) ≡ None
freed_none h true = without_none h
freed_none h false = refl

room_none : (h : Option Holding) (room : Bool) → option_and_then moment_of (cond room None (option_map without_moment h)) ≡ None
room_none h true = refl
room_none h false = without_none h

-- ---- what a visit leaves

module _ {K V E : Type 0} where
  -- what is registered after a visit and an access
  abbrev pub tests_by : DeskPart K V E → Visit K V E → List Registered
  tests_by d (visit.Register test) = registered_by d test d.rules.closures (next_free d)
  tests_by d (visit.Retire ids) = filter (λ r. not (list_any (λ named. is_named named r) ids)) d.registered
  tests_by d _ = d.registered

  abbrev pub tests_after : World K V E → Access K V E → List Registered
  tests_after w (On_table operation) = w.desk.registered
  tests_after w (On_desk made) = tests_by w.desk made

  -- a moment that is pending was so, or is the clock
  abbrev Pends : DeskPart K V E → DeskPart K V E → Type 0
  Pends d new = (x taken : ℕ) → pending_of new x ≡ Some taken → (pending_of d x ≡ Some taken) ⊎ (taken ≡ d.clock)

  pub record Bears (tests : List Registered) (d new : DeskPart K V E) : Type 0 where
    pub registered : new.registered ≡ tests
    pub predicates : new.predicates ≡ d.predicates
    pub pending : Pends d new

module _ {K V E : Type 0} (eq : K → K → Bool) where
  visit_bears : (d : DeskPart K V E) (made : Visit K V E) → Bears (tests_by d made) d (makes eq d made)
  visit_bears d (visit.Clock call) = record {
    registered = refl;
    predicates = refl;
    pending = λ x taken e. inl (put_quiet d.holding call None refl x taken e);
  }
  visit_bears d (visit.TakeOwed call) = record {
    registered = refl;
    predicates = refl;
    pending = λ x taken e. inl (by (option_map (λ o. o.write) (first_of d.owed)) x taken e);
  }
    where
      by : (o : Option Write) (x taken : ℕ) → option_and_then moment_of (holding_with d.holding call o x) ≡ Some taken →
          option_and_then moment_of (d.holding x) ≡ Some taken
      by None x taken e = e
      by (Some write) x taken e = put_quiet d.holding call (Some (holding.TookUp write)) refl x taken e
  visit_bears d (visit.UnlockKey call wrote) = record {
    registered = refl;
    predicates = refl;
    pending = λ x taken e. inl (put_quiet d.holding call (once_freed (d.holding call) wrote) (freed_none (d.holding call) wrote) x taken e);
  }
  visit_bears d (visit.OpenNotice call key value stamp modified cause upsert) = record {
    registered = refl;
    predicates = refl;
    pending = λ x taken e. inl (put_quiet d.holding call (option_map without_moment (d.holding call)) (without_none (d.holding call)) x taken e);
  }
  visit_bears d (visit.StampMoment call) = record {
    registered = refl;
    predicates = refl;
    pending = λ x taken e. by x taken (call == x) e;
  }
    where
      by : (x taken : ℕ) (b : Bool) → option_and_then moment_of (cond b (Some (holding.Own (Some d.clock))) (d.holding x)) ≡ Some taken →
          (option_and_then moment_of (d.holding x) ≡ Some taken) ⊎ (taken ≡ d.clock)
      by x taken true e = inr (sym (some_same e))
      by x taken false e = inl e
  visit_bears d (visit.PostWrite call write) = record {
    registered = refl;
    predicates = refl;
    pending = λ x taken e. inl (put_quiet d.holding call (cond (has_room d) None (option_map without_moment (d.holding call)))
        (room_none (d.holding call) (has_room d)) x taken e);
  }
  visit_bears d (visit.LockKey call key) = by (is_unlocked_for d call key)
    where
      by : (b : Bool) → Bears d.registered d (locked_by eq d call key b)
      by true = record { registered = refl; predicates = refl; pending = λ x taken e. inl e }
      by false = record { registered = refl; predicates = refl; pending = λ x taken e. inl e }
  visit_bears d (visit.WaitOrOwn call key kind) = by (d.owners (record { key = key; kind = kind }))
    where
      by : (o : Option ℕ) → Bears d.registered d (claimed eq d call (record { key = key; kind = kind }) o)
      by None = record { registered = refl; predicates = refl; pending = λ x taken e. inl e }
      by (Some owner) = record { registered = refl; predicates = refl; pending = λ x taken e. inl e }
  visit_bears d (visit.OwnAlone call key) = by (d.owners (computes_of key))
    where
      by : (o : Option ℕ) → Bears d.registered d (claimed_alone eq d call (computes_of key) o)
      by None = record { registered = refl; predicates = refl; pending = λ x taken e. inl e }
      by (Some owner) = record { registered = refl; predicates = refl; pending = λ x taken e. inl e }
  visit_bears d (visit.ReadSettled call) = by (is_some (settlement_for d call)) refl
    where
      by : (b : Bool) → is_some (settlement_for d call) ≡ b → Bears d.registered d (read d call)
      by true e = rw e (record { registered = refl; predicates = refl; pending = λ x taken f. inl f })
      by false e = rw e (record { registered = refl; predicates = refl; pending = λ x taken f. inl f })
  visit_bears d _ = record { registered = refl; predicates = refl; pending = λ x taken e. inl e }

  pub access_bears : (n : ℕ) (w new : World K V E) (a : Access K V E) (g : Got K V E) → Gets eq n w a g new →
      Bears (tests_after w a) w.desk new.desk
  access_bears n w new (On_table o) (got.Table table.Going) gets =
      rw gets.1 (record { registered = refl; predicates = refl; pending = λ x taken e. inl e })
  access_bears n w new (On_table o) (got.Table (table.Decided answer)) gets =
      rw gets.2 (record { registered = refl; predicates = refl; pending = λ x taken e. inl e })
  access_bears n w new (On_desk made) (got.Desk f) gets = rw gets.1 (visit_bears w.desk made)
  access_bears n w new (On_table o) (got.Desk f) gets = absurd gets
  access_bears n w new (On_desk made) (got.Table turn) gets = absurd gets

  pub step_bears : (s t : State K V E) (n : ℕ) (turn : Turn K V E) → (step : Step eq s n turn t) →
      Bears (tests_after s.world (access_of n step.call)) s.world.desk t.world.desk
  step_bears s t n turn step =
      subst (λ (v : State K V E). Bears (tests_after s.world (access_of n step.call)) s.world.desk v.world.desk) (sym step.after)
      (access_bears n s.world step.world (access_of n step.call) step.given step.gets)

-- ---- what a predicate hides

module _ {K V : Type 0} (key : K) (stored : Stored V) (named : ℕ × ℕ) where
  -- the predicate is the one of this id and moment, and hides the record
  abbrev pub strikes_in : (ℕ → K → V → Bool) → Registered → Bool
  strikes_in holds r = is_named named r && (nat_le stored.modified r.moment && holds r.test key stored.value)

  -- so the record isn't later
  pub strikes_early : (holds : ℕ → K → V → Bool) (rs : List Registered) → list_any (strikes_in holds) rs ≡ true → stored.modified ≤ named.1
  strikes_early holds rs h =
      let found = any_found (strikes_in holds) rs h in
      let r : Registered = found.0 in
      let is : is_named named r ≡ true = and_first (is_named named r) (nat_le stored.modified r.moment && holds r.test key stored.value) found.2 in
      let hits : (nat_le stored.modified r.moment && holds r.test key stored.value) ≡ true =
      and_second (is_named named r) (nat_le stored.modified r.moment && holds r.test key stored.value) found.2 in
      let same : r.moment ≡ named.1 = eqb-true r.moment named.1 (and_second (r.id == named.0) (r.moment == named.1) is) in
      let low : nat_le stored.modified r.moment ≡ true = and_first (nat_le stored.modified r.moment) (holds r.test key stored.value) hits in
      subst (λ v. stored.modified ≤ v) same (grind (arith, nat_tests, low))

module _ {K V E : Type 0} (w : World K V E) (key : K) (stored : Stored V) (named : ℕ × ℕ) (past : named.1 < w.desk.clock) where
  -- what is registered now isn't of an earlier moment
  not_now : (number test : ℕ) → strikes_in key stored named w.desk.predicates (record { id = w.desk.ids number; test = test; moment = w.desk.clock }) ≡ false
  not_now number test = by (w.desk.ids number == named.0) (w.desk.clock == named.1) refl
    where
      by : (a b : Bool) → (w.desk.clock == named.1) ≡ b →
          ((a && b) && (nat_le stored.modified w.desk.clock && w.desk.predicates test key stored.value)) ≡ false
      by true true e = absurd (omega (arith, past, eqb-true w.desk.clock named.1 e))
      by true false e = refl
      by false b e = refl

  -- no access makes a predicate of an earlier moment hide the record
  pub tests_strike : (a : Access K V E) → list_any (strikes_in key stored named w.desk.predicates) (tests_after w a) ≡ true →
      does_strike w.desk key stored named ≡ true
  tests_strike (On_desk (visit.Register test)) h = by w.desk.rules.closures (next_free w.desk) h
    where
      by : (b : Bool) (free : Option ℕ) → list_any (strikes_in key stored named w.desk.predicates) (registered_by w.desk test b free) ≡ true →
          list_any (strikes_in key stored named w.desk.predicates) w.desk.registered ≡ true
      by false free h = h
      by true None h = h
      by true (Some number) h = any_first (strikes_in key stored named w.desk.predicates) w.desk.registered
          (record { id = w.desk.ids number; test = test; moment = w.desk.clock }) (not_now number test) h
  tests_strike (On_desk (visit.Retire ids)) h = any_kept (strikes_in key stored named w.desk.predicates)
      (λ r. not (list_any (λ of. is_named of r) ids)) w.desk.registered h
  tests_strike (On_desk _) h = h
  tests_strike (On_table operation) h = h

-- so does no step
pub step_strikes : {K V E : Type 0} (eq : K → K → Bool) (s t : State K V E) (n : ℕ) (turn : Turn K V E) → Step eq s n turn t →
    (key : K) (stored : Stored V) (named : ℕ × ℕ) → named.1 < s.world.desk.clock → does_strike t.world.desk key stored named ≡ true →
    does_strike s.world.desk key stored named ≡ true
step_strikes eq s t n turn step key stored named past h =
    let bears = step_bears eq s t n turn step in
    tests_strike s.world key stored named past (access_of n step.call)
    (subst (λ rs. list_any (strikes_in key stored named s.world.desk.predicates) rs ≡ true) bears.registered
    (subst (λ holds. list_any (strikes_in key stored named holds) t.world.desk.registered ≡ true) bears.predicates h))

-- ---- what stands under a key

module _ {K V : Type 0} where
  -- each record that stands there stood there, or is this one
  abbrev Stood : (Stored V → Type 0) → TablePart K V → TablePart K V → Type 0
  Stood Writes t new = (q : K) (p : K × Stored V) → new.stored q ≡ Some p → (t.stored q ≡ Some p) ⊎ Writes p.1

  abbrev Writes_by : TableOp K V → Stored V → Type 0
  Writes_by (op.InsertOrModify key stored) v = stored ≡ v
  Writes_by (op.InsertIfAbsent key stored) v = stored ≡ v
  Writes_by _ v = ⊥

  module _ (eq : K → K → Bool) (n : ℕ) (t : TablePart K V) where
    written_stood : (key : K) (stored : Stored V) → Stood (λ v. stored ≡ v) t (written eq n t key stored)
    written_stood key stored q p e = key_cases eq t.stored key (Some (key, stored)) q p ((t.stored q ≡ Some p) ⊎ (stored ≡ p.1)) e
        (λ here is. inr (ap (λ (v : K × Stored V). v.1) (some_same is))) (λ there is. inl is)

    removed_stood : (Writes : Stored V → Type 0) (key : K) → Stood Writes t (removed eq n t key)
    removed_stood Writes key q p e = key_cases eq t.stored key None q p ((t.stored q ≡ Some p) ⊎ Writes p.1) e
        (λ here is. absurd (none_some is)) (λ there is. inl is)

    either_stood : (Writes : Stored V → Type 0) (o : Option (K × Stored V)) (a b : TablePart K V) → Stood Writes t a → Stood Writes t b →
        Stood Writes t (by_pair o a b)
    either_stood Writes None a b h k = k
    either_stood Writes (Some pair) a b h k = h

    operation_stood : (o : TableOp K V) (answer : TableAnswer K V) (new : TablePart K V) → Operates eq n t o answer new → Stood (Writes_by o) t new
    operation_stood (op.Get key) answer new h = subst (Stood (λ v. ⊥) t) (sym h.1) (λ q p e. inl e)
    operation_stood (op.InsertOrModify key stored) answer new h = subst (Stood (λ v. stored ≡ v) t) (sym h.1) (written_stood key stored)
    operation_stood (op.InsertIfAbsent key stored) answer new h = subst (Stood (λ v. stored ≡ v) t) (sym h.1)
        (either_stood (λ v. stored ≡ v) (t.stored key) t (written eq n t key stored) (λ q p e. inl e) (written_stood key stored))
    operation_stood (op.RemoveIf key stamp) answer new h = subst (Stood (λ v. ⊥) t) (sym h.1)
        (either_stood (λ v. ⊥) (taken_by stamp (t.stored key)) (removed eq n t key) t (removed_stood (λ v. ⊥) key) (λ q p e. inl e))
    operation_stood (op.Keys part) answer new h = subst (Stood (λ v. ⊥) t) (sym h.5) (λ q p e. inl e)

    begun_stood : (o : TableOp K V) (q : K) (p : K × Stored V) → (begun t n o).stored q ≡ Some p → t.stored q ≡ Some p
    begun_stood (op.Get key) q p e = e
    begun_stood (op.InsertOrModify key stored) q p e = e
    begun_stood (op.InsertIfAbsent key stored) q p e = e
    begun_stood (op.RemoveIf key stamp) q p e = e
    begun_stood (op.Keys part) q p e = e

module _ {K V E : Type 0} where
  -- the access writes this record
  abbrev pub Writes_so : Access K V E → Stored V → Type 0
  Writes_so (On_table o) v = Writes_by o v
  Writes_so (On_desk made) v = ⊥

  item_writes : (n : ℕ) (ids : Option (List (ℕ × ℕ))) (item : Item K V E) (v : Stored V) → Writes_so (access_for n ids item) v →
      (key : K) × (value : V) × (moment : ℕ) × (item ≡ plan.Write key value moment) × (moment ≡ v.modified)
  item_writes n ids (plan.Write key value moment) v h = (key, value, moment, refl, ap (λ (x : Stored V). x.modified) h)
  item_writes n ids _ v h = absurd h

  -- only the item of a write does
  pub plan_writes : (n : ℕ) (rules : Rules) (how : Mode) (p : List (Item K V E)) (aborts : ℕ) (ids : Option (List (ℕ × ℕ))) (v : Stored V) →
      Writes_so (access_of n (record { rules = rules; mode = how; plan = p; aborts = aborts; carried = ids })) v →
      (key : K) × (value : V) × (moment : ℕ) × (rest : List (Item K V E)) × (p ≡ plan.Write key value moment ∷ rest) × (moment ≡ v.modified)
  plan_writes n rules how [] aborts ids v h = absurd h
  plan_writes n rules how (item ∷ rest) aborts ids v h =
      let w = item_writes n ids item v h in (w.0, w.1, w.2, rest, ap (λ x. x ∷ rest) w.3, w.4)

  -- the predicates that the access lets go
  abbrev pub lets_go : Access K V E → Option (List (ℕ × ℕ))
  lets_go (On_desk (visit.Retire ids)) = Some ids
  lets_go _ = None

  item_lets : (n : ℕ) (ids : Option (List (ℕ × ℕ))) (item : Item K V E) (gone : List (ℕ × ℕ)) → lets_go (access_for n ids item) ≡ Some gone →
      (item ≡ plan.Retire) × (gone ≡ unwrap_or ids [])
  item_lets n ids plan.Retire gone e = (refl, sym (some_same e))
  item_lets n ids _ gone e = absurd (none_some e)

  pub plan_lets : (n : ℕ) (rules : Rules) (how : Mode) (p : List (Item K V E)) (aborts : ℕ) (ids : Option (List (ℕ × ℕ))) (gone : List (ℕ × ℕ)) →
      lets_go (access_of n (record { rules = rules; mode = how; plan = p; aborts = aborts; carried = ids })) ≡ Some gone →
      (rest : List (Item K V E)) × (p ≡ plan.Retire ∷ rest) × (gone ≡ unwrap_or ids [])
  plan_lets n rules how [] aborts ids gone e = absurd (none_some e)
  plan_lets n rules how (item ∷ rest) aborts ids gone e = let h = item_lets n ids item gone e in (rest, ap (λ x. x ∷ rest) h.0, h.1)

module _ {K V E : Type 0} (eq : K → K → Bool) where
  pub access_stood : (n : ℕ) (w new : World K V E) (a : Access K V E) (g : Got K V E) → Gets eq n w a g new →
      (q : K) (p : K × Stored V) → new.table.stored q ≡ Some p → (w.table.stored q ≡ Some p) ⊎ Writes_so a p.1
  access_stood n w new (On_table o) (got.Table table.Going) gets q p e =
      inl (begun_stood eq n w.table o q p (subst (λ (v : World K V E). v.table.stored q ≡ Some p) gets.1 e))
  access_stood n w new (On_table o) (got.Table (table.Decided answer)) gets q p e =
      by (operation_stood eq n (begun w.table n o) o answer gets.0 gets.1 q p (subst (λ (v : World K V E). v.table.stored q ≡ Some p) gets.2 e))
    where
      by : ((begun w.table n o).stored q ≡ Some p) ⊎ Writes_by o p.1 → (w.table.stored q ≡ Some p) ⊎ Writes_by o p.1
      by (inl was) = inl (begun_stood eq n w.table o q p was)
      by (inr writes) = inr writes
  access_stood n w new (On_desk made) (got.Desk f) gets q p e = inl (subst (λ (v : World K V E). v.table.stored q ≡ Some p) gets.1 e)
  access_stood n w new (On_table o) (got.Desk f) gets q p e = absurd gets
  access_stood n w new (On_desk made) (got.Table turn) gets q p e = absurd gets

  -- a record that stands after a step stood before it, or its call was to write it
  pub step_stood : (s t : State K V E) (n : ℕ) (turn : Turn K V E) → (step : Step eq s n turn t) → (q there : K) (stored : Stored V) →
      t.world.table.stored q ≡ Some (there, stored) →
      (s.world.table.stored q ≡ Some (there, stored)) ⊎
      ((key : K) × (value : V) × (rest : List (Item K V E)) × (step.call.plan ≡ plan.Write key value stored.modified ∷ rest))
  step_stood s t n turn step q there stored e =
      by (access_stood n s.world step.world (access_of n step.call) step.given step.gets q (there, stored)
      (subst (λ (v : State K V E). v.world.table.stored q ≡ Some (there, stored)) step.after e))
    where
      by : (s.world.table.stored q ≡ Some (there, stored)) ⊎ Writes_so (access_of n step.call) stored →
          (s.world.table.stored q ≡ Some (there, stored)) ⊎
          ((key : K) × (value : V) × (rest : List (Item K V E)) × (step.call.plan ≡ plan.Write key value stored.modified ∷ rest))
      by (inl was) = inl was
      by (inr writes) =
          let h = plan_writes n step.call.rules step.call.mode step.call.plan step.call.aborts step.call.carried stored writes in
          inr (h.0, h.1, h.3, h.4 ∙ ap (λ v. plan.Write h.0 h.1 v ∷ h.3) h.5)
