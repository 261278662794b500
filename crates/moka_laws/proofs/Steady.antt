-- What a step leaves as it was: the rules, whether the listener is off, and what other calls have
-- committed.
use Rattle.std.proofs.Common.{◌≡◌, ℕ, zero, suc, ◌==◌, Bool, true, false, cond, [], ◌∷◌, ◌++◌, Option, Some, None, is_some, refl, sym, ap, ◌∙◌, subst, arith}
use Rattle.moka_hist.specs.Finite.{times}
use Rattle.moka_hist.specs.State.{State, World, DeskPart, TablePart}
use Rattle.moka_hist.specs.Tables.{Operates, begun, by_pair, removed, taken_by, written}
use Rattle.moka_hist.specs.Visits.{claimed, claimed_alone, is_seen, is_unlocked_for, judged, locked_by, makes, read, settlement_for}
use Rattle.moka_hist.specs.Step.{Access, On_table, On_desk, access_of, Gets, Step}
use Rattle.moka_hist.specs.Run.{Goings}
use Rattle.moka_hist.specs.declared.accesses.Got.{Got}
use Rattle.moka_hist.specs.declared.accesses.Got.TheVariants as got
use Rattle.moka_hist.specs.declared.accesses.Turn.{Turn}
use Rattle.moka_hist.specs.declared.rules.Rules.{Rules}
use Rattle.moka_hist.specs.declared.records.Stored.{Stored}
use Rattle.moka_hist.specs.declared.tables.TableAnswer.{TableAnswer}
use Rattle.moka_hist.specs.declared.tables.TableOp.{TableOp}
use Rattle.moka_hist.specs.declared.tables.TableOp.TheVariants as op
use Rattle.moka_hist.specs.declared.tables.TableTurn.TheVariants as table
use Rattle.moka_hist.specs.declared.visits.Visit.{Visit}
use Rattle.moka_hist.specs.declared.visits.Visit.TheVariants as visit
use Rattle.moka_laws.proofs.Counting.{other_number, put_there}
use Rattle.moka_laws.proofs.Balance.{times_last}
use Rattle.moka_laws.proofs.Kept.{IsStable}
use Rattle.moka_laws.proofs.Outcomes.{computes_of}

module _ {K V : Type 0} (eq : K → K → Bool) where
  -- an operation of this call commits none but its own
  by_commits : (o : Option (K × Stored V)) (x : ℕ) (t new : TablePart K V) → times x new.committed ≡
      times x t.committed →
      times x (by_pair o new t).committed ≡ times x t.committed
  by_commits None x t new e = refl
  by_commits (Some pair) x t new e = e

  absent_commits : (o : Option (K × Stored V)) (x : ℕ) (t new : TablePart K V) →
      times x new.committed ≡ times x t.committed →
      times x (by_pair o t new).committed ≡ times x t.committed
  absent_commits None x t new e = e
  absent_commits (Some pair) x t new e = refl

  operation_commits : (n x : ℕ) → (n == x) ≡ false → (t new : TablePart K V) (o : TableOp K V)
      (answer : TableAnswer K V) →
      Operates eq n t o answer new → times x new.committed ≡ times x t.committed
  operation_commits n x other t new o answer h = by o h
    where
      more : times x (t.committed ++ n ∷ []) ≡ times x t.committed
      more = omega (
        arith,
        times_last x n t.committed,
        ap (λ b. cond {A = ℕ} b 1 0)
            (other_number n x other),
      )

      by : (o : TableOp K V) → Operates eq n t o answer new → times x new.committed ≡
          times x t.committed
      by (op.Get key) h = ap (λ (v : TablePart K V). times x v.committed) h.1
      by (op.InsertOrModify key stored) h = ap (λ (v : TablePart K V). times x v.committed) h.1 ∙
          more
      by (op.InsertIfAbsent key stored) h =
          ap (λ (v : TablePart K V). times x v.committed) h.1 ∙
          absent_commits (t.stored key) x t (written eq n t key stored) more
      by (op.RemoveIf key stamp) h =
          ap (λ (v : TablePart K V). times x v.committed) h.1 ∙
          by_commits (taken_by stamp (t.stored key)) x t (removed eq n t key) more
      by (op.Keys part) h = ap (λ (v : TablePart K V). times x v.committed) h.5

module _ {K V E : Type 0} where
  -- what is kept of accesses after a visit and an access: only one that judges changes that
  abbrev pub accessed_by : DeskPart K V E → Visit K V E → ℕ → Option ℕ
  accessed_by d (visit.Judge replace key stored) =
      (judged d stored.stamp stored.modified (is_seen d replace key stored)).accessed
  accessed_by d _ = d.accessed

  abbrev pub accessed_after : World K V E → Access K V E → ℕ → Option ℕ
  accessed_after w (On_table operation) = w.desk.accessed
  accessed_after w (On_desk made) = accessed_by w.desk made

  -- from when on records are valid after one: only one that invalidates all changes that
  abbrev pub valid_by : DeskPart K V E → Visit K V E → Option ℕ
  valid_by d visit.InvalidateAll = Some d.clock
  valid_by d _ = d.valid_after

  abbrev pub valid_from : World K V E → Access K V E → Option ℕ
  valid_from w (On_table operation) = w.desk.valid_after
  valid_from w (On_desk made) = valid_by w.desk made

  -- no visit changes the rules, gives a number out, turns the listener off, or moves the clock
  pub record SameBase (kept : ℕ → Option ℕ) (from : Option ℕ) (d new : DeskPart K V E)
      : Type 0 where
    pub rules : new.rules ≡ d.rules
    pub last : new.last ≡ d.last
    pub off : new.off ≡ d.off
    pub clock : new.clock ≡ d.clock
    pub accessed : new.accessed ≡ kept
    pub valid : new.valid_after ≡ from

module _ {K V E : Type 0} (eq : K → K → Bool) where
  visit_base : (d : DeskPart K V E) (made : Visit K V E) →
      SameBase (accessed_by d made) (valid_by d made) d (makes eq d made)
  visit_base d (visit.LockKey call key) = by (is_unlocked_for d call key)
    where
      by : (b : Bool) → SameBase d.accessed d.valid_after d (locked_by eq d call key b)
      by true = record { rules = refl; last = refl; off = refl; clock = refl; accessed = refl; valid = refl }
      by false = record { rules = refl; last = refl; off = refl; clock = refl; accessed = refl; valid = refl }
  visit_base d (visit.WaitOrOwn call key kind) = by (d.owners (record { key = key; kind = kind }))
    where
      by : (o : Option ℕ) → SameBase d.accessed d.valid_after d (claimed eq d call (record { key = key; kind = kind }) o)
      by None = record { rules = refl; last = refl; off = refl; clock = refl; accessed = refl; valid = refl }
      by (Some owner) = record { rules = refl; last = refl; off = refl; clock = refl; accessed = refl; valid = refl }
  visit_base d (visit.OwnAlone call key) = by (d.owners (computes_of key))
    where
      by : (o : Option ℕ) → SameBase d.accessed d.valid_after d (claimed_alone eq d call (computes_of key) o)
      by None = record { rules = refl; last = refl; off = refl; clock = refl; accessed = refl; valid = refl }
      by (Some owner) = record { rules = refl; last = refl; off = refl; clock = refl; accessed = refl; valid = refl }
  visit_base d (visit.ReadSettled call) = by (is_some (settlement_for d call)) refl
    where
      by : (b : Bool) → is_some (settlement_for d call) ≡ b → SameBase d.accessed d.valid_after d (read d call)
      by true e = rw e (record { rules = refl; last = refl; off = refl; clock = refl; accessed = refl; valid = refl })
      by false e = rw e (record { rules = refl; last = refl; off = refl; clock = refl; accessed = refl; valid = refl })
  visit_base d _ = record { rules = refl; last = refl; off = refl; clock = refl; accessed = refl; valid = refl }

  access_base : (n : ℕ) (w new : World K V E) (a : Access K V E) (g : Got K V E) → Gets eq n w a g new →
      SameBase (accessed_after w a) (valid_from w a) w.desk new.desk
  access_base n w new (On_table o) (got.Table table.Going) gets = rw gets.1
      (record { rules = refl; last = refl; off = refl; clock = refl; accessed = refl; valid = refl })
  access_base n w new (On_table o) (got.Table (table.Decided answer)) gets = rw gets.2
      (record { rules = refl; last = refl; off = refl; clock = refl; accessed = refl; valid = refl })
  access_base n w new (On_desk made) (got.Desk f) gets = rw gets.1 (visit_base w.desk made)
  access_base n w new (On_table o) (got.Desk f) gets = absurd gets
  access_base n w new (On_desk made) (got.Table turn) gets = absurd gets

  access_commits : (n x : ℕ) → (n == x) ≡ false → (w new : World K V E) (a : Access K V E)
      (g : Got K V E) → Gets eq n w a g new →
      times x new.table.committed ≡ times x w.table.committed
  access_commits n x other w new (On_table o) (got.Table table.Going) gets =
      ap (λ (v : World K V E). times x v.table.committed) gets.1
  access_commits n x other w new (On_table o) (got.Table (table.Decided answer)) gets =
      ap (λ (v : World K V E). times x v.table.committed) gets.2 ∙
      operation_commits eq n x other (begun w.table n o) gets.0 o answer gets.1
  access_commits n x other w new (On_desk made) (got.Desk f) gets = ap
      (λ (v : World K V E). times x v.table.committed) gets.1
  access_commits n x other w new (On_table o) (got.Desk f) gets = absurd gets
  access_commits n x other w new (On_desk made) (got.Table turn) gets = absurd gets

  -- a step commits no write but that of its call
  pub step_commits : (s t : State K V E) (n x : ℕ) (turn : Turn K V E) → (n == x) ≡ false →
      Step eq s n turn t →
      times x t.world.table.committed ≡ times x s.world.table.committed
  step_commits s t n x turn other step =
      ap (λ (v : State K V E). times x v.world.table.committed) step.after ∙
      access_commits n x other s.world step.world (access_of n step.call) step.given step.gets

  -- it leaves other calls as they are
  pub step_calls : (s t : State K V E) (n x : ℕ) (turn : Turn K V E) → (n == x) ≡ false →
      Step eq s n turn t →
      t.calls x ≡ s.calls x
  step_calls s t n x turn other step =
      ap (λ (v : State K V E). v.calls x) step.after ∙ put_there s.calls n _ x other

  pub step_base : (s t : State K V E) (n : ℕ) (turn : Turn K V E) →
      (step : Step eq s n turn t) →
      SameBase (accessed_after s.world (access_of n step.call))
      (valid_from s.world (access_of n step.call)) s.world.desk t.world.desk
  step_base s t n turn step =
      subst (λ (v : State K V E). SameBase (accessed_after s.world (access_of n step.call))
      (valid_from s.world (access_of n step.call)) s.world.desk v.world.desk) (sym step.after)
      (access_base n s.world step.world (access_of n step.call) step.given step.gets)

  pub step_rules : (s t : State K V E) (n : ℕ) (turn : Turn K V E) → Step eq s n turn t →
      t.world.desk.rules ≡ s.world.desk.rules
  step_rules s t n turn step = (step_base s t n turn step).rules

  pub step_last : (s t : State K V E) (n : ℕ) (turn : Turn K V E) → Step eq s n turn t →
      t.world.desk.last ≡ s.world.desk.last
  step_last s t n turn step = (step_base s t n turn step).last

  pub step_off : (s t : State K V E) (n : ℕ) (turn : Turn K V E) → Step eq s n turn t →
      t.world.desk.off ≡ s.world.desk.off
  step_off s t n turn step = (step_base s t n turn step).off

  pub goings_rules : (P : State K V E → Type 0) (k : ℕ) (s t : State K V E) (n : ℕ) →
      Goings eq P k s n t →
      t.world.desk.rules ≡ s.world.desk.rules
  unfolding Goings
  goings_rules P zero s t n going = ap (λ (v : State K V E). v.world.desk.rules) going
  goings_rules P (suc k) s t n going = step_rules going.0 t n _ going.2 ∙
      goings_rules P k s going.0 n going.1

  pub rules_stable : (rules : Rules) → IsStable {K = K} {V = V} {E = E} eq (λ v. v.world.desk.rules ≡ rules)
  rules_stable rules = record {
    at = λ s moment i. i;
    start = λ s start i. i;
    step = λ s t n turn i step. step_rules s t n turn step ∙ i;
    tell = λ s n value asked i. i;
    hear = λ s n off running i. i;
    drop = λ s n c live between i. i;
  }
