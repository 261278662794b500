-- Each step keeps stored pairs under their own keys.
use Rattle.std.proofs.Common.{◌≡◌, ℕ, Bool, true, false, cond, Option, Some, None, refl, sym, ap, subst, ◌∙◌}
use Rattle.moka_hist.specs.State.{State, TablePart, World}
use Rattle.moka_hist.specs.Step.{Access, Gets, Step, access_of}
use Rattle.moka_hist.specs.Step as step
use Rattle.moka_hist.specs.Tables.{Operates, by_pair, removed, taken_by, written, begun}
use Rattle.moka_hist.specs.declared.records.Stored.{Stored}
use Rattle.moka_hist.specs.declared.tables.TableAnswer.{TableAnswer}
use Rattle.moka_hist.specs.declared.tables.TableOp.{TableOp}
use Rattle.moka_hist.specs.declared.tables.TableOp.TheVariants as op
use Rattle.moka_hist.specs.declared.tables.TableTurn.TheVariants as table
use Rattle.moka_hist.specs.declared.accesses.Got.{Got}
use Rattle.moka_hist.specs.declared.accesses.Got.TheVariants as got
use Rattle.moka_hist.specs.declared.accesses.Turn.{Turn}
use Rattle.moka_laws.specs.OwnKeys.{UnderOwnKeys, ReachedIsUnderOwnKeys}
use Rattle.moka_laws.proofs.Counting.{none_some}
use Rattle.moka_laws.proofs.Kept.{IsInvariant, in_reached}

module _ {K V : Type 0} (eq : K → K → Bool) where
  -- the pair, where it is stored at q, has the key q
  abbrev IsUnder : (K → Option (K × Stored V)) → Type 0
  IsUnder stored = (q : K) (p : K × Stored V) → stored q ≡ Some p → eq p.0 q ≡ true

  some_same : (x y : K × Stored V) → Some x ≡ Some y → x ≡ y
  some_same x y e = cc

  put_under : (key q : K) (new p : K × Stored V) (old : Option (K × Stored V)) (b : Bool) → new.0 ≡ key → eq key q ≡ b
      → cond b (Some new) old ≡ Some p → (old ≡ Some p → eq p.0 q ≡ true) → eq p.0 q ≡ true
  put_under key q new p old true own e is kept =
      subst (λ (k : K). eq k q ≡ true) (sym own ∙ ap (λ (x : K × Stored V). x.0) (some_same new p is)) e
  put_under key q new p old false own e is kept = kept is

  operation_keeps : (n : ℕ) (w t : TablePart K V) (o : TableOp K V) (answer : TableAnswer K V) → Operates eq n w o answer t → IsUnder w.stored → IsUnder t.stored
  operation_keeps n w t (op.Get key) answer o under = subst (λ (v : TablePart K V). IsUnder v.stored) (sym o.1) under
  operation_keeps n w t (op.InsertOrModify key stored) answer o under =
      subst (λ (v : TablePart K V). IsUnder v.stored) (sym o.1)
      (λ q p is. put_under key q (key, stored) p (w.stored q) (eq key q) refl refl is (under q p))
  operation_keeps n w t (op.InsertIfAbsent key stored) answer o under =
      subst (λ (v : TablePart K V). IsUnder v.stored) (sym o.1) (by (w.stored key))
    where
      by : (there : Option (K × Stored V)) →
          IsUnder (by_pair there w (written eq n w key stored)).stored
      by None = λ q p is. put_under key q (key, stored) p (w.stored q) (eq key q) refl refl is
          (under q p)
      by (Some pair) = under
  operation_keeps n w t (op.Keys part) answer o under = subst (λ (v : TablePart K V). IsUnder v.stored) (sym o.5) under
  operation_keeps n w t (op.RemoveIf key stamp) answer o under =
      subst (λ (v : TablePart K V). IsUnder v.stored) (sym o.1) (by (taken_by stamp (w.stored key)))
    where
      gone : (b : Bool) (old : Option (K × Stored V)) (p : K × Stored V) →
          cond b None old ≡ Some p → old ≡ Some p
      gone true old p is = absurd (none_some is)
      gone false old p is = is

      by : (out : Option (K × Stored V)) → IsUnder (by_pair out (removed eq n w key) w).stored
      by None = under
      by (Some pair) = λ q p is. under q p (gone (eq key q) (w.stored q) p is)

module _ {K V E : Type 0} (eq : K → K → Bool) where
  access_keeps : (n : ℕ) (w new : World K V E) (a : Access K V E) (g : Got K V E) → Gets eq n w a g new → IsUnder eq w.table.stored → IsUnder eq new.table.stored
  access_keeps n w new (step.On_table o) (got.Table table.Going) gets under = subst (λ (v : World K V E). IsUnder eq v.table.stored) (sym gets.1) under
  access_keeps n w new (step.On_table o) (got.Table (table.Decided answer)) gets under =
      subst (λ (v : World K V E). IsUnder eq v.table.stored) (sym gets.2) (operation_keeps eq n (begun w.table n o) gets.0 o answer gets.1 under)
  access_keeps n w new (step.On_desk made) (got.Desk found) gets under = subst (λ (v : World K V E). IsUnder eq v.table.stored) (sym gets.1) under
  access_keeps n w new (step.On_table o) (got.Desk found) gets under = absurd gets
  access_keeps n w new (step.On_desk made) (got.Table turn) gets under = absurd gets

  step_keeps : (s t : State K V E) (n : ℕ) (turn : Turn K V E) → UnderOwnKeys eq s → Step eq s n turn t → UnderOwnKeys eq t
  step_keeps s t n turn under h =
      subst (λ (v : State K V E). IsUnder eq v.world.table.stored) (sym h.after)
      (access_keeps n s.world h.world (access_of n h.call) h.given h.gets under)

  kept : IsInvariant {K = K} {V = V} {E = E} eq (UnderOwnKeys {K = K} {V = V} {E = E} eq)
  kept = record {
    fresh = λ division divides rules size built has_log q p is. cc;
    at = λ s moment under. under;
    start = λ s start under. under;
    step = step_keeps;
    tell = λ s n answer asked under. under;
    hear = λ s n off running under. under;
    drop = λ s n c live parked under. under;
  }

  pub under_own_keys : ReachedIsUnderOwnKeys K V E eq
  under_own_keys s reached = in_reached eq (UnderOwnKeys {K = K} {V = V} {E = E} eq) kept s reached
