-- What a call finds at the lock of a key.
use Rattle.std.proofs.Common.{◌≡◌, ℕ, ◌==◌, Bool, true, false, cond, List, [], ◌∷◌, Option, Some, None, IsNone, IfSome, refl, sym, ap, ◌∙◌, subst}
use Rattle.std.proofs.lemmas.Bool.{eqb-true, false≢true}
use Rattle.std.proofs.lemmas.Option.{none-some, same_Some}
use Rattle.std.specs.Option.{option_and_then, option_map_or}
use Rattle.moka_hist.specs.Conditions.{MayVisit}
use Rattle.moka_hist.specs.Plan.{Item, locking}
use Rattle.moka_hist.specs.Plan as plan
use Rattle.moka_hist.specs.SoundDesk.{SoundDesk}
use Rattle.moka_hist.specs.State.{Call, DeskPart, World}
use Rattle.moka_hist.specs.Step.{Gets, May, On_desk, access_of}
use Rattle.moka_hist.specs.Visits.{is_keeping, keeper, lock_taken, makes, taken_under}
use Rattle.moka_hist.specs.declared.accesses.Got.TheVariants as got
use Rattle.moka_hist.specs.declared.visits.Found.TheVariants as found
use Rattle.moka_hist.specs.declared.visits.LockTaken.TheVariants as taken
use Rattle.moka_hist.specs.declared.visits.Visit.{Visit}
use Rattle.moka_hist.specs.declared.visits.Visit.TheVariants as visit
use Rattle.moka_needs.specs.Reads.{EndedAs, kind_read}
use Rattle.moka_kept.specs.Paths.{IsGiven}

module _ {K V E : Type 0} where
  -- a call whose notice keeps none finds the lock kept that a notice keeps
  taken_by_keeper : (w : DeskPart K V E) (n : ℕ) (key : K) (notice : ℕ) → IsNone (w.kept n) → keeper w key ≡ Some notice → lock_taken w n key ≡ taken.Kept notice
  taken_by_keeper w n key notice none kept = by (w.locks key) kept
    where
      under : (holder : ℕ) (b k : Bool) → (holder == n) ≡ b → is_keeping w holder ≡ k → cond k (Some holder) None ≡ Some notice →
          cond b taken.Taken (cond k (taken.Kept holder) taken.Held) ≡ taken.Kept notice
      under holder b false e is kept = absurd (none-some notice kept)
      under holder true true e is kept = absurd (false≢true (sym none ∙ ap (is_keeping w) (sym (eqb-true holder n e)) ∙ is))
      under holder false true e is kept = ap taken.Kept (same_Some holder notice kept)

      by : (o : Option ℕ) → option_and_then (λ holder. cond (is_keeping w holder) (Some holder) None) o ≡ Some notice →
          option_map_or (taken_under w n) o taken.Taken ≡ taken.Kept notice
      by None kept = absurd (none-some notice kept)
      by (Some holder) kept = under holder (holder == n) (is_keeping w holder) refl refl kept

-- what holds of what is there holds where there is something
pub where_some : {A : Type 0} (o : Option A) (P : A → Type 0) → ((a : A) → o ≡ Some a → P a) → IfSome o P
where_some None P all = tt
where_some (Some a) P all = all a refl

module _ {K V E : Type 0} (eq : K → K → Bool) (n : ℕ) (c : Call K V E) (w : World K V E) (sound : SoundDesk eq w.desk) where
  -- it is given that for its next access, where it takes that lock next
  pub given_kept : (key : K) (notice : ℕ) → locking c.plan ≡ Some key → MayVisit w.desk (visit.LockKey n key) → keeper w.desk key ≡ Some notice →
      IsGiven eq n c (got.Desk (found.LockKey (taken.Kept notice)))
  given_kept key notice is may kept = by c.plan refl is
    where
      by : (p : List (Item K V E)) → c.plan ≡ p → locking p ≡ Some key → IsGiven eq n c (got.Desk (found.LockKey (taken.Kept notice)))
      by (plan.Lock at ∷ rest) e is =
          let made : Visit K V E = visit.LockKey n at in
          let here : access_of n c ≡ On_desk made = ap (λ q. access_of n (record c { plan = q })) e in
          let same : at ≡ key = same_Some at key is in
          let after : World K V E = record w { desk = makes eq w.desk made } in
          record {
            world = w;
            after = after;
            sound = sound;
            ends = subst (λ (q : List (Item K V E)). IfSome (kind_read q) (EndedAs w.desk n)) (sym e) tt;
            may = subst (May w) (sym here) (subst (λ k. MayVisit w.desk (visit.LockKey n k)) (sym same) may);
            gets = subst (λ a. Gets eq n w a (got.Desk (found.LockKey (taken.Kept notice))) after) (sym here)
                (ap found.LockKey (sym (taken_by_keeper w.desk n at notice may.1 (ap (keeper w.desk) same ∙ kept))), refl);
          }
      by [] e is = absurd (none-some key is)
      by (_ ∷ rest) e is = absurd (none-some key is)
