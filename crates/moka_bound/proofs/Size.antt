-- No access changes for how many writes the log has room.
use Rattle.std.proofs.Common.{◌≡◌, ℕ, Bool, true, false, cond, Option, Some, None, is_some, refl, ap, ◌∙◌}
use Rattle.moka_hist.specs.Finite.{put_at}
use Rattle.moka_hist.specs.State.{World}
use Rattle.moka_hist.specs.Step.{Access, Gets}
use Rattle.moka_hist.specs.Step as step
use Rattle.moka_hist.specs.Visits.{makes, claimed, claimed_alone, is_unlocked_for, locked_by, settlement_for, readers_without, settled_without}
use Rattle.moka_hist.specs.declared.accesses.Got.{Got}
use Rattle.moka_hist.specs.declared.accesses.Got.TheVariants as got
use Rattle.moka_hist.specs.declared.tables.TableTurn.TheVariants as table
use Rattle.moka_hist.specs.declared.loads.Kind.TheVariants as kind
use Rattle.moka_hist.specs.declared.visits.Visit.{Visit}
use Rattle.moka_hist.specs.declared.visits.Visit.TheVariants as visit

module _ {K V E : Type 0} (eq : K → K → Bool) where
  size_same : (w : World K V E) (made : Visit K V E) → (makes eq w.desk made).size ≡ w.desk.size
  size_same w (visit.WaitOrOwn n key kind) = claimed_same (w.desk.owners (record { key = key; kind = kind }))
    where
      claimed_same : (o : Option ℕ) → (claimed eq w.desk n (record { key = key; kind = kind }) o).size ≡ w.desk.size
      claimed_same None = refl
      claimed_same (Some owner) = refl
  size_same w (visit.OwnAlone n key) = alone_same (w.desk.owners (record { key = key; kind = kind.Compute }))
    where
      alone_same : (o : Option ℕ) → (claimed_alone eq w.desk n (record { key = key; kind = kind.Compute }) o).size ≡ w.desk.size
      alone_same None = refl
      alone_same (Some owner) = refl
  size_same w (visit.ReadSettled n) = either (is_some (settlement_for w.desk n))
    where
      either : (b : Bool) → (cond b (record w.desk { joined = put_at w.desk.joined n None; readers = readers_without w.desk n; settled = settled_without w.desk n }) w.desk).size ≡ w.desk.size
      either true = refl
      either false = refl
  size_same w (visit.LockKey n key) = locked_same (is_unlocked_for w.desk n key)
    where
      locked_same : (b : Bool) → (locked_by eq w.desk n key b).size ≡ w.desk.size
      locked_same true = refl
      locked_same false = refl
  size_same w _ = refl

  pub access_size : (n : ℕ) (w new : World K V E) (a : Access K V E) (g : Got K V E) → Gets eq n w a g new → new.desk.size ≡ w.desk.size
  access_size n w new (step.On_table o) (got.Table table.Going) gets = ap (λ v. v.desk.size) gets.1
  access_size n w new (step.On_table o) (got.Table (table.Decided answer)) gets = ap (λ v. v.desk.size) gets.2
  access_size n w new (step.On_desk made) (got.Desk found) gets = ap (λ v. v.desk.size) gets.1 ∙ size_same w made
  access_size n w new _ _ gets = absurd gets
