-- What a walk wants, and what that gives.
use Rattle.std.specs.Prelude.{◌≡◌, ℕ, Bool}
use Rattle.moka_hist.specs.declared.accesses.Got.{Got}
use Rattle.moka_hist.specs.declared.accesses.Got.TheVariants as got
use Rattle.moka_hist.specs.declared.accesses.Want.{Want}
use Rattle.moka_hist.specs.declared.accesses.Want.TheVariants as want
use Rattle.moka_hist.specs.declared.visits.Found.{Found}
use Rattle.moka_hist.specs.declared.visits.Found.TheVariants as found
use Rattle.moka_hist.specs.declared.visits.Visit.{Visit}
use Rattle.moka_hist.specs.declared.visits.Visit.TheVariants as visit

module _ {K V E : Type 0} where
  -- a scan finds whether the record is visible, a visit that ends a walk reads the clock, and no other
  -- visit is a walk's
  abbrev pub FitsVisit : Visit K V E → Found V E → Type 0
  FitsVisit (visit.Scan key stored) f = (seen : Bool) × (f ≡ found.Scan seen)
  FitsVisit (visit.Clock call) f = (moment : ℕ) × (f ≡ found.Clock moment)
  FitsVisit _ f = ⊥

  -- an operation of the table gives a turn of the table, and a scan what it finds
  abbrev pub FitsWalk : Want K V E → Got K V E → Type 0
  FitsWalk (want.Begin operation) (got.Table turn) = Unit {0}
  FitsWalk (want.Begin operation) (got.Desk f) = ⊥
  FitsWalk want.Table (got.Table turn) = Unit {0}
  FitsWalk want.Table (got.Desk f) = ⊥
  FitsWalk (want.Desk made) (got.Table turn) = ⊥
  FitsWalk (want.Desk made) (got.Desk f) = FitsVisit made f
