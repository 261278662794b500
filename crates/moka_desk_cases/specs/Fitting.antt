-- The form of an answer, which belongs to what was wanted.
use Rattle.moka_hist.specs.declared.accesses.Got.{Got}
use Rattle.moka_hist.specs.declared.accesses.Got.TheVariants as got
use Rattle.moka_hist.specs.declared.accesses.Want.{Want}
use Rattle.moka_hist.specs.declared.accesses.Want.TheVariants as want
use Rattle.moka_init.specs.Forms.{IsFoundBy}

module _ {K V E : Type 0} where
  -- an operation of the table gives a turn of the table, a visit what such a visit finds
  abbrev pub FitsWant : Want K V E → Got K V E → Type 0
  FitsWant (want.Begin operation) (got.Table turn) = Unit {0}
  FitsWant (want.Begin operation) (got.Desk f) = ⊥
  FitsWant want.Table (got.Table turn) = Unit {0}
  FitsWant want.Table (got.Desk f) = ⊥
  FitsWant (want.Desk made) (got.Table turn) = ⊥
  FitsWant (want.Desk made) (got.Desk f) = IsFoundBy made f
