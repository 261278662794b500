-- An answer that fits what is wanted fits the access.
use Rattle.std.proofs.Common.{◌≡◌, Bool, true, false, subst}
use Rattle.moka_hist.specs.Step.{Access, want_for}
use Rattle.moka_hist.specs.Step as step
use Rattle.moka_hist.specs.declared.accesses.Got.{Got}
use Rattle.moka_hist.specs.declared.accesses.Got.TheVariants as got
use Rattle.moka_hist.specs.declared.accesses.Want.{Want}
use Rattle.moka_init.specs.Forms.{HasForm}
use Rattle.moka_desk_cases.specs.Fitting.{FitsWant}

module _ {K V E : Type 0} where
  fits_form : (begun : Bool) (a : Access K V E) (g : Got K V E) → FitsWant (want_for begun a) g → HasForm a g
  fits_form false (step.On_table o) (got.Table t) fits = tt
  fits_form false (step.On_table o) (got.Desk f) fits = fits
  fits_form true (step.On_table o) (got.Table t) fits = tt
  fits_form true (step.On_table o) (got.Desk f) fits = fits
  fits_form false (step.On_desk v) (got.Table t) fits = fits
  fits_form false (step.On_desk v) (got.Desk f) fits = fits
  fits_form true (step.On_desk v) (got.Table t) fits = fits
  fits_form true (step.On_desk v) (got.Desk f) fits = fits

  pub wanted_form : (begun : Bool) (a : Access K V E) (wish : Want K V E) (g : Got K V E) → wish ≡ want_for begun a → FitsWant wish g → HasForm a g
  wanted_form begun a wish g is fits = fits_form begun a g (subst (λ (w : Want K V E). FitsWant w g) is fits)
