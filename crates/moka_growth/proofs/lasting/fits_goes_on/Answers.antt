use Rattle.moka_growth.proofs.Stepping.{fits_goes_on}
use Rattle.moka_growth.proofs.lasting.fits_goes_on.Goals as goal

pub returns : goal.returns
returns c = record { fits = fits_goes_on }
