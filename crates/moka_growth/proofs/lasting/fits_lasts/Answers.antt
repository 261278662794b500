use Rattle.moka_growth.proofs.Lasts.{fits_lasts}
use Rattle.moka_growth.proofs.lasting.fits_lasts.Goals as goal

pub returns : goal.returns
returns c = record { fits = fits_lasts }
