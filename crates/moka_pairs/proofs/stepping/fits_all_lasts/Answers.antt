use Rattle.moka_pairs.proofs.Steps.{fits_last}
use Rattle.moka_pairs.proofs.stepping.fits_all_lasts.Goals as goal

pub returns : goal.returns
returns g c = record { lasts = fits_last }
