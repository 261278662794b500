use Rattle.moka_growth.proofs.Stepping.{call_fits}
use Rattle.moka_growth.proofs.lasting.call_fits.Goals as goal

pub returns : goal.returns
returns c = record { fits = call_fits }
