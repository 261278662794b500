use Rattle.moka_callers.proofs.Found.{is_found}
use Rattle.moka_callers.proofs.undisturbed.inserted_is_found.Goals as goal

pub returns : goal.returns
returns g c = record { found = is_found g.K.PartialEq.eq }
