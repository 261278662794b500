use Rattle.moka_callers.proofs.Failing.{errors_told}
use Rattle.moka_callers.proofs.computing.compute_errors_were_told.Goals as goal

pub returns : goal.returns
returns g c = record { told = errors_told g.K.PartialEq.eq }
