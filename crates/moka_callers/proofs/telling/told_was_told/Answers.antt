use Rattle.moka_callers.proofs.Told.{was_told}
use Rattle.moka_callers.proofs.telling.told_was_told.Goals as goal

pub returns : goal.returns
returns g c = record { told = was_told g.K.PartialEq.eq }
