use Rattle.moka_callers.proofs.Taken.{fresh_told}
use Rattle.moka_callers.proofs.loading.fresh_was_told.Goals as goal

pub returns : goal.returns
returns g c = record { told = fresh_told g.K.PartialEq.eq }
