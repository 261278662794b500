use Rattle.moka_callers.proofs.Anew.{aborted}
use Rattle.moka_callers.proofs.loading.aborted_goes_on.Goals as goal

pub returns : goal.returns
returns g c = record { anew = aborted g.K.PartialEq.eq }
