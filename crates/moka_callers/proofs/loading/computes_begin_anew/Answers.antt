use Rattle.moka_callers.proofs.Anew.{begin_anew}
use Rattle.moka_callers.proofs.loading.computes_begin_anew.Goals as goal

pub returns : goal.returns
returns g c = record { anew = begin_anew g.K.PartialEq.eq }
