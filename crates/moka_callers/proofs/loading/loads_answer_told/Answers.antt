use Rattle.moka_callers.proofs.Settling.{answer_told}
use Rattle.moka_callers.proofs.loading.loads_answer_told.Goals as goal

pub returns : goal.returns
returns g c = record { says = answer_told g.K.PartialEq.eq }
