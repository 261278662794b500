use Rattle.moka_callers.proofs.Settling.{answer_as}
use Rattle.moka_callers.proofs.computing.computes_answer_as_told.Goals as goal

pub returns : goal.returns
returns g c = record { says = answer_as g.K.PartialEq.eq }
