use Rattle.moka_callers.proofs.Numbering.{go_up}
use Rattle.moka_callers.proofs.living.numbers_go_up.Goals as goal

pub returns : goal.returns
returns g c = record { numbers = go_up g.K.PartialEq.eq }
