use Rattle.moka_laws.proofs.Bounds.{steps_bounded}
use Rattle.moka_laws.proofs.bounded.steps_are_bounded.Goals as goal

pub returns : goal.returns
returns g c = record { bounded = steps_bounded g.K.PartialEq.eq g.met.K.Eq.laws }
