use Rattle.moka_laws.proofs.Moved.{moves_steps}
use Rattle.moka_laws.proofs.moving.moves_are_steps.Goals as goal

pub returns : goal.returns
returns g c = record { steps = moves_steps g.K.PartialEq.eq }
