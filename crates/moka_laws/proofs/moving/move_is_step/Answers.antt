use Rattle.moka_laws.proofs.Moved.{move_step}
use Rattle.moka_laws.proofs.moving.move_is_step.Goals as goal

pub returns : goal.returns
returns g c = record { step = move_step g.K.PartialEq.eq }
