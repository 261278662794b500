use Rattle.moka_shapes.proofs.Computing.{computes_tell}
use Rattle.moka_shapes.proofs.computes.computes_tell.Goals as goal

pub returns : goal.returns
returns g c = record { tells = computes_tell g.K.PartialEq.eq }
