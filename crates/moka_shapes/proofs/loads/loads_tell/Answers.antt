use Rattle.moka_shapes.proofs.Loading.{loads_tell}
use Rattle.moka_shapes.proofs.loads.loads_tell.Goals as goal

pub returns : goal.returns
returns g c = record { tells = loads_tell g.K.PartialEq.eq }
