use Rattle.moka_shapes.proofs.Walking.{others_none}
use Rattle.moka_shapes.proofs.walks.others_give_none.Goals as goal

pub returns : goal.returns
returns g c = record { none = others_none g.K.PartialEq.eq }
