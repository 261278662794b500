use Rattle.moka_history.proofs.Grows.{linking_moves}
use Rattle.moka_history.proofs.moving.linking_moves.Goals as goal

pub returns : goal.returns
returns g c = record {
  moves = λ eq hash place divided segments first hasher front opened segment before size nodes key call x own ticket next keys behind may length_is.
      linking_moves eq hash place divided segments first hasher front opened segment before size nodes key call x own ticket next keys behind may length_is;
}
