use Rattle.moka_history.proofs.Grows.{swinging_moves}
use Rattle.moka_history.proofs.moving.swinging_moves.Goals as goal

pub returns : goal.returns
returns g c = record {
  moves = λ eq hash place divided segments first hasher front opened segment from to key call x root number there.
      swinging_moves eq hash place divided segments first hasher front opened segment from to key call x root number there;
}
