use Rattle.moka_history.proofs.Grows.{copying_moves}
use Rattle.moka_history.proofs.moving.copying_moves.Goals as goal

pub returns : goal.returns
returns g c = record {
  moves = λ eq hash place divided segments first hasher front opened segment array index from laid key call x bucket row.
      copying_moves eq hash place divided segments first hasher front opened segment array index from laid key call x bucket row;
}
