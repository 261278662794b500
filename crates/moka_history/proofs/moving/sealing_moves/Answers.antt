use Rattle.moka_history.proofs.Moves.{sealing_moves}
use Rattle.moka_history.proofs.moving.sealing_moves.Goals as goal

pub returns : goal.returns
returns g c = record {
  moves = λ eq hash place divided front some segment array index bucket within rooted row word small bare.
      sealing_moves eq hash place divided front some segment array index bucket within rooted row word small bare;
}
