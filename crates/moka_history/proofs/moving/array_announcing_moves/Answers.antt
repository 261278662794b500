use Rattle.moka_history.proofs.Moves.{array_announcing_moves}
use Rattle.moka_history.proofs.moving.array_announcing_moves.Goals as goal

pub returns : goal.returns
returns g c = record {
  moves = λ eq hash place divided front count ticket segment size grown some is small low_number.
      array_announcing_moves eq hash place divided front some count ticket segment size grown is small low_number;
}
