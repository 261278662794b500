use Rattle.moka_history.proofs.Plays.{announcing_moves}
use Rattle.moka_history.proofs.moving.announcing_moves.Goals as goal

pub returns : goal.returns
returns g c = record {
  moves = λ eq hash place divided front count ticket pair some is small. announcing_moves eq hash place divided front count ticket pair some is small;
}
