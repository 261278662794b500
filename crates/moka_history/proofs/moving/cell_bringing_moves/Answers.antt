use Rattle.moka_history.proofs.Moves.{cell_bringing_moves}
use Rattle.moka_history.proofs.moving.cell_bringing_moves.Goals as goal

pub returns : goal.returns
returns g c = record {
  moves = λ eq hash place divided front key left own ticket was_home some home at.
      cell_bringing_moves eq hash place divided front some key left own ticket was_home home at;
}
