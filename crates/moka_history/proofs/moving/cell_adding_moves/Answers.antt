use Rattle.moka_history.proofs.Moves.{cell_adding_moves}
use Rattle.moka_history.proofs.moving.cell_adding_moves.Goals as goal

pub returns : goal.returns
returns g c = record {
  moves = λ eq hash place divided front key left ticket some home has.
      cell_adding_moves eq hash place divided front some key left ticket home has;
}
