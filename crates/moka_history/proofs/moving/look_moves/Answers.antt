use Rattle.moka_history.proofs.Plays.{look_moves}
use Rattle.moka_history.proofs.moving.look_moves.Goals as goal

pub returns : goal.returns
returns g c = record { moves = λ eq hash place front key ask some at. look_moves eq hash place front key ask some at }
