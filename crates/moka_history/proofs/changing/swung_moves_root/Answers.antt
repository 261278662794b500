use Rattle.moka_history.proofs.Swinging.{root_moves}
use Rattle.moka_history.proofs.changing.swung_moves_root.Goals as goal

pub returns : goal.returns
returns g c = record {
  swings = λ s segment from to note placed is. root_moves _ s segment from to placed note is;
}
