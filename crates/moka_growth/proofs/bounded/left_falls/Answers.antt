use Rattle.moka_growth.proofs.Lowered.{left_falls}
use Rattle.moka_growth.proofs.bounded.left_falls.Goals as goal

pub returns : goal.returns
returns c = record { falls = left_falls }
