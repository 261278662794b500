use Rattle.moka_growth.proofs.Bounding.{left_is_bounded}
use Rattle.moka_growth.proofs.bounded.left_is_bounded.Goals as goal

pub returns : goal.returns
returns c = record { bounded = left_is_bounded }
