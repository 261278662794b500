use Rattle.moka_growth.proofs.Making.{empty_is_root}
use Rattle.moka_growth.proofs.beginning.empty_is_root.Goals as goal

pub returns : goal.returns
returns c = record { root = empty_is_root }
