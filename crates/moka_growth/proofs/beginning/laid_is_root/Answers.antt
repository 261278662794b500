use Rattle.moka_growth.proofs.Making.{laid_is_root}
use Rattle.moka_growth.proofs.beginning.laid_is_root.Goals as goal

pub returns : goal.returns
returns c = record { root = laid_is_root }
