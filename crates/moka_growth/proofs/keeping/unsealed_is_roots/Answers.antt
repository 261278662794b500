use Rattle.moka_growth.proofs.Making.{unsealed_is_roots}
use Rattle.moka_growth.proofs.keeping.unsealed_is_roots.Goals as goal

pub returns : goal.returns
returns c = record { root = unsealed_is_roots }
