use Rattle.moka_shared.proofs.Tested.{computes_on}
use Rattle.moka_shared.proofs.seek.is_true.Goals as goal

pub returns-clause-own : goal.returns-clause-own
returns-clause-own g c h k = computes_on h k c.eq.ensures
