use Rattle.moka_buckets.proofs.Tested.{computes_on}
use Rattle.moka_buckets.proofs.looking.is_true.Goals as goal

pub returns-clause-own : goal.returns-clause-own
returns-clause-own g c h k = computes_on h k c.eq.ensures
