use Rattle.moka_cht.proofs.Calls.{computes_on}
use Rattle.moka_cht.proofs.look.is_own.Goals as goal

pub returns-clause-own : goal.returns-clause-own
returns-clause-own g c h k = computes_on h k c.eq.ensures
