use Rattle.moka_evaluator.proofs.Promised.{known_stays}
use Rattle.moka_evaluator.proofs.promises.known_stays.Goals as goal

pub returns : goal.returns
returns c = known_stays
