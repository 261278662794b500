use Rattle.moka_evaluator.proofs.Worths.{plain_is}
use Rattle.moka_evaluator.proofs.laws.plain_values_follow.Goals as goal

pub returns : goal.returns
returns c = λ rules r rule acyclic e. plain_is rules acyclic r rule e
