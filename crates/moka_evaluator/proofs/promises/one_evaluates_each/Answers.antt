use Rattle.moka_evaluator.proofs.Promised.{in_one_frame, one_evaluates}
use Rattle.moka_evaluator.proofs.promises.one_evaluates_each.Goals as goal

pub returns : goal.returns
returns c = record { one = one_evaluates; frame = in_one_frame }
