use Rattle.std.proofs.Common.{length, is_some}
use Rattle.moka_evaluator.proofs.Counting.{count_most}
use Rattle.moka_evaluator.proofs.laws.known_are_of_rules.Goals as goal

pub returns : goal.returns
returns c = λ e. count_most (length e.rules) (λ r. is_some (e.known r))
