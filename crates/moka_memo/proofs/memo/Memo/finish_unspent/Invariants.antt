-- What is to come makes the whole of the answers, and the moves that are left get fewer.
use Rattle.moka_evaluator.specs.Evaluator.{Evaluator}
use Rattle.moka_evaluator.specs.Finishing.{moves_to}
use Rattle.moka_stacks.specs.Queries.{stack_at}
use Rattle.moka_memo.specs.Memo.{IsMemo}
use Rattle.moka_memo.proofs.Finishing.{SoFar}
use Rattle.moka_memo.proofs.memo.Memo.finish_unspent.Given as goal

abbrev pub invariant-rounds : goal.invariant-rounds
invariant-rounds l = (e : Evaluator) → IsMemo l.fn.self e → SoFar l.self l.answers.items e

abbrev pub decreases-rounds : goal.decreases-rounds
decreases-rounds l = moves_to l.self.last (stack_at l.self.queries)
