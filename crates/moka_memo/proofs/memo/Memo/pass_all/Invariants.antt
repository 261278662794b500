-- The frames that are left are still to be passed.
use Rattle.std.proofs.Common.{ℕ, vec_len}
use Rattle.moka_evaluator.specs.Evaluator.{Evaluator}
use Rattle.moka_evaluator.specs.Sound.{LieBelow}
use Rattle.moka_stacks.specs.Queries.{nearest_first}
use Rattle.moka_memo.specs.Passing.{IsPassing}
use Rattle.moka_memo.proofs.Letting.{StillPassing}
use Rattle.moka_memo.proofs.memo.Memo.pass_all.Given as goal

abbrev pub invariant-frames : goal.invariant-frames
invariant-frames l =
    (e : Evaluator) (q r : ℕ) → IsPassing l.fn.self e q (nearest_first l.fn.frames.items) →
    LieBelow e.rules e.owner q r (nearest_first l.fn.frames.items) → StillPassing l.self e q (nearest_first l.frames.items)

abbrev pub decreases-frames : goal.decreases-frames
decreases-frames l = vec_len l.frames
