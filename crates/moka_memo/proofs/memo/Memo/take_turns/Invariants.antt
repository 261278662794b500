-- The queries so far have taken their turns.
use Rattle.std.proofs.Common.{take}
use Rattle.moka_evaluator.specs.Evaluator.{Evaluator}
use Rattle.moka_evaluator.specs.Finishing.{take_turns}
use Rattle.moka_memo.specs.Memo.{IsMemo}
use Rattle.moka_memo.proofs.Finishing.{Came}
use Rattle.moka_memo.proofs.memo.Memo.take_turns.Given as goal

abbrev pub invariant-loop-query : goal.invariant-loop-query
invariant-loop-query l =
    (e : Evaluator) → IsMemo l.fn.self e → Came l.self l.fn.answers.items l.answers.items (take_turns e (take l.query-index l.queries))
