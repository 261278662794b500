-- The evaluator stays as it may be used.
use Rattle.moka_memo.specs.Memo.{IsUsable}
use Rattle.moka_memo_cases.proofs.calls.answer.Given as goal

abbrev pub invariant-loop : goal.invariant-loop
invariant-loop l = IsUsable l.memo
