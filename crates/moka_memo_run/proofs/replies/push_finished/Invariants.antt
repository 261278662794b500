use Rattle.std.proofs.Common.{◌≡◌, ◌++◌, take}
use Rattle.std.specs.Prelude.{flat_map}
use Rattle.moka_memo_run.specs.Replies.{answer_line}
use Rattle.moka_memo_run.proofs.replies.push_finished.Given as goal

abbrev pub invariant-loop-answer : goal.invariant-loop-answer
invariant-loop-answer l = l.text.items ≡ l.fn.text.items ++ flat_map answer_line (take l.answer-index l.answers)
