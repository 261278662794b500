use Rattle.std.proofs.Common.{take}
use Rattle.moka_evaluator.specs.Evaluator.{fresh}
use Rattle.moka_memo.specs.Memo.{IsUsable}
use Rattle.moka_memo_run.specs.Playing.{replied_all, rules_in}
use Rattle.moka_memo_run.proofs.Replying.{Came}
use Rattle.moka_memo_run.proofs.playing.reply_all.Given as goal

abbrev pub invariant-loop-line : goal.invariant-loop-line
invariant-loop-line l = record {
  usable : IsUsable l.memo;
  came : Came l.memo l.text.items (replied_all (fresh (rules_in l.lines)) (take l.line-index l.lines));
}
