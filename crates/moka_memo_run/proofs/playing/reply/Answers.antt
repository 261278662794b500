-- What the line says was done.
use Rattle.std.proofs.Common.{sym, subst, append-nil}
use Rattle.std.specs.Prelude.{OnOk}
use Rattle.moka_evaluator.specs.Evaluator.{Evaluator}
use Rattle.moka_memo.specs.Memo.{IsMemo}
use Rattle.moka_memo_run.specs.Playing.{Replies, replied}
use Rattle.moka_memo_run.proofs.playing.reply.Goals as goal

pub returns-in-Rule-clause-replied : goal.returns-in-Rule-clause-replied
returns-in-Rule-clause-replied c = λ e is.
    subst (λ l. Replies c.args.memo.now c.args.text.now.items c.args.text.now.items (replied e l)) (sym c.in-Rule.is)
    (sym (append-nil c.args.text.now.items), is)

pub returns-in-Ask-clause-replied : goal.returns-in-Ask-clause-replied
returns-in-Ask-clause-replied c =
    subst (λ l. OnOk c.ask.result ((e : Evaluator) → IsMemo c.args.memo.now e →
    Replies c.ask.new.memo c.args.text.now.items c.ask.new.text.items (replied e l))) (sym c.in-Ask.is) c.ask.ensures.replied

pub returns-in-Turn-clause-replied : goal.returns-in-Turn-clause-replied
returns-in-Turn-clause-replied c =
    subst (λ l. OnOk c.turn.result ((e : Evaluator) → IsMemo c.args.memo.now e →
    Replies c.turn.new.memo c.args.text.now.items c.turn.new.text.items (replied e l))) (sym c.in-Turn.is) c.turn.ensures.replied

pub returns-in-Drop-clause-replied : goal.returns-in-Drop-clause-replied
returns-in-Drop-clause-replied c =
    subst (λ l. OnOk c.drop_query.result ((e : Evaluator) → IsMemo c.args.memo.now e →
    Replies c.drop_query.new.memo c.args.text.now.items c.drop_query.new.text.items (replied e l))) (sym c.in-Drop.is) c.drop_query.ensures.replied

pub returns-in-Finish-clause-replied : goal.returns-in-Finish-clause-replied
returns-in-Finish-clause-replied c =
    subst (λ l. OnOk c.finish.result ((e : Evaluator) → IsMemo c.args.memo.now e →
    Replies c.finish.new.memo c.args.text.now.items c.finish.new.text.items (replied e l))) (sym c.in-Finish.is) c.finish.ensures.replied
