-- Each query takes its turn.
use Rattle.std.proofs.Common.{take, take_all, sym, subst, append-nil}
use Rattle.moka_evaluator.specs.Finishing.{take_turns}
use Rattle.moka_memo.proofs.Finishing.{Came, next_came}
use Rattle.moka_memo.proofs.memo.Memo.take_turns.Goals as goal

pub turn_unspent-requires : goal.turn_unspent-requires
turn_unspent-requires c =
    let e = c.requires.0 in
    let came = c.loop-query.invariant e c.requires.1.0 in
    ((take_turns e (take c.loop-query.query-index c.args.queries.now)).1, (came.1, tt))

pub loop-query-init : goal.loop-query-init
loop-query-init c = λ e is. (sym (append-nil c.args.answers.now.items), is)

pub loop-query-preserved : goal.loop-query-preserved
loop-query-preserved c = λ e is.
    next_came e c.args.answers.now.items c.loop-query.answers.items c.push_answer.new.answers.items c.loop-query.self
    c.turn_unspent.new.self c.args.queries.now c.loop-query.query-index 0 c.loop-query-test.true (c.loop-query.invariant e is)
    c.in_ok-turned.turned c.in_ok-turned.ensures c.in_ok-push_answer.ensures

pub returns : goal.returns
returns c = λ e is.
    subst (λ queries. Came c.loop-query.self c.args.answers.now.items c.loop-query.answers.items (take_turns e queries))
    (take_all c.loop-query.query-index c.args.queries.now c.loop-query-test.false) (c.loop-query.invariant e is)
