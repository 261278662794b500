-- The replies are those of the reference evaluator.
use Rattle.std.proofs.Common.{◌++◌, take_all, sym, ◌∙◌, subst}
use Rattle.moka_evaluator.specs.Evaluator.{fresh}
use Rattle.moka_evaluator.specs.Plain.{IsAcyclic}
use Rattle.moka_memo.specs.Memo.{IsMemo}
use Rattle.moka_memo_run.specs.Playing.{replied_all, rules_in}
use Rattle.moka_memo_run.specs.Replies.{known_line}
use Rattle.moka_memo_run.proofs.Acyclic.{acyclic}
use Rattle.moka_memo_run.proofs.Replying.{Came, next_came}
use Rattle.moka_memo_run.proofs.playing.reply_all.Goals as goal

pub new-requires : goal.new-requires
new-requires c = record { acyclic = subst IsAcyclic (sym c.in_ok-rules.ensures) (acyclic c.args.lines.now c.requires) }

pub loop-line-init : goal.loop-line-init
loop-line-init c = record {
  usable = c.in_ok-memo.ensures.usable;
  came = (c.new-text.ensures.items, subst (λ rules. IsMemo c.in_ok-memo.memo (fresh rules)) c.in_ok-rules.ensures c.in_ok-memo.ensures.fresh);
}

pub loop-line-preserved : goal.loop-line-preserved
loop-line-preserved c = record {
  usable = c.in_ok-reply.ensures.usable;
  came = next_came (fresh (rules_in c.args.lines.now)) c.loop-line.text.items c.reply.new.text.items c.loop-line.memo c.reply.new.memo
      c.args.lines.now c.loop-line.line-index _ c.loop-line-test.true c.loop-line.invariant.came
      c.in_ok-reply.ensures.replied;
}

pub returns : goal.returns
returns c =
    let all = take_all c.loop-line.line-index c.args.lines.now c.loop-line-test.false in
    let came = subst (λ lines. Came c.loop-line.memo c.loop-line.text.items (replied_all (fresh (rules_in c.args.lines.now)) lines)) all
    c.loop-line.invariant.came in
    c.in_ok-push_known.ensures ∙ (λ i. came.0 i ++ known_line (c.known.ensures (replied_all (fresh (rules_in c.args.lines.now)) c.args.lines.now).1 came.1 i))
