-- One more line was looked at.
use Rattle.moka_memo_run.proofs.Replying.{rules_grow}
use Rattle.moka_memo_run.proofs.playing.rules_in.Goals as goal

pub loop-line-preserved : goal.loop-line-preserved
loop-line-preserved c =
    rules_grow c.args.lines.now c.loop-line.line-index _ c.loop-line.rules.items _ c.loop-line-test.true c.loop-line.invariant
    c.in_ok-push_rule.ensures
