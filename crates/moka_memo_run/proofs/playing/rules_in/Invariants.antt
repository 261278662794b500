use Rattle.std.proofs.Common.{◌≡◌, take}
use Rattle.moka_memo_run.specs.Playing.{rules_in}
use Rattle.moka_memo_run.proofs.playing.rules_in.Given as goal

abbrev pub invariant-loop-line : goal.invariant-loop-line
invariant-loop-line l = l.rules.items ≡ rules_in (take l.line-index l.lines)
