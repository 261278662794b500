-- The lines that are left are still to be played.
use Rattle.std.proofs.Common.{drop}
use Rattle.moka_gateway_run.specs.Playing.{gateway_text}
use Rattle.moka_gateway_run.proofs.Plays.{Playing}
use Rattle.moka_gateway_run.proofs.playing.play_lines.Given as goal

abbrev pub invariant-loop-line : goal.invariant-loop-line
invariant-loop-line l = Playing l.gateway l.text.items (drop l.line-index l.lines) (gateway_text l.lines)
