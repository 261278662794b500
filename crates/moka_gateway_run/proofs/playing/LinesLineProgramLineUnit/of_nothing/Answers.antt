-- No lines, no text.
use Rattle.std.proofs.Common.{[], refl}
use Rattle.moka_gateway_run.proofs.Runs.{are_answered}
use Rattle.moka_gateway_run.proofs.playing.LinesLineProgramLineUnit.of_nothing.Goals as goal

pub returns : goal.returns
returns c = λ over. are_answered c.runs_are_served.ensures over over [] [] refl
