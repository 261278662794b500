-- The text is that of the lines, and their run is served.
use Rattle.std.proofs.Common.{ap, ◌∙◌}
use Rattle.std.proofs.lemmas.Result.{IfOk-weaker}
use Rattle.moka_gateway_run.specs.Playing.{AreAnsweredBy, gateway_text}
use Rattle.moka_gateway_run.proofs.Runs.{are_answered}
use Rattle.moka_gateway_run.proofs.playing.LinesLineProgramLineUnit.answer.Goals as goal

pub returns : goal.returns
returns c =
    IfOk-weaker c.play_lines.result _ (λ text. AreAnsweredBy _ c.args.lines.items text.items _)
    (λ text is. are_answered c.runs_are_served.ensures _ _ c.args.lines.items text.items (is ∙ ap gateway_text c.deref.ensures.value))
    c.play_lines.ensures
