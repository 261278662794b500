-- The answers are the evaluator's.
use Rattle.std.proofs.Common.{◌++◌, ap, ◌∙◌}
use Rattle.std.proofs.lemmas.Result.{on_ok_weaker}
use Rattle.moka_memo_run.specs.Replies.{finished_text}
use Rattle.moka_memo_run.proofs.playing.finish.Goals as goal

pub returns-clause-replied : goal.returns-clause-replied
returns-clause-replied c = on_ok_weaker c.push_finished.result (λ pushed e is.
    let came = c.in_ok-answers.ensures.finished e is in
    (pushed ∙ ap (λ x. c.args.text.now.items ++ finished_text x) (c.deref.ensures.value ∙ came.0), came.1))
    c.push_finished.ensures
