-- The reply is the evaluator's.
use Rattle.std.proofs.Common.{◌++◌, ap, ◌∙◌}
use Rattle.std.proofs.lemmas.Result.{on_ok_weaker}
use Rattle.moka_memo_run.specs.Replies.{asked_line}
use Rattle.moka_memo_run.proofs.playing.ask.Goals as goal

pub returns-clause-replied : goal.returns-clause-replied
returns-clause-replied c = on_ok_weaker c.push_asked.result (λ pushed e is.
    let came = c.in_ok-query.ensures.asked e is in
    (pushed ∙ ap (λ x. c.args.text.now.items ++ asked_line x) came.0, came.1))
    c.push_asked.ensures
