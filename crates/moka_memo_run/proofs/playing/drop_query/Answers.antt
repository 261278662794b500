-- The reply is the evaluator's.
use Rattle.std.proofs.Common.{◌++◌, ap, ◌∙◌}
use Rattle.std.proofs.lemmas.Result.{on_ok_weaker}
use Rattle.moka_memo_run.specs.Replies.{dropped_line}
use Rattle.moka_memo_run.proofs.playing.drop_query.Goals as goal

pub returns-clause-replied : goal.returns-clause-replied
returns-clause-replied c = on_ok_weaker c.push_dropped.result (λ pushed e is.
    let came = c.in_ok-dropped.ensures.dropped e is in
    (pushed ∙ ap (λ x. c.args.text.now.items ++ dropped_line x) came.0, came.1))
    c.push_dropped.ensures
