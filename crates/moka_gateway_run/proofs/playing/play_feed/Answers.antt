-- What came of it is told.
use Rattle.std.proofs.Common.{◌++◌, [], ap, ◌∙◌}
use Rattle.std.proofs.lemmas.Result.{on_ok_weaker}
use Rattle.moka_gateway_run.specs.Playing.{done_text}
use Rattle.moka_gateway_run.proofs.playing.play_feed.Goals as goal

pub returns : goal.returns
returns c = on_ok_weaker c.push_done.result (λ told g is.
    let it = c.in_ok-outs.ensures.answers g is in
    (told ∙ ap (λ x. c.args.text.now.items ++ done_text [] x) it.0, it.1))
    c.push_done.ensures
