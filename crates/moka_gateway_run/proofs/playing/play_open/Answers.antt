-- What came of it is told.
use Rattle.std.proofs.Common.{◌++◌, ap, ◌∙◌}
use Rattle.std.proofs.lemmas.Result.{on_ok_weaker}
use Rattle.moka_gateway_run.specs.Replies.{client_line}
use Rattle.moka_gateway_run.proofs.playing.play_open.Goals as goal

pub returns : goal.returns
returns c = on_ok_weaker c.push_client.result (λ told g is.
    let it = c.in_ok-client.ensures.answers g is in
    (told ∙ ap (λ x. c.args.text.now.items ++ client_line x) it.0, it.1))
    c.push_client.ensures
