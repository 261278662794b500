-- The words come first.
use Rattle.std.proofs.Common.{◌++◌, flat_map, append_assoc, ap, ◌∙◌}
use Rattle.std.proofs.lemmas.Result.{on_ok_weaker}
use Rattle.moka_gateway_run.specs.Playing.{out_line}
use Rattle.moka_gateway_run.proofs.playing.push_first.Goals as goal

pub returns : goal.returns
returns c = on_ok_weaker c.push_outs.result (λ told.
    told ∙ ap (λ l. c.push_words.new.text.items ++ flat_map out_line l) c.as_slice.ensures
    ∙ ap (λ t. t ++ flat_map out_line c.args.outs.now) c.in_ok-push_words.ensures
    ∙ append_assoc c.args.text.now.items c.args.first.now (flat_map out_line c.args.outs.now))
    c.push_outs.ensures
