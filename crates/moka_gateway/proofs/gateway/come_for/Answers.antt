-- The request stands as the reference says.
use Rattle.std.proofs.Common.{refl}
use Rattle.std.proofs.lemmas.Result.{on_ok_weaker}
use Rattle.moka_gateway.proofs.Rows.{come_get}
use Rattle.moka_gateway.proofs.gateway.come_for.Goals as goal

pub ask-requires : goal.ask-requires
ask-requires c = (c.requires.0.upstream, c.requires.1.stands)

pub returns : goal.returns
returns c = on_ok_weaker c.push_fetch.result (λ pushed c0 h.
    come_get c.ask.new.self c.args.client.now c.add.new.self c.args.outs.now.items c.push_fetch.new.outs.items c0 c.args.number c.args.key
    c.in_ok-index.index _ c.in_ok-asked.asked h.same h.done c.in_ok-index.ensures refl
    (c.in_ok-asked.ensures c0.upstream h.stands) c.in_ok-add.ensures pushed)
    c.push_fetch.ensures
