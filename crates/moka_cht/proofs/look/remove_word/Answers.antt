use Rattle.std.proofs.Common.{refl, ap, sym, ◌∙◌}
use Rattle.moka_cht.specs.Probes.{access_of}
use Rattle.moka_cht.proofs.Points.{remove_goes}
use Rattle.moka_cht.proofs.look.remove_word.Goals as goal

pub returns-clause-words : goal.returns-clause-words
returns-clause-words c n is =
    let p = c.args.probe in
    let next_is = remove_goes p c.in-On.next n is c.in-On.ensures in
    c.exchange.ensures.words p.array _ _ _ (ap access_of next_is)
