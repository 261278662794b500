use Rattle.std.proofs.Common.{refl, ap, sym, ◌∙◌}
use Rattle.moka_cht.specs.Probes.{access_of}
use Rattle.moka_cht.proofs.Points.{place_is, put_goes}
use Rattle.moka_cht.proofs.look.put_word.Goals as goal

pub returns-clause-words : goal.returns-clause-words
returns-clause-words c =
    let p = c.args.probe in
    let (at, is) = place_is c.args.words.now.items p p.point c.requires.choice in
    let next_is = put_goes p c.in-On.next at c.args.node is c.in-On.ensures in
    c.exchange.ensures.words p.array _ _ _ (ap access_of next_is)
