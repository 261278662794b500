use Rattle.std.proofs.Common.{sym}
use Rattle.moka_cht.specs.Nodes.{own_key}
use Rattle.moka_cht.proofs.Loads.{tells_after}
use Rattle.moka_cht.proofs.look.find.Goals as goal

pub returns : goal.returns
returns g c q k =
    let begun = c.begin-probe in
    tells_after (own_key g.K.PartialEq.eq c.args.nodes.now q) c.args.words.now begun.result c.look.result _ _ _ c.args.hash begun.ensures.aim begun.ensures.hash c.in-Ended-Kept.is c.in-Ended-Kept.field-0-is (c.look.ensures q k)
