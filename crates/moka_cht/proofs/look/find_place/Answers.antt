use Rattle.std.proofs.Common.{refl, rules}
use Rattle.std.proofs.lemmas.Fn.{always_returns_same}
use Rattle.moka_cht.specs.Nodes.{own_key}
use Rattle.moka_cht.proofs.Loads.{tells_after, place_after, insert_ends}
use Rattle.moka_cht.proofs.look.find_place.Goals as goal

pub look-requires-clause-one : goal.look-requires-clause-one
look-requires-clause-one g c = (c.args.key.now, always_returns_same _ _ _ (λ a r f k. search rules))

pub returns-in-On : goal.returns-in-On
returns-in-On g c =
    let begun = c.begin-probe in
    place_after (own_key g.K.PartialEq.eq c.args.nodes.now c.args.key.now) c.args.words.now begun.result c.in-On.probe c.look.result _ c.args.hash begun.ensures.aim begun.ensures.array begun.ensures.hash c.in-On.is
    (c.look.ensures c.args.key.now (always_returns_same _ _ _ (λ a r f k. search rules)))

pub returns-in-Ended : goal.returns-in-Ended
returns-in-Ended g c =
    let begun = c.begin-probe in
    let own = own_key g.K.PartialEq.eq c.args.nodes.now c.args.key.now in
    insert_ends own c.args.words.now c.args.nodes.now c.args.hash c.in-Ended.field-0 c.requires.kept
    (tells_after own c.args.words.now begun.result c.look.result _ _ _ c.args.hash begun.ensures.aim begun.ensures.hash c.in-Ended.is refl
    (c.look.ensures c.args.key.now (always_returns_same _ _ _ (λ a r f k. search rules))))
