use Rattle.std.proofs.Common.{Some, None, ap, ◌∙◌}
use Rattle.std.specs.Option.{option_map}
use Rattle.moka_parts.specs.Pairs.{pair_of}
use Rattle.moka_parts.proofs.Entries.{lent_found}
use Rattle.moka_parts.proofs.pairs.find.Goals as goal

pub returns-in-Some : goal.returns-in-Some
returns-in-Some g c =
    ap Some c.pair.ensures
    ∙ ap (option_map pair_of) (lent_found (g.K.PartialEq.eq c.args.key.now) c.args.map.now.entries (Some (c.in-Some.stored, c.in-Some.held)) c.in-Some.ensures.key c.in-Some.ensures.value)

pub returns-in-None : goal.returns-in-None
returns-in-None g c =
    ap (option_map pair_of) (lent_found (g.K.PartialEq.eq c.args.key.now) c.args.map.now.entries None c.in-None.ensures.key c.in-None.ensures.value)
