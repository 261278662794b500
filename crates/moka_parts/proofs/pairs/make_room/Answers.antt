use Rattle.std.proofs.Common.{ap}
use Rattle.std.specs.Option.{option_map}
use Rattle.moka_parts.specs.Pairs.{pair_of}
use Rattle.moka_parts.proofs.Entries.{lookup_permuted}
use Rattle.moka_parts.proofs.pairs.make_room.Goals as goal

pub returns-clause-map : goal.returns-clause-map
returns-clause-map g c = λ q.
    let made = c.reserve.ensures in
    ap (option_map pair_of) (lookup_permuted g.met.K.Eq.laws q c.args.map.now.entries c.reserve.new.self.entries made.entries.0 made.unique)
