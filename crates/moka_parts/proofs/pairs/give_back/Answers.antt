use Rattle.moka_parts.proofs.Entries.{lookup_permuted}
use Rattle.moka_parts.proofs.pairs.give_back.Goals as goal

pub returns-then-pairs-places-clause-map : goal.returns-then-pairs-places-clause-map
returns-then-pairs-places-clause-map g c = λ q.
    let made = c.shrink_to.ensures in
    lookup_permuted g.met.K.Eq.laws q c.args.map.now.entries c.shrink_to.new.self.entries made.entries.0 made.unique
