use Rattle.moka_parts.proofs.Entries.{pair_found, lookup_taken}
use Rattle.moka_parts.proofs.pairs.take_entry.Goals as goal

pub returns-clause-entry : goal.returns-clause-entry
returns-clause-entry g c =
    let taken = c.remove_entry.ensures in
    pair_found (g.K.PartialEq.eq c.args.key.now) c.args.map.now.entries c.remove_entry.result taken.key taken.value

pub returns-clause-map : goal.returns-clause-map
returns-clause-map g c = λ q.
    let taken = c.remove_entry.ensures in
    lookup_taken g.met.K.Eq.laws c.args.key.now q c.args.map.now.entries c.remove_entry.new.self.entries c.len.ensures.unique taken.unique taken.entries
