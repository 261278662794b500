use Rattle.moka_map.proofs.Arriving.{none_listed}
use Rattle.moka_map.proofs.hash_map.HashMap.iter.Goals as goal

pub invariant_of-result : goal.invariant_of-result
invariant_of-result g c = none_listed g.S.BuildHasher g.S.Hasher.Hasher g.K.PartialEq.eq g.K.Hash.hash_input c.args.self.now c.new.result.items c.new.ensures.items
