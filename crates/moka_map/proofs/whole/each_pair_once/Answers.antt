use Rattle.moka_map.proofs.Giving.{each_once}
use Rattle.moka_map.proofs.whole.each_pair_once.Goals as goal

pub returns : goal.returns
returns g c = record {
  once = λ s mid last given all run none.
      each_once g.S.BuildHasher g.S.Hasher.Hasher g.K.PartialEq.eq g.K.Hash.hash_input g.met.K.Eq.laws s mid last given all run none;
}
