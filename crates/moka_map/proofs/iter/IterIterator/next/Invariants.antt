-- Just as much is to come as at the beginning, and an iterator that was over is as it was.
use Rattle.std.proofs.Common.{◌≡◌, ◌↔◌, ◌-◌}
use Rattle.moka_map.specs.Coming.{IsOver, IsToCome}
use Rattle.moka_map.specs.Maps.{segments_in}
use Rattle.moka_map.proofs.iter.IterIterator.next.Given as goal

abbrev pub invariant-loop-self : goal.invariant-loop-self
invariant-loop-self g l = record {
  map : l.self.map ≡ l.fn.self.map;
  same : (q : _) → IsToCome g.S.BuildHasher g.S.Hasher.Hasher g.K.PartialEq.eq g.K.Hash.hash_input l.self q
      ↔ IsToCome g.S.BuildHasher g.S.Hasher.Hasher g.K.PartialEq.eq g.K.Hash.hash_input l.fn.self q;
  over : IsOver g.S.BuildHasher g.S.Hasher.Hasher g.K.PartialEq.eq g.K.Hash.hash_input l.fn.self → l.self ≡ l.fn.self;
}

abbrev pub decreases-loop-self : goal.decreases-loop-self
decreases-loop-self g l = segments_in l.self.map - l.self.segment
