-- Words are loaded, one after the other, all of them sealed so far.
use Rattle.std.proofs.Common.{◌≡◌, ◌-◌, ◌≤◌}
use Rattle.moka_shared.specs.Hashing.{hash_in, place_in}
use Rattle.moka_shared.specs.Links.{HasSealed}
use Rattle.moka_shared.specs.Probing.{GoesOn}
use Rattle.moka_shared.proofs.table.HashMap.count_sealed.Given as goal

abbrev pub invariant-loop-index : goal.invariant-loop-index
invariant-loop-index g l = record {
  few : l.stored ≤ l.index;
  low : l.index ≤ l.self.size;
  book : l.front.book ≡ l.fn.front.book;
  goes_on : GoesOn g.K.PartialEq.eq (hash_in g.S.BuildHasher g.S.Hasher.Hasher g.K.Hash.hash_input) (place_in g.S.BuildHasher g.S.Hasher.Hasher g.K.Hash.hash_input)
      l.self l.fn.front.log l.front.log;
  sealed : HasSealed g.K.PartialEq.eq (hash_in g.S.BuildHasher g.S.Hasher.Hasher g.K.Hash.hash_input)
      (place_in g.S.BuildHasher g.S.Hasher.Hasher g.K.Hash.hash_input) l.self l.segment l.index l.stored l.front.log;
}

abbrev pub decreases-loop-index : goal.decreases-loop-index
decreases-loop-index g l = l.self.size - l.index
