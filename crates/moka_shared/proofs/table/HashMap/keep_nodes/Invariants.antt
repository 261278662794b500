-- Words are loaded, one after the other, and their nodes kept.
use Rattle.std.proofs.Common.{◌≡◌, ◌-◌, ◌≤◌, length}
use Rattle.std.specs.Prelude.{vec_capacity}
use Rattle.moka_shelf.specs.Looks.{hiding}
use Rattle.moka_shared.specs.Fills.{AreFew, HasKept}
use Rattle.moka_shared.specs.Hashing.{hash_in, place_in}
use Rattle.moka_shared.specs.Links.{Follows, keys_in}
use Rattle.moka_shared.specs.Probing.{GoesOn}
use Rattle.moka_shared.proofs.table.HashMap.keep_nodes.Given as goal

abbrev pub invariant-loop-index : goal.invariant-loop-index
invariant-loop-index g l = record {
  low : l.index ≤ l.self.size;
  room : l.self.size ≤ vec_capacity l.kept;
  count : length l.kept.items ≤ l.index;
  book : l.front.book ≡ l.fn.front.book;
  goes_on : GoesOn g.K.PartialEq.eq (hash_in g.S.BuildHasher g.S.Hasher.Hasher g.K.Hash.hash_input) (place_in g.S.BuildHasher g.S.Hasher.Hasher g.K.Hash.hash_input)
      l.self l.fn.front.log l.front.log;
  follows : Follows l.segment l.row.ticket (keys_in l.row.words.items) l.front.log;
  hidden : hiding g.L.Shelf.hidden g.L.Shelf.last l.hidden ≡ hiding g.L.Shelf.hidden g.L.Shelf.last l.fn.hidden;
  few : AreFew l.kept.items;
  has : HasKept g.K.PartialEq.eq (hash_in g.S.BuildHasher g.S.Hasher.Hasher g.K.Hash.hash_input) (place_in g.S.BuildHasher g.S.Hasher.Hasher g.K.Hash.hash_input)
      l.self l.segment l.index l.kept.items l.front.log;
}

abbrev pub decreases-loop-index : goal.decreases-loop-index
decreases-loop-index g l = l.self.size - l.index
