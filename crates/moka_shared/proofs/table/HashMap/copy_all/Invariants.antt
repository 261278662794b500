-- The words are copied, one after the other.
use Rattle.std.proofs.Common.{◌≡◌, ◌-◌, ◌≤◌, length}
use Rattle.moka_shared.specs.Fills.{IsLaid}
use Rattle.moka_shared.specs.Hashing.{hash_in, place_in}
use Rattle.moka_shared.specs.Links.{Follows, keys_in}
use Rattle.moka_shared.specs.Probing.{GoesOn}
use Rattle.moka_shared.specs.Rows.{AreRow}
use Rattle.moka_shared.specs.Swings.{AreSet}
use Rattle.moka_shared.proofs.table.HashMap.copy_all.Given as goal

abbrev pub invariant-loop-index : goal.invariant-loop-index
invariant-loop-index g l = record {
  low : l.index ≤ length l.row.words.items;
  book : l.front.book ≡ l.fn.front.book;
  goes_on : GoesOn g.K.PartialEq.eq (hash_in g.S.BuildHasher g.S.Hasher.Hasher g.K.Hash.hash_input) (place_in g.S.BuildHasher g.S.Hasher.Hasher g.K.Hash.hash_input)
      l.self l.fn.front.log l.front.log;
  row : AreRow l.self.book l.row.ticket l.row.words.items l.front.log;
  follows : Follows l.segment l.row.ticket (keys_in l.row.words.items) l.front.log;
  laid : IsLaid g.K.PartialEq.eq (hash_in g.S.BuildHasher g.S.Hasher.Hasher g.K.Hash.hash_input) (place_in g.S.BuildHasher g.S.Hasher.Hasher g.K.Hash.hash_input)
      l.self l.segment (length l.row.words.items) l.laid.items l.front.log;
  set : AreSet l.row.ticket l.index l.front.log;
}

abbrev pub decreases-loop-index : goal.decreases-loop-index
decreases-loop-index g l = length l.row.words.items - l.index
