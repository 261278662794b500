-- Words are made, one after the other.
use Rattle.std.proofs.Common.{◌≡◌, ◌-◌, ◌≤◌, length}
use Rattle.std.specs.Prelude.{IsSome, vec_capacity}
use Rattle.moka_history.specs.Logs.{state_of}
use Rattle.moka_shared.specs.Hashing.{hash_in, place_in}
use Rattle.moka_shared.specs.Probing.{GoesOn}
use Rattle.moka_shared.specs.Rows.{AreRow, IsBehind}
use Rattle.moka_shared.proofs.table.HashMap.filled.Given as goal

abbrev pub invariant-loop-made : goal.invariant-loop-made
invariant-loop-made g l = record {
  few : l.made ≤ l.size;
  room : l.size ≤ vec_capacity l.words;
  book : l.front.book ≡ l.fn.front.book;
  goes_on : GoesOn g.K.PartialEq.eq (hash_in g.S.BuildHasher g.S.Hasher.Hasher g.K.Hash.hash_input) (place_in g.S.BuildHasher g.S.Hasher.Hasher g.K.Hash.hash_input)
      l.self l.fn.front.log l.front.log;
  planned : IsSome ((state_of l.front.log).plans l.ticket);
  row : AreRow l.self.book l.ticket l.words.items l.front.log;
  behind : IsBehind l.self.book l.ticket l.words.items l.behind l.front.log;
  count : length l.words.items ≡ l.made;
}

abbrev pub decreases-loop-made : goal.decreases-loop-made
decreases-loop-made g l = l.size - l.made
