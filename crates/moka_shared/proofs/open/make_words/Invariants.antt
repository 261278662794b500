-- So many words are made, one after the other.
use Rattle.std.proofs.Common.{◌≡◌, ◌+◌, ◌-◌, ◌≤◌}
use Rattle.std.specs.Prelude.{vec_capacity}
use Rattle.moka_shared.specs.Tables.{AreWords}
use Rattle.moka_shared.proofs.open.make_words.Given as goal

abbrev pub invariant-loop-made : goal.invariant-loop-made
invariant-loop-made g l = record {
  few : l.made ≤ l.count;
  room : l.count ≤ vec_capacity l.words;
  book : l.pens.book ≡ l.fn.pens.book;
  next : l.pens.next ≡ l.fn.pens.next + l.made;
  enough : l.count ≤ l.fn.pens.left;
  left : l.pens.left ≡ l.fn.pens.left - l.made;
  are : AreWords l.fn.pens.book l.fn.pens.next l.made l.words.items;
}

abbrev pub decreases-loop-made : goal.decreases-loop-made
decreases-loop-made g l = l.count - l.made
