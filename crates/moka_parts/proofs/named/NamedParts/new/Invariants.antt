use Rattle.std.proofs.Common.{◌≡◌, ◌+◌, length, vec_len}
use Rattle.std.specs.Vec.{vec_capacity}
use Rattle.moka_parts.proofs.named.NamedParts.new.Given as goal

abbrev pub invariant-loop-number : goal.invariant-loop-number
invariant-loop-number g l = record {
  book : l.pens.book ≡ g.J.Naming.book;
  next : l.pens.next ≡ l.number;
  left : l.pens.left + l.number ≡ 65;
  many : length l.parts.items ≡ l.number;
  made : vec_len l.parts ≡ l.number;
  room : vec_capacity l.parts ≡ 64;
}
