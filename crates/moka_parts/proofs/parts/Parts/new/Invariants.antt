use Rattle.std.proofs.Common.{◌≡◌, length, vec_len}
use Rattle.std.specs.Vec.{vec_capacity}
use Rattle.moka_parts.proofs.parts.Parts.new.Given as goal

abbrev pub invariant-loop-number : goal.invariant-loop-number
invariant-loop-number g l = record {
  many : length l.parts.items ≡ l._number;
  made : vec_len l.parts ≡ l._number;
  room : vec_capacity l.parts ≡ 64;
}
