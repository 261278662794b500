use Rattle.std.proofs.Common.{◌≡◌, ◌++◌, map, take}
use Rattle.moka_gateway_run.specs.Pieces.{shown_byte}
use Rattle.moka_gateway_run.proofs.pieces.push_piece.Given as goal

abbrev pub invariant-loop-byte : goal.invariant-loop-byte
invariant-loop-byte l = l.text.items ≡ l.fn.text.items ++ map shown_byte (take l.byte-index l.bytes)
