use Rattle.std.proofs.Common.{◌≡◌, map, take}
use Rattle.moka_gateway_run.specs.Pieces.{read_byte}
use Rattle.moka_gateway_run.proofs.pieces.read_bytes.Given as goal

abbrev pub invariant-loop-byte : goal.invariant-loop-byte
invariant-loop-byte l = l.bytes.items ≡ map read_byte (take l.byte-index l.text)
