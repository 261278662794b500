-- Each bit is the comparison of a byte with the mark.
use Rattle.std.proofs.Common.{take, eqb, w8, arith}
use Rattle.std.proofs.lemmas.Simd.{bitmask_splat, length-chunk}
use Rattle.moka_lines.proofs.words.marks_of.Goals as goal

pub returns : goal.returns
returns c = bitmask_splat w8 eqb (take 32 c.args.bytes.now) 32 c.args.mark (length-chunk 0 32 c.args.bytes.now c.requires) (omega arith)
