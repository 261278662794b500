use Rattle.std.proofs.Common.{arith}
use Rattle.moka_parts.specs.Hashing.{part_in}
use Rattle.moka_parts.proofs.Steps.{opened_kept}
use Rattle.moka_parts.proofs.open_book.OpenBook.of.Goals as goal

pub open_row-seen-requires : goal.open_row-seen-requires
open_row-seen-requires g c = (
  opened_kept g.K.PartialEq.eq (part_in g.S.BuildHasher g.S.Hasher.Hasher g.K.Hash.hash_input) c.args.hasher c.args.words (let is = c.requires in omega (arith, is)),
  (λ log. tt),
  c.alone.ensures.1,
)
