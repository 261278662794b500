use Rattle.moka_collapsing.proofs.Cutting.{same_in_pieces}
use Rattle.moka_collapsing.proofs.laws.pieces_make_no_difference.Goals as goal

pub returns : goal.returns
returns c = same_in_pieces
