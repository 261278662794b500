use Rattle.moka_requests.proofs.Pieces.{in_pieces}
use Rattle.moka_requests.proofs.laws.pieces_make_no_difference.Goals as goal

pub returns : goal.returns
returns c = in_pieces
