use Rattle.moka_gateway_run.proofs.Cut.{cut}
use Rattle.moka_gateway_run.proofs.laws.cuts_make_no_difference.Goals as goal

pub returns : goal.returns
returns c = cut
