use Rattle.moka_collapsing.proofs.Leaving.{all_leave}
use Rattle.moka_collapsing.proofs.standing.requests_leave.Goals as goal

pub returns : goal.returns
returns c = all_leave
