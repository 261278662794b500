use Rattle.moka_collapsing.proofs.Ordering.{opens_one}
use Rattle.moka_collapsing.proofs.laws.upstream_requests_are_shared.Goals as goal

pub returns : goal.returns
returns c = opens_one
