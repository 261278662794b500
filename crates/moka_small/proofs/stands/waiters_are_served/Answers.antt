use Rattle.moka_small.proofs.Serving.{has_owner}
use Rattle.moka_small.proofs.stands.waiters_are_served.Goals as goal

pub returns : goal.returns
returns g c = record { served = has_owner g.K.PartialEq.eq }
