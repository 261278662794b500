use Rattle.moka_laws.proofs.Served.{waiters_served}
use Rattle.moka_laws.proofs.missing.waiters_have_owners.Goals as goal

pub returns : goal.returns
returns g c = record { served = waiters_served g.K.PartialEq.eq }
