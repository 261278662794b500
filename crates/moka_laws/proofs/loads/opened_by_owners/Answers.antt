use Rattle.moka_laws.proofs.Opening.{opened_by_owners}
use Rattle.moka_laws.proofs.loads.opened_by_owners.Goals as goal

pub returns : goal.returns
returns g c = record { opened = opened_by_owners g.K.PartialEq.eq g.met.K.Eq.laws }
