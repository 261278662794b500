use Rattle.moka_laws.proofs.Draining.{maintenance_drains}
use Rattle.moka_laws.proofs.maintaining.maintenance_drains.Goals as goal

pub returns : goal.returns
returns g c = record { drains = maintenance_drains g.K.PartialEq.eq g.met.K.Eq.laws }
