use Rattle.moka_laws.proofs.Hits.{takes_nothing}
use Rattle.moka_laws.proofs.predicates.maintenance_takes_nothing.Goals as goal

pub returns : goal.returns
returns g c = record { nothing = takes_nothing g.K.PartialEq.eq }
