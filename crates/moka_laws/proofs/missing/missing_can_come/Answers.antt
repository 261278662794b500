use Rattle.moka_laws.proofs.Coming.{can_come}
use Rattle.moka_laws.proofs.missing.missing_can_come.Goals as goal

pub returns : goal.returns
returns g c = record { comes = can_come g.K.PartialEq.eq g.met.K.Eq.laws }
