use Rattle.moka_laws.proofs.KindsOfEnds.{settlements_fit}
use Rattle.moka_laws.proofs.loads.settlements_fit.Goals as goal

pub returns : goal.returns
returns g c = record { fits = settlements_fit g.K.PartialEq.eq }
