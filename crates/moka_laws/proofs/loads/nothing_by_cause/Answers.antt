use Rattle.moka_laws.proofs.Sources.{nothing_cause}
use Rattle.moka_laws.proofs.loads.nothing_by_cause.Goals as goal

pub returns : goal.returns
returns g c = record { caused = nothing_cause g.K.PartialEq.eq }
