use Rattle.moka_laws.proofs.Sources.{error_cause}
use Rattle.moka_laws.proofs.loads.error_by_cause.Goals as goal

pub returns : goal.returns
returns g c = record { caused = error_cause g.K.PartialEq.eq }
