use Rattle.moka_laws.proofs.Waits.{by_cause}
use Rattle.moka_laws.proofs.waiting.waits_by_cause.Goals as goal

pub returns : goal.returns
returns g c = record { waits = by_cause g.K.PartialEq.eq }
