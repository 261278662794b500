use Rattle.moka_laws.proofs.Missed.{missed_by_cause}
use Rattle.moka_laws.proofs.removals.missed_by_cause.Goals as goal

pub returns : goal.returns
returns g c = record { missed = missed_by_cause g.K.PartialEq.eq }
