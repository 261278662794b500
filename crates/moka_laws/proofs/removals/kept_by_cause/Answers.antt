use Rattle.moka_laws.proofs.Keeping.{kept_by_cause}
use Rattle.moka_laws.proofs.removals.kept_by_cause.Goals as goal

pub returns : goal.returns
returns g c = record { kept = kept_by_cause g.K.PartialEq.eq }
