use Rattle.moka_callers.proofs.Refused.{by_cause}
use Rattle.moka_callers.proofs.refusing.refused_by_cause.Goals as goal

pub returns : goal.returns
returns g c = record { refused = by_cause g.K.PartialEq.eq }
