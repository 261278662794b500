use Rattle.moka_callers.proofs.Standing.{stand}
use Rattle.moka_callers.proofs.contents.records_stand.Goals as goal

pub returns : goal.returns
returns g c = record { stands = stand g.K.PartialEq.eq }
