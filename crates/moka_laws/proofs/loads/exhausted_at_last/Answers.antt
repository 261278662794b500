use Rattle.moka_laws.proofs.Sources.{exhausted_last}
use Rattle.moka_laws.proofs.loads.exhausted_at_last.Goals as goal

pub returns : goal.returns
returns g c = record { last = exhausted_last g.K.PartialEq.eq }
