use Rattle.moka_laws.proofs.Since.{aborts_counted}
use Rattle.moka_laws.proofs.loads.aborts_are_counted.Goals as goal

pub returns : goal.returns
returns g c = record { counted = aborts_counted g.K.PartialEq.eq }
