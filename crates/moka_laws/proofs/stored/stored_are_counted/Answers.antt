use Rattle.moka_laws.proofs.Counted.{stored_counted}
use Rattle.moka_laws.proofs.stored.stored_are_counted.Goals as goal

pub returns : goal.returns
returns g c = record { counted = stored_counted g.K.PartialEq.eq g.met.K.Eq.laws }
