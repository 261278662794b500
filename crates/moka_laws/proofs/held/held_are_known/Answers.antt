use Rattle.moka_laws.proofs.Holding.{held_known}
use Rattle.moka_laws.proofs.held.held_are_known.Goals as goal

pub returns : goal.returns
returns g c = record { known = held_known g.K.PartialEq.eq }
