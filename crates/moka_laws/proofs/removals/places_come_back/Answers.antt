use Rattle.moka_laws.proofs.Pending.{places_back}
use Rattle.moka_laws.proofs.removals.places_come_back.Goals as goal

pub returns : goal.returns
returns g c = record { back = places_back g.K.PartialEq.eq }
