use Rattle.moka_laws.proofs.OwnedUntil.{owned_until}
use Rattle.moka_laws.proofs.computes.owned_until_settled.Goals as goal

pub returns : goal.returns
returns g c = record { owned = owned_until g.K.PartialEq.eq }
