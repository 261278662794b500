use Rattle.moka_laws.proofs.WalksGive.{items_walk}
use Rattle.moka_laws.proofs.walking.items_are_walks.Goals as goal

pub returns : goal.returns
returns g c = record { walks = items_walk g.K.PartialEq.eq }
