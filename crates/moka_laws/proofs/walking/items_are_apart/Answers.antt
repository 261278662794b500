use Rattle.moka_laws.proofs.WalksGive.{items_apart}
use Rattle.moka_laws.proofs.walking.items_are_apart.Goals as goal

pub returns : goal.returns
returns g c = record { apart = items_apart g.K.PartialEq.eq g.met.K.Eq.laws }
