use Rattle.moka_laws.proofs.WalksFind.{items_found}
use Rattle.moka_laws.proofs.walking.items_are_found.Goals as goal

pub returns : goal.returns
returns g c = record { found = items_found g.K.PartialEq.eq g.met.K.Eq.laws }
