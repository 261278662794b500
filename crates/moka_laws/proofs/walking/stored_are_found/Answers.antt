use Rattle.moka_laws.proofs.WalksKeep.{stored_found}
use Rattle.moka_laws.proofs.walking.stored_are_found.Goals as goal

pub returns : goal.returns
returns g c = record { found = stored_found g.K.PartialEq.eq g.met.K.Eq.laws }
