use Rattle.moka_laws.proofs.WalksGive.{looks_apart}
use Rattle.moka_laws.proofs.walking.looks_are_apart.Goals as goal

pub returns : goal.returns
returns g c = record { apart = looks_apart g.K.PartialEq.eq g.met.K.Eq.laws }
