use Rattle.moka_laws.proofs.WalksKeep.{lists_started}
use Rattle.moka_laws.proofs.walking.lists_are_started.Goals as goal

pub returns : goal.returns
returns g c = record { started = lists_started g.K.PartialEq.eq g.met.K.Eq.laws }
