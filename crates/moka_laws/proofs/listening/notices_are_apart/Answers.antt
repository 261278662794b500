use Rattle.moka_laws.proofs.Ordering.{notices_apart}
use Rattle.moka_laws.proofs.listening.notices_are_apart.Goals as goal

pub returns : goal.returns
returns g c = record { apart = notices_apart g.K.PartialEq.eq g.met.K.Eq.laws }
