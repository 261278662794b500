use Rattle.moka_laws.proofs.Ordering.{in_order}
use Rattle.moka_laws.proofs.listening.notices_are_in_order.Goals as goal

pub returns : goal.returns
returns g c = record { ordered = in_order g.K.PartialEq.eq g.met.K.Eq.laws }
