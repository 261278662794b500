use Rattle.moka_laws.proofs.Ordering.{locks_held}
use Rattle.moka_laws.proofs.listening.locks_are_held.Goals as goal

pub returns : goal.returns
returns g c = record { held = locks_held g.K.PartialEq.eq g.met.K.Eq.laws }
