use Rattle.moka_laws.proofs.Ordering.{locks_one}
use Rattle.moka_laws.proofs.listening.locks_are_one.Goals as goal

pub returns : goal.returns
returns g c = record { one = locks_one g.K.PartialEq.eq g.met.K.Eq.laws }
