use Rattle.moka_laws.proofs.OwnersOwn.{computes_one}
use Rattle.moka_laws.proofs.computes.computes_are_one.Goals as goal

pub returns : goal.returns
returns g c = record { one = computes_one g.K.PartialEq.eq g.met.K.Eq.laws }
