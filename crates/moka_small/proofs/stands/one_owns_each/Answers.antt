use Rattle.moka_small.proofs.Serving.{owns_alone}
use Rattle.moka_small.proofs.stands.one_owns_each.Goals as goal

pub returns : goal.returns
returns g c = record { one = owns_alone g.K.PartialEq.eq g.met.K.Eq.laws }
