use Rattle.moka_laws.proofs.Stamps.{stamps_one}
use Rattle.moka_laws.proofs.removals.stamps_are_one.Goals as goal

pub returns : goal.returns
returns g c = record { one = stamps_one g.K.PartialEq.eq g.met.K.Eq.laws }
