use Rattle.moka_laws.proofs.OwnedUntil.{one_acts}
use Rattle.moka_laws.proofs.computes.one_compute_acts.Goals as goal

pub returns : goal.returns
returns g c = record { one = one_acts g.K.PartialEq.eq g.met.K.Eq.laws }
