use Rattle.moka_laws.proofs.Removing.{evicted_out}
use Rattle.moka_laws.proofs.removals.evicted_is_out.Goals as goal

pub returns : goal.returns
returns g c = record { out = evicted_out g.K.PartialEq.eq g.met.K.Eq.laws }
