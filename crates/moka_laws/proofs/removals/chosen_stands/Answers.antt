use Rattle.moka_laws.proofs.Standing.{chosen_stands}
use Rattle.moka_laws.proofs.removals.chosen_stands.Goals as goal

pub returns : goal.returns
returns g c = record { stands = chosen_stands g.K.PartialEq.eq g.met.K.Eq.laws }
