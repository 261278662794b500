use Rattle.moka_laws.proofs.Striking.{hidden_ahead}
use Rattle.moka_laws.proofs.predicates.hidden_are_ahead.Goals as goal

pub returns : goal.returns
returns g c = record { ahead = hidden_ahead g.K.PartialEq.eq g.met.K.Eq.laws }
