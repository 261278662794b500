use Rattle.moka_laws.proofs.Removing.{removals_answer}
use Rattle.moka_laws.proofs.removals.removals_answer.Goals as goal

pub returns : goal.returns
returns g c = record { answers = removals_answer g.K.PartialEq.eq g.met.K.Eq.laws }
