use Rattle.moka_laws.proofs.Removing.{remove_taken}
use Rattle.moka_laws.proofs.removals.remove_answers_taken.Goals as goal

pub returns : goal.returns
returns g c = record { taken = remove_taken g.K.PartialEq.eq g.met.K.Eq.laws }
