use Rattle.moka_same.proofs.Runs.{determined}
use Rattle.moka_same.proofs.determined.runs_are_determined.Goals as goal

pub returns : goal.returns
returns g c = record { same = determined g.K.PartialEq.eq g.met.K.Eq.laws }
