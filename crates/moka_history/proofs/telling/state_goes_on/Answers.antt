use Rattle.moka_history.specs.States.{unopened}
use Rattle.moka_history.proofs.Folds.{state_more}
use Rattle.moka_history.proofs.telling.state_goes_on.Goals as goal

pub returns : goal.returns
returns g c = record { state = state_more unopened }
