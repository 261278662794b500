use Rattle.moka_history.specs.States.{unopened}
use Rattle.moka_history.proofs.Folds.{entries_more}
use Rattle.moka_history.proofs.telling.entries_go_on.Goals as goal

pub returns : goal.returns
returns g c = record { entries = entries_more unopened }
