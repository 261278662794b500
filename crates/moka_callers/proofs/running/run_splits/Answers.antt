use Rattle.moka_callers.proofs.Runs.{splits}
use Rattle.moka_callers.proofs.running.run_splits.Goals as goal

pub returns : goal.returns
returns g c = record { splits = splits g.K.PartialEq.eq }
