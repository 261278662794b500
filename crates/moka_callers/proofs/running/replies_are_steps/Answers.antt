use Rattle.moka_callers.proofs.Runs.{steps}
use Rattle.moka_callers.proofs.running.replies_are_steps.Goals as goal

pub returns : goal.returns
returns g c = record { step = steps g.K.PartialEq.eq }
