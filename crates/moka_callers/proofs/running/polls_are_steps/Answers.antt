use Rattle.moka_callers.proofs.Runs.{polls}
use Rattle.moka_callers.proofs.running.polls_are_steps.Goals as goal

pub returns : goal.returns
returns g c = record { steps = polls g.K.PartialEq.eq }
