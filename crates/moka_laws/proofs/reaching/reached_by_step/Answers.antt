use Rattle.moka_laws.proofs.Reached.{step_reached}
use Rattle.moka_laws.proofs.reaching.reached_by_step.Goals as goal

pub returns : goal.returns
returns g c = record { reached = step_reached g.K.PartialEq.eq }
