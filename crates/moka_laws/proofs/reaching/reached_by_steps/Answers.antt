use Rattle.moka_hist.specs.Run.{Any}
use Rattle.moka_laws.proofs.Reached.{steps_reached}
use Rattle.moka_laws.proofs.reaching.reached_by_steps.Goals as goal

pub returns : goal.returns
returns g c = record { reached = steps_reached g.K.PartialEq.eq (λ s. Any s) }
