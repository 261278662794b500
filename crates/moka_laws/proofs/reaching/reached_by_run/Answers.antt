use Rattle.moka_laws.proofs.Reached.{run_reached}
use Rattle.moka_laws.proofs.reaching.reached_by_run.Goals as goal

pub returns : goal.returns
returns g c = record { reached = run_reached g.K.PartialEq.eq }
