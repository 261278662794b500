use Rattle.moka_callers.proofs.Runs.{joined}
use Rattle.moka_callers.proofs.running.runs_join.Goals as goal

pub returns : goal.returns
returns g c = record { joined = joined g.K.PartialEq.eq }
