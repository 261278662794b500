use Rattle.moka_laws.proofs.Bounds.{step_events_bounded}
use Rattle.moka_laws.proofs.bounded.step_events_are_bounded.Goals as goal

pub returns : goal.returns
returns g c = record { bounded = step_events_bounded g.K.PartialEq.eq g.met.K.Eq.laws }
