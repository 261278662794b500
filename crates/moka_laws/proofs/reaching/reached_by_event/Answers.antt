use Rattle.moka_laws.proofs.Reached.{event_reached}
use Rattle.moka_laws.proofs.reaching.reached_by_event.Goals as goal

pub returns : goal.returns
returns g c = record { reached = event_reached g.K.PartialEq.eq }
