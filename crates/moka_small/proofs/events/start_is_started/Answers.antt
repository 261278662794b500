use Rattle.moka_small.proofs.Happening.{start_tells}
use Rattle.moka_small.proofs.events.start_is_started.Goals as goal

pub returns : goal.returns
returns g c = record { started = start_tells g.K.PartialEq.eq }
