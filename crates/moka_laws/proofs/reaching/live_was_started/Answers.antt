use Rattle.moka_laws.proofs.Begun.{live_started}
use Rattle.moka_laws.proofs.reaching.live_was_started.Goals as goal

pub returns : goal.returns
returns g c = record { started = live_started g.K.PartialEq.eq }
