use Rattle.moka_laws.proofs.Answering.{live_go_on}
use Rattle.moka_laws.proofs.waiting.live_calls_go_on.Goals as goal

pub returns : goal.returns
returns g c = record { goes_on = live_go_on g.K.PartialEq.eq }
