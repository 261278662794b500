use Rattle.moka_laws.proofs.Lawfully.{event_is_lawful}
use Rattle.moka_laws.proofs.lawful.event_is_lawful.Goals as goal

pub returns : goal.returns
returns g c = record { lawful = event_is_lawful g.K.PartialEq.eq g.met.K.Eq.laws }
