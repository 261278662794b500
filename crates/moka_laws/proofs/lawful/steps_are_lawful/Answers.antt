use Rattle.moka_laws.proofs.Lawfully.{steps_are_lawful}
use Rattle.moka_laws.proofs.lawful.steps_are_lawful.Goals as goal

pub returns : goal.returns
returns g c = record { lawful = steps_are_lawful g.K.PartialEq.eq g.met.K.Eq.laws }
