use Rattle.moka_laws.proofs.Lawfully.{lawfully}
use Rattle.moka_laws.proofs.lawful.reached_is_lawful.Goals as goal

pub returns : goal.returns
returns g c = record { lawful = lawfully g.K.PartialEq.eq g.met.K.Eq.laws }
