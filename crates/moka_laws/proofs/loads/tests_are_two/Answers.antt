use Rattle.moka_laws.proofs.Since.{tests_two}
use Rattle.moka_laws.proofs.loads.tests_are_two.Goals as goal

pub returns : goal.returns
returns g c = record { two = tests_two g.K.PartialEq.eq }
