use Rattle.moka_laws.proofs.Apart.{waits_apart}
use Rattle.moka_laws.proofs.computes.waits_are_apart.Goals as goal

pub returns : goal.returns
returns g c = record { apart = waits_apart g.K.PartialEq.eq }
