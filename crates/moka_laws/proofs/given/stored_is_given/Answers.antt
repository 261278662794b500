use Rattle.moka_laws.proofs.OnlyGiven.{stored_given}
use Rattle.moka_laws.proofs.given.stored_is_given.Goals as goal

pub returns : goal.returns
returns g c = record { given = stored_given g.K.PartialEq.eq }
