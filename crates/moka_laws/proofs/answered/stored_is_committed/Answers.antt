use Rattle.moka_laws.proofs.Storing.{stored_committed}
use Rattle.moka_laws.proofs.answered.stored_is_committed.Goals as goal

pub returns : goal.returns
returns g c = record { committed = stored_committed g.K.PartialEq.eq }
