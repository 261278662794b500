use Rattle.moka_laws.proofs.Off.{off_was_told}
use Rattle.moka_laws.proofs.listening.off_was_told.Goals as goal

pub returns : goal.returns
returns g c = record { told = off_was_told g.K.PartialEq.eq }
