use Rattle.moka_callers.proofs.Listed.{stand_as_opened}
use Rattle.moka_callers.proofs.listening.notices_stand_as_opened.Goals as goal

pub returns : goal.returns
returns g c = record { listed = stand_as_opened g.K.PartialEq.eq }
