use Rattle.moka_callers.proofs.Listed.{are_locked}
use Rattle.moka_callers.proofs.listening.notices_are_locked.Goals as goal

pub returns : goal.returns
returns g c = record { locked = are_locked g.K.PartialEq.eq }
