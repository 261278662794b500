use Rattle.moka_laws.proofs.Parting.{answered_posted}
use Rattle.moka_laws.proofs.answered.answered_is_posted.Goals as goal

pub returns : goal.returns
returns g c = record { posted = answered_posted g.K.PartialEq.eq }
