use Rattle.moka_laws.proofs.Moved.{moved_poll}
use Rattle.moka_laws.proofs.moving.polled_is_poll.Goals as goal

pub returns : goal.returns
returns g c = record { poll = moved_poll g.K.PartialEq.eq }
