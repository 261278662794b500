use Rattle.moka_laws.proofs.Ways.{logs_have_room}
use Rattle.moka_laws.proofs.bounded.logs_have_room.Goals as goal

pub returns : goal.returns
returns g c = record { room = logs_have_room g.K.PartialEq.eq }
