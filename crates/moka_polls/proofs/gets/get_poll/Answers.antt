use Rattle.moka_polls.proofs.Getting.{gets}
use Rattle.moka_polls.proofs.gets.get_poll.Goals as goal

pub returns : goal.returns
returns g c = record { answers = gets g.K.PartialEq.eq }
