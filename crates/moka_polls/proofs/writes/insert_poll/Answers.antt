use Rattle.moka_polls.proofs.Inserting.{inserts}
use Rattle.moka_polls.proofs.writes.insert_poll.Goals as goal

pub returns : goal.returns
returns g c = record { done = inserts g.K.PartialEq.eq }
