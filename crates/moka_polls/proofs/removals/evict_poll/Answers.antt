use Rattle.moka_polls.proofs.Evicting.{evicts}
use Rattle.moka_polls.proofs.removals.evict_poll.Goals as goal

pub returns : goal.returns
returns g c = record { answers = evicts g.K.PartialEq.eq }
