use Rattle.moka_polls.proofs.Removing.{invalidates}
use Rattle.moka_polls.proofs.removals.invalidate_poll.Goals as goal

pub returns : goal.returns
returns g c = record { done = invalidates g.K.PartialEq.eq }
