use Rattle.moka_polls.proofs.Removing.{removes}
use Rattle.moka_polls.proofs.removals.remove_poll.Goals as goal

pub returns : goal.returns
returns g c = record { answers = removes g.K.PartialEq.eq }
