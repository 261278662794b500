use Rattle.moka_polls.proofs.Hiding.{hides_all}
use Rattle.moka_polls.proofs.removals.invalidate_all_poll.Goals as goal

pub returns : goal.returns
returns g c = record { done = hides_all g.K.PartialEq.eq }
