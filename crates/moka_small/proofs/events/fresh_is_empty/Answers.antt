use Rattle.moka_small.proofs.Happening.{fresh_empty}
use Rattle.moka_small.proofs.events.fresh_is_empty.Goals as goal

pub returns : goal.returns
returns g c = record { fresh = fresh_empty g.K.PartialEq.eq }
