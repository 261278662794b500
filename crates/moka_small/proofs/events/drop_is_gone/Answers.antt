use Rattle.moka_small.proofs.Happening.{drop_tells}
use Rattle.moka_small.proofs.events.drop_is_gone.Goals as goal

pub returns : goal.returns
returns g c = record { gone = drop_tells g.K.PartialEq.eq }
