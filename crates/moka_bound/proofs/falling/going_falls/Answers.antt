use Rattle.moka_bound.proofs.Falls.{going_falls}
use Rattle.moka_bound.proofs.falling.going_falls.Goals as goal

pub returns : goal.returns
returns g c = record { falls = going_falls g.K.PartialEq.eq }
