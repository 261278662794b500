use Rattle.moka_laws.proofs.Reached.{fresh_reached}
use Rattle.moka_laws.proofs.reaching.fresh_is_reached.Goals as goal

pub returns : goal.returns
returns g c = record { reached = fresh_reached g.K.PartialEq.eq }
