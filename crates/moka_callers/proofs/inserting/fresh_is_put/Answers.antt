use Rattle.moka_callers.proofs.Fresh.{fresh_put}
use Rattle.moka_callers.proofs.inserting.fresh_is_put.Goals as goal

pub returns : goal.returns
returns g c = record { put = fresh_put g.K.PartialEq.eq }
