use Rattle.moka_callers.proofs.Lasting.{until_over}
use Rattle.moka_callers.proofs.computing.owned_until_over.Goals as goal

pub returns : goal.returns
returns g c = record { owned = until_over g.K.PartialEq.eq }
