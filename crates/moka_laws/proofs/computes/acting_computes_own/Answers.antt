use Rattle.moka_laws.proofs.Computed.{acting_own}
use Rattle.moka_laws.proofs.computes.acting_computes_own.Goals as goal

pub returns : goal.returns
returns g c = record { own = acting_own g.K.PartialEq.eq }
