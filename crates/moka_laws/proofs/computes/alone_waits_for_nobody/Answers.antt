use Rattle.moka_laws.proofs.Computed.{alone_waits}
use Rattle.moka_laws.proofs.computes.alone_waits_for_nobody.Goals as goal

pub returns : goal.returns
returns g c = record { waits = alone_waits g.K.PartialEq.eq }
