use Rattle.moka_laws.proofs.Computed.{asks_found}
use Rattle.moka_laws.proofs.computes.asks_carry_found.Goals as goal

pub returns : goal.returns
returns g c = record { found = asks_found g.K.PartialEq.eq }
