use Rattle.moka_callers.proofs.Asked.{asks_first}
use Rattle.moka_callers.proofs.computing.asks_come_first.Goals as goal

pub returns : goal.returns
returns g c = record { first = asks_first g.K.PartialEq.eq }
