use Rattle.moka_laws.proofs.Asks.{asks_one}
use Rattle.moka_laws.proofs.listening.asks_are_one.Goals as goal

pub returns : goal.returns
returns g c = record { one = asks_one g.K.PartialEq.eq }
