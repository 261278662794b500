use Rattle.moka_laws.proofs.Asked.{asks_are_live, running_are_heard}
use Rattle.moka_laws.proofs.listening.asks_are_live.Goals as goal

pub returns : goal.returns
returns g c = record {
  live = asks_are_live g.K.PartialEq.eq;
  heard = running_are_heard g.K.PartialEq.eq;
}
