use Rattle.moka_polls.proofs.Loading.{load_hits, load_asks, load_waits}
use Rattle.moka_polls.proofs.loads.loads_poll.Goals as goal

pub returns : goal.returns
returns g c = record {
  hits = load_hits g.K.PartialEq.eq;
  asks = load_asks g.K.PartialEq.eq;
  waits = load_waits g.K.PartialEq.eq;
}
