use Rattle.moka_polls.proofs.OrInserting.{or_insert_hits, or_insert_stores}
use Rattle.moka_polls.proofs.writes.or_insert_poll.Goals as goal

pub returns : goal.returns
returns g c = record {
  hits = or_insert_hits g.K.PartialEq.eq;
  stores = or_insert_stores g.K.PartialEq.eq;
}
