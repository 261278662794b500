use Rattle.moka_polls.proofs.Lasting.{seen_lasting, stored_seen}
use Rattle.moka_polls.proofs.times.seen_without_times.Goals as goal

pub returns : goal.returns
returns g c = record {
  seen = seen_lasting g.K.PartialEq.eq;
  stored = stored_seen g.K.PartialEq.eq;
}
