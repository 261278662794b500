use Rattle.moka_laws.proofs.Accessed.{accesses_seen, in_time_accessed}
use Rattle.moka_laws.proofs.moments.accesses_are_seen.Goals as goal

pub returns : goal.returns
returns g c = record {
  between = in_time_accessed g.K.PartialEq.eq;
  seen = accesses_seen g.K.PartialEq.eq;
}
