use Rattle.moka_laws.proofs.Leaving.{removals_name_old, upserts_name_old}
use Rattle.moka_laws.proofs.held.writes_name_old.Goals as goal

pub returns : goal.returns
returns g c = record {
  upsert = upserts_name_old g.K.PartialEq.eq;
  remove = removals_name_old g.K.PartialEq.eq;
}
