use Rattle.moka_laws.proofs.Looking.{inserts_show, loads_show, owners_show}
use Rattle.moka_laws.proofs.looks.loads_by_time.Goals as goal

pub returns : goal.returns
returns g c = record {
  shows = loads_show g.K.PartialEq.eq;
  inserts = inserts_show g.K.PartialEq.eq;
  owners = owners_show g.K.PartialEq.eq;
}
