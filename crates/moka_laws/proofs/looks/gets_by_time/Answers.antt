use Rattle.moka_laws.proofs.Looking.{gets_miss, gets_show}
use Rattle.moka_laws.proofs.looks.gets_by_time.Goals as goal

pub returns : goal.returns
returns g c = record {
  shows = gets_show g.K.PartialEq.eq;
  misses = gets_miss g.K.PartialEq.eq;
}
