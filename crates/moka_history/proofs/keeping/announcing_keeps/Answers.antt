use Rattle.moka_history.proofs.Stepping.{announcing_holds}
use Rattle.moka_history.proofs.keeping.announcing_keeps.Goals as goal

pub returns : goal.returns
returns g c = record {
  keeps = λ eq hash place divided cells log holds ticket pair is small. announcing_holds eq hash place divided log holds.1 cells holds.0 ticket pair is small;
}
