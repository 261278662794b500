use Rattle.moka_history.proofs.Steps.{bringing_cell, bringing_entries, bringing_holds}
use Rattle.moka_history.proofs.keeping.cell_bringing_keeps.Goals as goal

pub returns : goal.returns
returns g c = record {
  keeps = λ eq hash place divided cells log holds ticket key at. (
    bringing_holds eq hash place divided log holds.1 cells holds.0 ticket key at,
    bringing_cell eq hash place divided log holds.1 cells holds.0 ticket key at,
    bringing_entries eq hash place divided log holds.1 cells holds.0 ticket key at,
  );
}
