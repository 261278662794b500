use Rattle.moka_history.proofs.Steps.{adding_cell, adding_entries, adding_holds}
use Rattle.moka_history.proofs.keeping.cell_adding_keeps.Goals as goal

pub returns : goal.returns
returns g c = record {
  keeps = λ eq hash place divided cells log holds ticket has. (
    adding_holds eq hash place divided log holds.1 cells holds.0 ticket has,
    adding_cell eq hash place divided log holds.1 cells holds.0 ticket has,
    adding_entries eq hash place divided log holds.1 cells holds.0 ticket has,
  );
}
