use Rattle.moka_history.proofs.Steps.{announcing_cell, announcing_entries, announcing_holds, announcing_plan}
use Rattle.moka_history.proofs.keeping.array_announcing_keeps.Goals as goal

pub returns : goal.returns
returns g c = record {
  keeps = λ eq hash place divided cells log holds ticket segment size grown is small low_number. (
    announcing_holds eq hash place divided log holds.1 cells holds.0 ticket segment size grown is small low_number,
    announcing_cell eq hash place divided log holds.1 cells holds.0 ticket segment size grown is small low_number,
    announcing_plan eq hash place divided log holds.1 cells holds.0 ticket segment size grown is small low_number,
    announcing_entries eq hash place divided log holds.1 cells holds.0 ticket segment size grown is small low_number,
  );
}
