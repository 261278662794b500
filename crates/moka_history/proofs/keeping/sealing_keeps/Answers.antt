use Rattle.moka_history.proofs.Steps.{sealing_entries, sealing_holds}
use Rattle.moka_history.proofs.keeping.sealing_keeps.Goals as goal

pub returns : goal.returns
returns g c = record {
  keeps = λ eq hash place divided cells log holds segment array index word x. (
    sealing_holds eq hash place divided log holds.1 cells holds.0 segment array index word x,
    sealing_entries eq hash place divided log holds.1 cells holds.0 segment array index word x,
  );
}
