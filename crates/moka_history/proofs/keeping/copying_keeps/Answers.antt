use Rattle.moka_history.proofs.Steps.{copying_effect, copying_entries, copying_holds}
use Rattle.moka_history.proofs.keeping.copying_keeps.Goals as goal

pub returns : goal.returns
returns g c = record {
  keeps = λ eq hash place divided cells log holds segment array index from laid key call x unset. (
    copying_holds eq hash place divided log holds.1 cells holds.0 segment array index from laid key call x unset,
    copying_effect eq hash place divided log holds.1 cells holds.0 segment array index from laid key call x unset,
    copying_entries eq hash place divided log holds.1 cells holds.0 segment array index from laid key call x unset,
  );
}
