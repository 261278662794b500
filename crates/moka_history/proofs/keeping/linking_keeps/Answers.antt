use Rattle.moka_history.proofs.Steps.{linking_effect, linking_entries, linking_holds}
use Rattle.moka_history.proofs.keeping.linking_keeps.Goals as goal

pub returns : goal.returns
returns g c = record {
  keeps = λ eq hash place divided cells log holds segment before size nodes key call x own ticket next keys behind r length_is. (
    linking_holds eq hash place divided log holds.1 cells holds.0 segment before size nodes key call x own ticket next keys behind r length_is,
    linking_effect eq hash place divided log holds.1 cells holds.0 segment before size nodes key call x own ticket next keys behind r length_is,
    linking_entries eq hash place divided log holds.1 cells holds.0 segment before size nodes key call x own ticket next keys behind r length_is,
  );
}
