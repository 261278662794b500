use Rattle.moka_history.proofs.Steps.{swinging_effect, swinging_entries, swinging_holds}
use Rattle.moka_history.proofs.keeping.swinging_keeps.Goals as goal

pub returns : goal.returns
returns g c = record {
  keeps = λ eq hash place divided cells log holds segment from to key call x root there. (
    swinging_holds eq hash place divided log holds.1 cells holds.0 segment from to key call x root there,
    swinging_effect eq hash place divided log holds.1 cells holds.0 segment from to key call x root there,
    swinging_entries eq hash place divided log holds.1 cells holds.0 segment from to key call x root there,
  );
}
