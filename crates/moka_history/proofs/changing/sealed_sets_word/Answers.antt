use Rattle.moka_history.proofs.Cells.{sealed_sets}
use Rattle.moka_history.proofs.changing.sealed_sets_word.Goals as goal

pub returns : goal.returns
returns g c = record {
  sets = λ s array index to note placed is within segment. sealed_sets _ s placed array index to within note is segment;
}
