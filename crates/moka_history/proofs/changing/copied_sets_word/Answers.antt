use Rattle.moka_history.proofs.Cells.{copied_sets}
use Rattle.moka_history.proofs.changing.copied_sets_word.Goals as goal

pub returns : goal.returns
returns g c = record {
  sets = λ s array index to note placed is within segment. copied_sets _ s placed array index to within note is segment;
}
