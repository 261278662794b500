use Rattle.moka_history.proofs.Cells.{changed_sets}
use Rattle.moka_history.proofs.changing.changed_sets_word.Goals as goal

pub returns : goal.returns
returns g c = record { sets = λ s ticket array index to note placed is within segment. changed_sets _ s placed ticket array index to within note is segment }
