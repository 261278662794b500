use Rattle.moka_history.proofs.Cells.{announced_keeps}
use Rattle.moka_history.proofs.changing.announced_keeps_words.Goals as goal

pub returns : goal.returns
returns g c = record { keeps = λ s ticket pair note placed is. announced_keeps _ s placed ticket pair note is }
