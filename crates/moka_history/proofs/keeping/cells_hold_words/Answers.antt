use Rattle.moka_history.proofs.Fronts.{cells_now}
use Rattle.moka_history.proofs.keeping.cells_hold_words.Goals as goal

pub returns : goal.returns
returns g c = record { hold = λ eq hash place cells log holds. cells_now eq hash place log holds.1 cells holds.0 }
