use Rattle.moka_history.proofs.Fronts.{full_put}
use Rattle.moka_history.proofs.lasting.full_array_was_put.Goals as goal

pub returns : goal.returns
returns g c = record { puts = λ eq hash place log kept i a r full. full_put eq hash place log kept i a r full }
