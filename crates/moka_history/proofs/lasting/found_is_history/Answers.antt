use Rattle.moka_history.proofs.Fronts.{found_now}
use Rattle.moka_history.proofs.lasting.found_is_history.Goals as goal

pub returns : goal.returns
returns g c = record { found = λ eq hash place divided log kept key found below finds. found_now eq hash place log kept divided key found below finds }
