use Rattle.moka_history.proofs.Fronts.{kept_too, opened_too}
use Rattle.moka_history.proofs.lasting.front_is_kept.Goals as goal

pub returns : goal.returns
returns g c = record { kept = λ eq hash place log front kept is. (kept_too eq hash place log kept front is, opened_too eq hash place log kept front is) }
