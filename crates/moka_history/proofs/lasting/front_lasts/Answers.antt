use Rattle.moka_history.proofs.Folds.{entries_begin}
use Rattle.moka_history.proofs.Fronts.{lasts_now}
use Rattle.moka_history.proofs.lasting.front_lasts.Goals as goal

pub returns : goal.returns
returns g c = record { lasts = λ eq hash place log front kept is. (entries_begin front log is.begins, lasts_now eq hash place log kept front is) }
