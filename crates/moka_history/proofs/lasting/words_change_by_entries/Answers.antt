use Rattle.moka_history.proofs.Fronts.{entry_between}
use Rattle.moka_history.proofs.lasting.words_change_by_entries.Goals as goal

pub returns : goal.returns
returns g c = record { change = λ eq hash place log front kept is i a index r differs. entry_between eq hash place log kept front is i a index r differs }
