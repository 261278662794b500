use Rattle.moka_history.proofs.Copying.{copy_there}
use Rattle.moka_history.proofs.keeping.copy_is_there.Goals as goal

pub returns : goal.returns
returns g c = record {
  there = λ eq hash s known segment array index from laid key call stands is_set.
      copy_there eq hash s known segment array index from laid key call stands is_set;
}
