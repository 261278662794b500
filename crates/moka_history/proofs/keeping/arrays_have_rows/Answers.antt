use Rattle.moka_history.proofs.Fronts.{length_now, row_now}
use Rattle.moka_history.proofs.keeping.arrays_have_rows.Goals as goal

pub returns : goal.returns
returns g c = record {
  rows = λ eq hash place log kept i below. (λ index inside. row_now eq hash place log kept i below index inside, length_now eq hash place log kept i below);
}
