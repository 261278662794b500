use Rattle.moka_history.proofs.Rows.{rows_keep}
use Rattle.moka_history.proofs.changing.rows_keep_words.Goals as goal

pub returns : goal.returns
returns g c = record {
  keeps = λ s note placed is. rows_keep s note placed is;
}
