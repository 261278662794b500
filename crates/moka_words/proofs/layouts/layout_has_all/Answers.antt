use Rattle.moka_words.proofs.Placing.{layout_has_all}
use Rattle.moka_words.proofs.layouts.layout_has_all.Goals as goal

pub returns : goal.returns
returns c = record { all = layout_has_all }
