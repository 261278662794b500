use Rattle.moka_words.proofs.Placing.{layout_is_filled}
use Rattle.moka_words.proofs.layouts.layout_is_filled.Goals as goal

pub returns : goal.returns
returns c = record { filled = layout_is_filled }
