use Rattle.moka_words.proofs.Laying.{layout_is_array}
use Rattle.moka_words.proofs.layouts.layout_is_array.Goals as goal

pub returns : goal.returns
returns c = record { array = layout_is_array }
