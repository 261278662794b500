use Rattle.moka_words.proofs.Effects.{effect_later}
use Rattle.moka_words.proofs.lasting.effect_is_later.Goals as goal

pub returns : goal.returns
returns c = record { later = effect_later }
