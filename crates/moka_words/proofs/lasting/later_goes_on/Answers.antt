use Rattle.moka_words.proofs.Lasts.{words_later}
use Rattle.moka_words.proofs.lasting.later_goes_on.Goals as goal

pub returns : goal.returns
returns c = record { later = λ hash same old mid new names. words_later same names old mid new }
