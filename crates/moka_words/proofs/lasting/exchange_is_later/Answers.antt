use Rattle.moka_words.proofs.Lasts.{set_later}
use Rattle.moka_words.proofs.lasting.exchange_is_later.Goals as goal

pub returns : goal.returns
returns c = record { later = λ hash same words i w names. set_later same names words i w }
