use Rattle.moka_words.proofs.Passing.{absent_new}
use Rattle.moka_words.proofs.lasting.absent_is_new.Goals as goal

pub returns : goal.returns
returns c = record { new = absent_new }
