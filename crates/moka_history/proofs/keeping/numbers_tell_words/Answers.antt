use Rattle.moka_history.proofs.Numbers.{numbers_tell}
use Rattle.moka_history.proofs.keeping.numbers_tell_words.Goals as goal

pub returns : goal.returns
returns c = record { tell = numbers_tell }
