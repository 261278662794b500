use Rattle.moka_words.proofs.Exchanges.{exchange_keeps_array}
use Rattle.moka_words.proofs.exchanging.exchange_keeps_array.Goals as goal

pub returns : goal.returns
returns c = record { keeps = exchange_keeps_array }
