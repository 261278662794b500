-- Writes are made in their order, so the last one of a key is the one that shows.
use Rattle.moka_keepers.proofs.Truths.{after-last}
use Rattle.moka_behind.proofs.laws.truth_is_of_the_last_write.Goals as goal

pub returns : goal.returns
returns c = λ truth key. after-last truth.start truth.writes key
