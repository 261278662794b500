use Rattle.moka_words.proofs.Probes.{first_free_reached}
use Rattle.moka_words.proofs.probing.first_free_is_reached.Goals as goal

pub returns : goal.returns
returns c = record { reached = first_free_reached }
