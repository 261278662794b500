use Rattle.moka_words.proofs.Probes.{comes_to_each}
use Rattle.moka_words.proofs.probing.probe_comes_to_each.Goals as goal

pub returns : goal.returns
returns c = record { comes = comes_to_each }
