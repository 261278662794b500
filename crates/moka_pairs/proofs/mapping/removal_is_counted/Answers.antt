use Rattle.moka_pairs.proofs.Mapped.{count_out}
use Rattle.moka_pairs.proofs.mapping.removal_is_counted.Goals as goal

pub returns : goal.returns
returns g c = record { counted = count_out }
