use Rattle.moka_pairs.proofs.Mapped.{count_after}
use Rattle.moka_pairs.proofs.mapping.put_is_counted.Goals as goal

pub returns : goal.returns
returns g c = record { counted = count_after }
