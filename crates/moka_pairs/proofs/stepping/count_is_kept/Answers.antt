use Rattle.moka_pairs.proofs.Steps.{counted_after}
use Rattle.moka_pairs.proofs.stepping.count_is_kept.Goals as goal

pub returns : goal.returns
returns g c = record { counted = counted_after }
