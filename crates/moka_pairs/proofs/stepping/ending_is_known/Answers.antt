use Rattle.moka_pairs.proofs.Steps.{ends_after}
use Rattle.moka_pairs.proofs.stepping.ending_is_known.Goals as goal

pub returns : goal.returns
returns g c = record { ends = ends_after }
