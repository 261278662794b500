use Rattle.moka_pairs.proofs.Divided.{segment_grows}
use Rattle.moka_pairs.proofs.dividing.segment_keys_grow.Goals as goal

pub returns : goal.returns
returns g c = record { grow = segment_grows }
