use Rattle.moka_pairs.proofs.Divided.{segment_are}
use Rattle.moka_pairs.proofs.dividing.segment_keys_are_keys.Goals as goal

pub returns : goal.returns
returns g c = record { keys = segment_are }
