use Rattle.moka_pairs.proofs.Mapped.{present_pair}
use Rattle.moka_pairs.proofs.mapping.present_has_pair.Goals as goal

pub returns : goal.returns
returns g c = record { pair = present_pair }
