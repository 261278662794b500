use Rattle.moka_pairs.proofs.Mapped.{map_out}
use Rattle.moka_pairs.proofs.mapping.removal_is_maps.Goals as goal

pub returns : goal.returns
returns g c = record { removed = map_out }
