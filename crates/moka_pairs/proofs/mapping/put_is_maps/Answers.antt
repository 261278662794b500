use Rattle.moka_pairs.proofs.Mapped.{map_after}
use Rattle.moka_pairs.proofs.mapping.put_is_maps.Goals as goal

pub returns : goal.returns
returns g c = record { put = map_after }
