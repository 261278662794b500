use Rattle.moka_pairs.proofs.Mapped.{map_found}
use Rattle.moka_pairs.proofs.mapping.found_is_maps.Goals as goal

pub returns : goal.returns
returns g c = record { found = map_found }
