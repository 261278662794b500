use Rattle.moka_pairs.proofs.Grown.{map_grown}
use Rattle.moka_pairs.proofs.growing.grown_is_maps.Goals as goal

pub returns : goal.returns
returns g c = record { grown = map_grown }
