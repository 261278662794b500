use Rattle.moka_pairs.proofs.Mapped.{map_kept}
use Rattle.moka_pairs.proofs.mapping.kept_map_stays.Goals as goal

pub returns : goal.returns
returns g c = record { stays = map_kept }
