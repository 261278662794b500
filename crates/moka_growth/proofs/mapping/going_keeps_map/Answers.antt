use Rattle.moka_growth.proofs.Stepping.{going_keeps_map}
use Rattle.moka_growth.proofs.mapping.going_keeps_map.Goals as goal

pub returns : goal.returns
returns c = record { keeps = going_keeps_map }
