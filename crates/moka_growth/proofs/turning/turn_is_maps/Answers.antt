use Rattle.moka_growth.proofs.Turned.{turn_is_maps}
use Rattle.moka_growth.proofs.turning.turn_is_maps.Goals as goal

pub returns : goal.returns
returns c = record { maps = turn_is_maps }
