use Rattle.moka_growth.proofs.Stepping.{ending_is_maps}
use Rattle.moka_growth.proofs.mapping.ending_is_maps.Goals as goal

pub returns : goal.returns
returns c = record { ends = ending_is_maps }
