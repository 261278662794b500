use Rattle.moka_calls.proofs.Taking.{taken_is_maps}
use Rattle.moka_calls.proofs.seeing.taken_is_maps.Goals as goal

pub returns : goal.returns
returns c = record { maps = taken_is_maps }
