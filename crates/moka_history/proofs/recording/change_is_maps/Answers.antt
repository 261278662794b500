use Rattle.moka_history.proofs.Maps.{change_is}
use Rattle.moka_history.proofs.recording.change_is_maps.Goals as goal

pub returns : goal.returns
returns g c = record { change = change_is }
