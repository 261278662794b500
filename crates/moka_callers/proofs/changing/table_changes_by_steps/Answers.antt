use Rattle.moka_callers.proofs.Changed.{stays}
use Rattle.moka_callers.proofs.changing.table_changes_by_steps.Goals as goal

pub returns : goal.returns
returns g c = record { stays = stays g.K.PartialEq.eq }
