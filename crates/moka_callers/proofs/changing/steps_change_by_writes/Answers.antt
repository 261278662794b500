use Rattle.moka_callers.proofs.Changed.{by_writes}
use Rattle.moka_callers.proofs.changing.steps_change_by_writes.Goals as goal

pub returns : goal.returns
returns g c = record { changes = by_writes g.K.PartialEq.eq }
