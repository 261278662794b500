use Rattle.moka_callers.proofs.Stored.{of_calls}
use Rattle.moka_callers.proofs.contents.records_are_of_calls.Goals as goal

pub returns : goal.returns
returns g c = record { made = of_calls g.K.PartialEq.eq }
