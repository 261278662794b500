use Rattle.moka_callers.proofs.Missed.{found_none}
use Rattle.moka_callers.proofs.missing.removes_found_none.Goals as goal

pub returns : goal.returns
returns g c = record { seen = found_none g.K.PartialEq.eq }
