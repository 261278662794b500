use Rattle.moka_callers.proofs.Kept.{unless_undecided}
use Rattle.moka_callers.proofs.missing.kept_unless_undecided.Goals as goal

pub returns : goal.returns
returns g c = record { kept = unless_undecided g.K.PartialEq.eq }
