use Rattle.moka_callers.proofs.Promised.{quiet_nothing}
use Rattle.moka_callers.proofs.contents.quiet_commit_nothing.Goals as goal

pub returns : goal.returns
returns g c = record { nothing = quiet_nothing g.K.PartialEq.eq }
