use Rattle.moka_callers.proofs.Promised.{gets_nothing}
use Rattle.moka_callers.proofs.contents.gets_commit_nothing.Goals as goal

pub returns : goal.returns
returns g c = record { nothing = gets_nothing g.K.PartialEq.eq }
