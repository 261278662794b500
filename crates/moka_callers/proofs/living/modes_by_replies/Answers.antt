use Rattle.moka_callers.proofs.Turning.{modes_so}
use Rattle.moka_callers.proofs.living.modes_by_replies.Goals as goal

pub returns : goal.returns
returns g c = record { modes = modes_so g.K.PartialEq.eq }
