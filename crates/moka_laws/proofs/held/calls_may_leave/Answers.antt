use Rattle.moka_laws.proofs.Holding.{all_leave}
use Rattle.moka_laws.proofs.held.calls_may_leave.Goals as goal

pub returns : goal.returns
returns g c = record { leaves = all_leave g.K.PartialEq.eq }
