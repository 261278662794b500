use Rattle.moka_callers.proofs.Asked.{nops_leave}
use Rattle.moka_callers.proofs.computing.nops_leave_all.Goals as goal

pub returns : goal.returns
returns g c = record { leaves = nops_leave g.K.PartialEq.eq }
