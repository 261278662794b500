use Rattle.moka_laws.proofs.Nops.{nops_same}
use Rattle.moka_laws.proofs.computes.nops_change_nothing.Goals as goal

pub returns : goal.returns
returns g c = record { same = nops_same g.K.PartialEq.eq }
