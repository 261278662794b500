use Rattle.moka_laws.proofs.Computed.{nops_asked}
use Rattle.moka_laws.proofs.computes.nops_answer_asked.Goals as goal

pub returns : goal.returns
returns g c = record { asked = nops_asked g.K.PartialEq.eq }
