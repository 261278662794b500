use Rattle.moka_laws.proofs.Computed.{answers_told}
use Rattle.moka_laws.proofs.computes.computes_answer_told.Goals as goal

pub returns : goal.returns
returns g c = record { answers = answers_told g.K.PartialEq.eq }
