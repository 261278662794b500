use Rattle.moka_callers.proofs.Answering.{answer_stored}
use Rattle.moka_callers.proofs.reading.gets_answer_stored.Goals as goal

pub returns : goal.returns
returns g c = record { answers = answer_stored g.K.PartialEq.eq }
