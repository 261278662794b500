use Rattle.moka_laws.proofs.Hearing.{waiters_hear}
use Rattle.moka_laws.proofs.readers.waiters_answer_settled.Goals as goal

pub returns : goal.returns
returns g c = record { answers = waiters_hear g.K.PartialEq.eq }
