use Rattle.moka_laws.proofs.AnswersFit.{answers_fit}
use Rattle.moka_laws.proofs.loads.answers_fit.Goals as goal

pub returns : goal.returns
returns g c = record { fits = answers_fit g.K.PartialEq.eq }
