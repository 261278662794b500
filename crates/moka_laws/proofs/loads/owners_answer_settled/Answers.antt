use Rattle.moka_laws.proofs.Sources.{owners_answer}
use Rattle.moka_laws.proofs.loads.owners_answer_settled.Goals as goal

pub returns : goal.returns
returns g c = record { answers = owners_answer g.K.PartialEq.eq }
