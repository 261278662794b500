-- What the desk tests it allows.
use Rattle.moka_kept.proofs.Wanting.{on_true}
use Rattle.moka_kept.proofs.reaching.may_visit.Goals as goal

pub returns-then-needs_answer-takes-clause-may : goal.returns-then-needs_answer-takes-clause-may
returns-then-needs_answer-takes-clause-may g c = on_true c.has.result _ c.has.ensures.alike
