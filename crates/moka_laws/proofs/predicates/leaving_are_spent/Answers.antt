use Rattle.moka_laws.proofs.Striking.{leaving_spent}
use Rattle.moka_laws.proofs.Unstepped.{others_leave}
use Rattle.moka_laws.proofs.predicates.leaving_are_spent.Goals as goal

pub returns : goal.returns
returns g c = record { spent = leaving_spent g.K.PartialEq.eq g.met.K.Eq.laws; others = others_leave g.K.PartialEq.eq }
