use Rattle.moka_laws.proofs.StayHit.{stay_hit}
use Rattle.moka_laws.proofs.predicates.hit_stay_hit.Goals as goal

pub returns : goal.returns
returns g c = record { hit = stay_hit g.K.PartialEq.eq g.met.K.Eq.laws }
