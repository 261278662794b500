use Rattle.moka_laws.proofs.Hits.{hit_unseen, items_not_hit}
use Rattle.moka_laws.proofs.predicates.hit_are_unseen.Goals as goal

pub returns : goal.returns
returns g c = record { unseen = hit_unseen g.K.PartialEq.eq; items = items_not_hit g.K.PartialEq.eq }
