use Rattle.moka_laws.proofs.Hiding.{invalidated_unseen, invalidation_hides}
use Rattle.moka_laws.proofs.moments.invalidated_are_unseen.Goals as goal

pub returns : goal.returns
returns g c = record {
  hides = invalidation_hides g.K.PartialEq.eq;
  unseen = invalidated_unseen g.K.PartialEq.eq;
}
