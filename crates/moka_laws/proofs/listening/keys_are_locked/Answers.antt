use Rattle.moka_laws.proofs.Locking.{in_locking, key_locked}
use Rattle.moka_laws.proofs.Ordering.{kept_told}
use Rattle.moka_laws.proofs.listening.keys_are_locked.Goals as goal

pub returns : goal.returns
returns g c = record {
  locked = λ s n c key h. key_locked s (in_locking g.K.PartialEq.eq s h) n c key;
  kept = kept_told g.K.PartialEq.eq g.met.K.Eq.laws;
}
