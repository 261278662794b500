use Rattle.moka_laws.proofs.OwnKeysKept.{under_own_keys}
use Rattle.moka_laws.proofs.stored.stored_under_own_keys.Goals as goal

pub returns : goal.returns
returns g c = record { stored = under_own_keys g.K.PartialEq.eq }
