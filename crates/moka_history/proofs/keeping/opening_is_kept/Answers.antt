use Rattle.moka_history.proofs.Opening.{opening_holds}
use Rattle.moka_history.proofs.keeping.opening_is_kept.Goals as goal

pub returns : goal.returns
returns g c = record { kept = λ eq hash place divided segments size hasher few power. opening_holds _ eq hash place divided segments size hasher few power }
