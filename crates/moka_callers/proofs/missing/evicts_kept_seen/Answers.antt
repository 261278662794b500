use Rattle.moka_callers.proofs.Missed.{kept_seen}
use Rattle.moka_callers.proofs.missing.evicts_kept_seen.Goals as goal

pub returns : goal.returns
returns g c = record { seen = kept_seen g.K.PartialEq.eq }
