use Rattle.moka_laws.proofs.Moved.{safe_calls}
use Rattle.moka_laws.proofs.moving.calls_are_safe.Goals as goal

pub returns : goal.returns
returns g c = record { safe = safe_calls g.K.PartialEq.eq }
