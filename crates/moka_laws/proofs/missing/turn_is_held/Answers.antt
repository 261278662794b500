use Rattle.moka_laws.proofs.Turns.{turn_held}
use Rattle.moka_laws.proofs.missing.turn_is_held.Goals as goal

pub returns : goal.returns
returns g c = record { held = turn_held g.K.PartialEq.eq }
