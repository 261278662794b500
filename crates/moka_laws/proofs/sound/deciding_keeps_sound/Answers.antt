use Rattle.moka_laws.proofs.Soundness.{decided_sound}
use Rattle.moka_laws.proofs.sound.deciding_keeps_sound.Goals as goal

pub returns : goal.returns
returns g c = record { sound = decided_sound g.K.PartialEq.eq }
