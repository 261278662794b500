use Rattle.moka_laws.proofs.Soundness.{clock_sound}
use Rattle.moka_laws.proofs.sound.clock_keeps_sound.Goals as goal

pub returns : goal.returns
returns g c = record { sound = clock_sound g.K.PartialEq.eq }
