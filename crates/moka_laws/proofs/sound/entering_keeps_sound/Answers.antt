use Rattle.moka_laws.proofs.Soundness.{entered_sound}
use Rattle.moka_laws.proofs.sound.entering_keeps_sound.Goals as goal

pub returns : goal.returns
returns g c = record { sound = entered_sound g.K.PartialEq.eq }
