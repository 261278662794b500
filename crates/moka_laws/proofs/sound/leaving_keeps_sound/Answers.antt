use Rattle.moka_laws.proofs.Soundness.{left_sound}
use Rattle.moka_laws.proofs.sound.leaving_keeps_sound.Goals as goal

pub returns : goal.returns
returns g c = record { sound = left_sound g.K.PartialEq.eq }
