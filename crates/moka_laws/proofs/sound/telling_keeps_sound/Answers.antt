use Rattle.moka_laws.proofs.Soundness.{told_sound}
use Rattle.moka_laws.proofs.sound.telling_keeps_sound.Goals as goal

pub returns : goal.returns
returns g c = record { sound = told_sound g.K.PartialEq.eq }
