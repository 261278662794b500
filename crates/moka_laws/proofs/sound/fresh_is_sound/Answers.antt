use Rattle.moka_laws.proofs.Soundness.{fresh_sound}
use Rattle.moka_laws.proofs.sound.fresh_is_sound.Goals as goal

pub returns : goal.returns
returns g c = record { sound = fresh_sound g.K.PartialEq.eq }
