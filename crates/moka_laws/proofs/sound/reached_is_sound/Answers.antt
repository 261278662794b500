use Rattle.moka_laws.proofs.SoundReached.{reached_sound}
use Rattle.moka_laws.proofs.sound.reached_is_sound.Goals as goal

pub returns : goal.returns
returns g c = record { sound = reached_sound g.K.PartialEq.eq g.met.K.Eq.laws }
