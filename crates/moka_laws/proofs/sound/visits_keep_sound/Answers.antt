use Rattle.moka_laws.proofs.Soundness.{visit_sound}
use Rattle.moka_laws.proofs.sound.visits_keep_sound.Goals as goal

pub returns : goal.returns
returns g c = record { sound = visit_sound g.K.PartialEq.eq g.met.K.Eq.laws }
