use Rattle.moka_growth.proofs.Elsewhere.{elsewhere_keeps_sound}
use Rattle.moka_growth.proofs.keeping.elsewhere_keeps_sound.Goals as goal

pub returns : goal.returns
returns c = record { sound = elsewhere_keeps_sound }
