use Rattle.moka_growth.proofs.Accessing.{access_keeps_sound}
use Rattle.moka_growth.proofs.keeping.access_keeps_sound.Goals as goal

pub returns : goal.returns
returns c = record { sound = access_keeps_sound }
