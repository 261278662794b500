use Rattle.moka_growth.proofs.Making.{none_is_sound}
use Rattle.moka_growth.proofs.beginning.none_is_sound.Goals as goal

pub returns : goal.returns
returns c = record { sound = none_is_sound }
