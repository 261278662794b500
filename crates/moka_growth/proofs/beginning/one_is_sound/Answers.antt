use Rattle.moka_growth.proofs.Making.{one_is_sound}
use Rattle.moka_growth.proofs.beginning.one_is_sound.Goals as goal

pub returns : goal.returns
returns c = record { sound = one_is_sound }
