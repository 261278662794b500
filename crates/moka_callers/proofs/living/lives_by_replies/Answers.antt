use Rattle.moka_callers.proofs.Lives.{lives}
use Rattle.moka_callers.proofs.living.lives_by_replies.Goals as goal

pub returns : goal.returns
returns g c = record { lives = lives g.K.PartialEq.eq }
