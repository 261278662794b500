use Rattle.moka_laws.proofs.Parting.{posted_for_good}
use Rattle.moka_laws.proofs.answered.posted_stays.Goals as goal

pub returns : goal.returns
returns g c = record { stays = posted_for_good g.K.PartialEq.eq }
