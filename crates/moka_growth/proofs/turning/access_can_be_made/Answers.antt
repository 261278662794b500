use Rattle.moka_growth.proofs.Possible.{access_can_be_made}
use Rattle.moka_growth.proofs.turning.access_can_be_made.Goals as goal

pub returns : goal.returns
returns c = record { made = access_can_be_made }
