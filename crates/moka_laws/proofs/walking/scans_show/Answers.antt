use Rattle.moka_laws.proofs.WalksGive.{scans_show}
use Rattle.moka_laws.proofs.walking.scans_show.Goals as goal

pub returns : goal.returns
returns g c = record { shows = scans_show g.K.PartialEq.eq }
