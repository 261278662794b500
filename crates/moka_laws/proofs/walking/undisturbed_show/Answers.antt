use Rattle.moka_laws.proofs.WalksAlone.{undisturbed_show}
use Rattle.moka_laws.proofs.walking.undisturbed_show.Goals as goal

pub returns : goal.returns
returns g c = record { shows = undisturbed_show g.K.PartialEq.eq g.met.K.Eq.laws }
