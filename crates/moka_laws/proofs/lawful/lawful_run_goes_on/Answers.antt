use Rattle.moka_hist.specs.Places.{IsLawful}
use Rattle.moka_laws.proofs.Reached.{go_on}
use Rattle.moka_laws.proofs.lawful.lawful_run_goes_on.Goals as goal

pub returns : goal.returns
returns g c = record { goes_on = go_on g.K.PartialEq.eq (IsLawful g.K.PartialEq.eq) }
