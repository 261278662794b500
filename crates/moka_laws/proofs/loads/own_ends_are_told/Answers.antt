use Rattle.moka_laws.proofs.Opening.{own_ends_told}
use Rattle.moka_laws.proofs.loads.own_ends_are_told.Goals as goal

pub returns : goal.returns
returns g c = record { told = own_ends_told g.K.PartialEq.eq }
