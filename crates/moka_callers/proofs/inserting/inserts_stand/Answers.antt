use Rattle.moka_callers.proofs.Inserted.{inserts_stand}
use Rattle.moka_callers.proofs.inserting.inserts_stand.Goals as goal

pub returns : goal.returns
returns g c = record { stands = inserts_stand g.K.PartialEq.eq }
