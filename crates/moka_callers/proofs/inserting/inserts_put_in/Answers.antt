use Rattle.moka_callers.proofs.Inserted.{inserts_put}
use Rattle.moka_callers.proofs.inserting.inserts_put_in.Goals as goal

pub returns : goal.returns
returns g c = record { put = inserts_put g.K.PartialEq.eq }
