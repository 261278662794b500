use Rattle.moka_laws.proofs.Undisturbed.{inserted_is_found}
use Rattle.moka_laws.proofs.alone.insert_then_get.Goals as goal

pub returns : goal.returns
returns g c = record { gives = inserted_is_found g.K.PartialEq.eq }
