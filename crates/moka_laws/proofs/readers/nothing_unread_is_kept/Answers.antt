use Rattle.moka_laws.proofs.Unread.{unread_kept}
use Rattle.moka_laws.proofs.readers.nothing_unread_is_kept.Goals as goal

pub returns : goal.returns
returns g c = record { kept = unread_kept g.K.PartialEq.eq }
