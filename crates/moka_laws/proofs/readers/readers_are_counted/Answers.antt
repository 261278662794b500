use Rattle.moka_laws.proofs.Unread.{readers_counted}
use Rattle.moka_laws.proofs.readers.readers_are_counted.Goals as goal

pub returns : goal.returns
returns g c = record { counted = readers_counted g.K.PartialEq.eq }
