use Rattle.moka_growth.proofs.Accessing.{access_is_later}
use Rattle.moka_growth.proofs.keeping.access_is_later.Goals as goal

pub returns : goal.returns
returns c = record { later = access_is_later }
