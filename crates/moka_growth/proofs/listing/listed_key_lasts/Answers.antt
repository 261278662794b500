use Rattle.moka_growth.proofs.Listed.{listed_key_lasts}
use Rattle.moka_growth.proofs.listing.listed_key_lasts.Goals as goal

pub returns : goal.returns
returns c = record { lasts = listed_key_lasts }
