use Rattle.moka_growth.proofs.Listed.{listing_lasts}
use Rattle.moka_growth.proofs.listing.listing_lasts.Goals as goal

pub returns : goal.returns
returns c = record { lasts = listing_lasts }
