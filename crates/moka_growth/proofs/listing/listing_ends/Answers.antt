use Rattle.moka_growth.proofs.Listed.{listing_ends}
use Rattle.moka_growth.proofs.listing.listing_ends.Goals as goal

pub returns : goal.returns
returns c = record { lists = listing_ends }
