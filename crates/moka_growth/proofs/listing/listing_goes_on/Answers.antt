use Rattle.moka_growth.proofs.Listed.{listing_goes_on}
use Rattle.moka_growth.proofs.listing.listing_goes_on.Goals as goal

pub returns : goal.returns
returns c = record { lists = listing_goes_on }
