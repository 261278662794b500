use Rattle.moka_growth.proofs.Listed.{listed_key_goes_on}
use Rattle.moka_growth.proofs.listing.listed_key_goes_on.Goals as goal

pub returns : goal.returns
returns c = record { lists = listed_key_goes_on }
