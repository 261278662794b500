use Rattle.moka_growth.proofs.Listed.{listed_key_ends}
use Rattle.moka_growth.proofs.listing.listed_key_ends.Goals as goal

pub returns : goal.returns
returns c = record { lists = listed_key_ends }
