use Rattle.moka_calls.proofs.Lengths.{seen_is_taken}
use Rattle.moka_calls.proofs.seeing.seen_is_taken.Goals as goal

pub returns : goal.returns
returns c = record { taken = λ hash same mine own. seen_is_taken hash same mine own }
