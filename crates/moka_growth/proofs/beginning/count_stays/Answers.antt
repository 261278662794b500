use Rattle.moka_growth.proofs.Counting.{count_stays}
use Rattle.moka_growth.proofs.beginning.count_stays.Goals as goal

pub returns : goal.returns
returns c = record { counted = count_stays }
