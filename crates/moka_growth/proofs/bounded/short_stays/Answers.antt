use Rattle.moka_growth.proofs.Shortness.{short_stays}
use Rattle.moka_growth.proofs.bounded.short_stays.Goals as goal

pub returns : goal.returns
returns c = record { short = short_stays }
