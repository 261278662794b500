use Rattle.moka_growth.proofs.Shortness.{short_grows}
use Rattle.moka_growth.proofs.bounded.short_grows.Goals as goal

pub returns : goal.returns
returns c = record { short = short_grows }
