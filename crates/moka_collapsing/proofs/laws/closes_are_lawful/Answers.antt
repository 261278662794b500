use Rattle.moka_collapsing.proofs.Lawful.{closes_lawful}
use Rattle.moka_collapsing.proofs.laws.closes_are_lawful.Goals as goal

pub returns : goal.returns
returns c = closes_lawful
