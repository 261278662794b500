use Rattle.moka_collapsing.proofs.Lawful.{feeds_lawful}
use Rattle.moka_collapsing.proofs.laws.feeds_are_lawful.Goals as goal

pub returns : goal.returns
returns c = feeds_lawful
