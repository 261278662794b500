use Rattle.moka_collapsing.proofs.Lawful.{replies_lawful}
use Rattle.moka_collapsing.proofs.laws.replies_are_lawful.Goals as goal

pub returns : goal.returns
returns c = replies_lawful
