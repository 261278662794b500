use Rattle.moka_collapsing.proofs.Settling.{all_answered}
use Rattle.moka_collapsing.proofs.standing.lists_are_answered.Goals as goal

pub returns : goal.returns
returns c = all_answered
