use Rattle.moka_collapsing.proofs.Asking.{all_come}
use Rattle.moka_collapsing.proofs.standing.requests_come.Goals as goal

pub returns : goal.returns
returns c = all_come
