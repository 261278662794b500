use Rattle.moka_collapsing.proofs.Ordering.{in_order}
use Rattle.moka_collapsing.proofs.laws.replies_go_in_order.Goals as goal

pub returns : goal.returns
returns c = in_order
