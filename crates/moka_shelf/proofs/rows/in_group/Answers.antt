use Rattle.std.proofs.Common.{arith}
use Rattle.moka_shelf.proofs.Powers.{top_below_48}
use Rattle.moka_shelf.proofs.rows.in_group.Goals as goal

pub returns : goal.returns
returns c =
    let low = c.ilog2-group.ensures.power_le in
    let most = c.requires.most in
    let below = top_below_48 c.args.row c.ilog2-group.result low most in
    (below, omega arith)
