-- The two operations fit the table.
use Rattle.moka_bucket_cases.proofs.together.run_in_order.Given as goal

abbrev pub invariant-loop-turn : goal.invariant-loop-turn
invariant-loop-turn g l =
    g.T.Table.fits l.table l.first.call
    × g.T.Table.fits l.table l.second.call
