-- The two operations fit the table, until one has decided.
use Rattle.moka_bucket_cases.proofs.orders.play_both.Given as goal

abbrev pub invariant-loop-turn : goal.invariant-loop-turn
invariant-loop-turn g l =
    g.T.Table.fits l.table l.first
    × g.T.Table.fits l.table l.second
