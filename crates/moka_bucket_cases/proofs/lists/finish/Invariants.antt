-- Both calls fit the table.
use Rattle.moka_bucket_cases.proofs.lists.finish.Given as goal

abbrev pub invariant-loop : goal.invariant-loop
invariant-loop g l = g.T.Table.fits l.table l.other × g.T.Table.fits l.table l.beside
