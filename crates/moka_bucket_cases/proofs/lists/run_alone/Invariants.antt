-- The call fits the table.
use Rattle.moka_bucket_cases.proofs.lists.run_alone.Given as goal

abbrev pub invariant-loop : goal.invariant-loop
invariant-loop g l = g.T.Table.fits l.table l.call
