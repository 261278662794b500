-- The call fits the table.
use Rattle.moka_bucket_cases.proofs.lists.list_on.Given as goal

abbrev pub invariant-loop : goal.invariant-loop
invariant-loop g l = g.T.Table.fits l.table l.call
