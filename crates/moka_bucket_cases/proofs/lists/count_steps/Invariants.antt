-- The call fits the table.
use Rattle.moka_bucket_cases.proofs.lists.count_steps.Given as goal

abbrev pub invariant-loop-steps : goal.invariant-loop-steps
invariant-loop-steps g l = g.T.Table.fits l.table l.call
