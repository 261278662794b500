-- The operation fits the table, until it has decided.
use Rattle.moka_bucket_cases.proofs.alone.run.Given as goal

abbrev pub invariant-loop-steps : goal.invariant-loop-steps
invariant-loop-steps g l = g.T.Table.fits l.table l.call
