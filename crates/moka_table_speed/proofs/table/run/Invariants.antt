-- The operation fits the table, until it has decided.
use Rattle.moka_table_speed.proofs.table.run.Given as goal

abbrev pub invariant-loop : goal.invariant-loop
invariant-loop g l = g.T.Table.fits l.table l.call
