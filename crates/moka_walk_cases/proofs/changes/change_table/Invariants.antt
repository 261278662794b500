-- The operation fits, and what was begun beside it may go on.
use Rattle.std.proofs.Common.{◌≡◌, ℕ}
use Rattle.moka_walk_cases.specs.Standing.{MayGoOn}
use Rattle.moka_walk_cases.proofs.changes.change_table.Given as goal

abbrev pub invariant-loop : goal.invariant-loop
invariant-loop g l =
    g.T.Table.fits l.table l.call
    × MayGoOn g.T.Table l.table l.begun
    × (g.T.Table.first l.table ≡ g.T.Table.first l.fn.table)
    × (g.T.Table.divided l.table ≡ g.T.Table.divided l.fn.table)
    × ((q : ℕ) → g.T.Table.part_of l.table q ≡ g.T.Table.part_of l.fn.table q)
