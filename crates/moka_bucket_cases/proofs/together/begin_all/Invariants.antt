-- The operations begun so far fit the table.
use Rattle.std.specs.List.{All}
use Rattle.moka_bucket_cases.proofs.together.begin_all.Given as goal

abbrev pub invariant-loop-seed : goal.invariant-loop-seed
invariant-loop-seed g l = All (λ one. g.T.Table.fits l.table one.call) l.calls.items
