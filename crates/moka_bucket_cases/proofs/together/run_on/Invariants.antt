-- The operations fit the table, and there are as many.
use Rattle.std.proofs.Common.{◌<◌, length}
use Rattle.std.specs.List.{All}
use Rattle.moka_bucket_cases.proofs.together.run_on.Given as goal

abbrev pub invariant-loop : goal.invariant-loop
invariant-loop g l = All (λ one. g.T.Table.fits l.table one.call) l.calls.items × (l.place < length l.calls.items)
