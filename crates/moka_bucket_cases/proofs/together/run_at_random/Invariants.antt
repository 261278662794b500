-- The operations fit the table.
use Rattle.std.specs.List.{All}
use Rattle.moka_bucket_cases.proofs.together.run_at_random.Given as goal

abbrev pub invariant-loop-turn : goal.invariant-loop-turn
invariant-loop-turn g l = All (λ one. g.T.Table.fits l.table one.call) l.calls.items
