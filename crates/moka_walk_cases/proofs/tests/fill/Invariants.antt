-- The layers stand for some world.
use Rattle.moka_walk_cases.specs.Standing.{Stands}
use Rattle.moka_walk_cases.proofs.tests.fill.Given as goal

abbrev pub invariant-loop-key : goal.invariant-loop-key
invariant-loop-key g l = Stands g.T.Table l.layers
