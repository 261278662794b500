-- The layers stand for some world.
use Rattle.moka_walk_cases.specs.Standing.{Stands}
use Rattle.moka_walk_cases.proofs.tests.steps_to_end.Given as goal

abbrev pub invariant-loop-steps : goal.invariant-loop-steps
invariant-loop-steps g l = Stands g.T.Table l.layers
