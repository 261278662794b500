-- The layers stand for some world.
use Rattle.moka_walk_cases.specs.Standing.{Stands}
use Rattle.moka_walk_cases.proofs.tests.walks_between.Given as goal

abbrev pub invariant-loop : goal.invariant-loop
invariant-loop g l = Stands g.T.Table l.layers
