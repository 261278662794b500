use Rattle.std.proofs.Common.{◌≡◌}
use Rattle.moka_workload.proofs.tests.counted.Given as goal

abbrev pub invariant-loop : goal.invariant-loop
invariant-loop l = l.made.turns ≡ l.counter
