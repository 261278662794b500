use Rattle.std.proofs.Common.{◌≡◌}
use Rattle.moka_workload.specs.Workload.{workload}
use Rattle.moka_workload.proofs.whole.all_events.Given as goal

abbrev pub invariant-loop : goal.invariant-loop
invariant-loop l =
    (l.made ≡ record { seed = l.seed; turns = l.counter })
    × (l.events.items ≡ workload l.counter l.seed)
