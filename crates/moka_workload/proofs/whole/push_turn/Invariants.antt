use Rattle.std.proofs.Common.{◌≡◌, ◌++◌, take}
use Rattle.moka_workload.specs.Turns.{events_in}
use Rattle.moka_workload.proofs.whole.push_turn.Given as goal

abbrev pub invariant-loop-at : goal.invariant-loop-at
invariant-loop-at l = l.events.items ≡ l.fn.events.items ++ take l.at (events_in l.turn)
