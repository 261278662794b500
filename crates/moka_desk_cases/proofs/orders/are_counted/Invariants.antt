-- The desk rests, whatever was applied before.
use Rattle.std.proofs.Common.{List}
use Rattle.moka_hist.specs.declared.writes.Write.{Write}
use Rattle.moka_desk_cases.specs.Rests.{RestsOnDesk}
use Rattle.moka_desk_cases.proofs.orders.are_counted.Given as goal

abbrev pub invariant-loop-done : goal.invariant-loop-done
invariant-loop-done l = (writes : List Write) × RestsOnDesk l.desk writes
