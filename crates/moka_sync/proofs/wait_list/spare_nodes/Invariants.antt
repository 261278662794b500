-- So many nodes are made.
use Rattle.std.proofs.Common.{◌≡◌, length}
use Rattle.moka_sync.proofs.wait_list.spare_nodes.Given as goal

abbrev pub invariant-loop : goal.invariant-loop
invariant-loop l = length l.nodes ≡ l.counter
