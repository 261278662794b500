-- Each turn keeps one key more.
use Rattle.std.proofs.Common.{◌-◌, length}
use Rattle.moka_map_cases.proofs.memory.goes_over.Given as goal

abbrev pub decreases-loop-pairs : goal.decreases-loop-pairs
decreases-loop-pairs l = l.count - length l.keys.items
