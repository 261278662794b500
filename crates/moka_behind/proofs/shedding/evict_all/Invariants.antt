-- The pairs that are left are held.
use Rattle.std.proofs.Common.{drop}
use Rattle.moka_behind.specs.Evicting.{HoldsPairs}
use Rattle.moka_behind.proofs.shedding.evict_all.Given as goal

abbrev pub invariant-loop-entry : goal.invariant-loop-entry
invariant-loop-entry l = HoldsPairs l.pairs (drop l.entry-index l.entries)
