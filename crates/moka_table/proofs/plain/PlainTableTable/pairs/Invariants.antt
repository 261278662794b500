-- The pairs so far, with those that are left, are all of the map.
use Rattle.std.proofs.Common.{◌≡◌, ◌++◌}
use Rattle.std.specs.HashMap.{values}
use Rattle.moka_table.proofs.plain.PlainTableTable.pairs.Given as goal

abbrev pub invariant-loop-pair : goal.invariant-loop-pair
invariant-loop-pair g l = l.pairs.items ++ l.pair-iterator ≡ values l.self.pairs
