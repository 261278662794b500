use Rattle.std.proofs.Common.{◌-◌, ◌≤◌}
use Rattle.std.specs.Prelude.{vec_capacity}
use Rattle.boxcar.specs.Table.{Tagged}
use Rattle.moka_shelf.proofs.rows.new_slots.Given as goal

abbrev pub invariant-loop-made : goal.invariant-loop-made
invariant-loop-made g l =
    (l.made ≤ l.count) × (l.count ≤ vec_capacity l.slots)
    × Tagged l.names.numbers l.place l.made l.slots.items

abbrev pub decreases-loop-made : goal.decreases-loop-made
decreases-loop-made g l = l.count - l.made
