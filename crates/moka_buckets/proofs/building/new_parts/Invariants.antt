-- The segments so far have no keys.
use Rattle.moka_buckets.specs.Building.{AreFresh}
use Rattle.moka_buckets.proofs.building.new_parts.Given as goal

abbrev pub invariant-loop : goal.invariant-loop
invariant-loop g l = AreFresh l.counter l.size l.parts.items
