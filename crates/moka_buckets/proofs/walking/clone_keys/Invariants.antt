-- The keys so far are those of the nodes that were gone over.
use Rattle.std.proofs.Common.{◌≡◌, take}
use Rattle.moka_buckets.specs.Keys.{keys_in}
use Rattle.moka_buckets.proofs.walking.clone_keys.Given as goal

abbrev pub invariant-loop-number : goal.invariant-loop-number
invariant-loop-number g l = l.keys.items ≡ keys_in l.nodes (take l.number-index l.numbers)
