-- The keys so far are those of the segments that were gone over.
use Rattle.std.proofs.Common.{◌≡◌, take}
use Rattle.std.specs.List.{flat_map}
use Rattle.std.specs.Map.{keys_of}
use Rattle.moka_buckets.specs.Parts.{listed_part}
use Rattle.moka_buckets.proofs.part_keys.copy_all.Given as goal

abbrev pub invariant-loop-part : goal.invariant-loop-part
invariant-loop-part g l = l.keys.items ≡ flat_map (λ p. keys_of (listed_part p)) (take l.part-index l.parts)
