-- The keys so far are those of the words that were gone over.
use Rattle.std.proofs.Common.{◌≡◌, ◌++◌, take}
use Rattle.std.specs.List.{flat_map}
use Rattle.moka_buckets.specs.Listed.{keys_at}
use Rattle.moka_buckets.proofs.part_keys.copy_part.Given as goal

abbrev pub invariant-loop-word : goal.invariant-loop-word
invariant-loop-word g l = l.keys.items ≡ l.initial.keys.items ++ flat_map (keys_at l.part.nodes.items) (take l.word-index l.word-items)
