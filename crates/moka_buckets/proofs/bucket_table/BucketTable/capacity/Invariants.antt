-- The capacity so far is that of the roots that were gone over.
use Rattle.std.proofs.Common.{◌≡◌, ◌-◌, ◌/◌, ◌^◌, length, min, take}
use Rattle.std.specs.List.{sum_by}
use Rattle.moka_words.specs.Effect.{root, words_of}
use Rattle.moka_buckets.specs.Parts.{memory_at}
use Rattle.moka_buckets.proofs.bucket_table.BucketTable.capacity.Given as goal

abbrev pub invariant-loop-part : goal.invariant-loop-part
invariant-loop-part g l = l.capacity ≡ min (sum_by (λ p. length (words_of (memory_at p) (root (memory_at p))) / 2) (take l.part-index l.part-items)) (2 ^ 64 - 1)
