-- The pairs so far are those of the segments that were gone over.
use Rattle.std.proofs.Common.{◌≡◌, take}
use Rattle.moka_buckets.specs.Parts.{listed_over}
use Rattle.moka_buckets.proofs.listing.list_parts.Given as goal

abbrev pub invariant-loop-part : goal.invariant-loop-part
invariant-loop-part g l = l.pairs.items ≡ listed_over (take l.part-index l.parts)
