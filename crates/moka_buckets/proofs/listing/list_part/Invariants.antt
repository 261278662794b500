-- The pairs so far are those of the words that were gone over.
use Rattle.std.proofs.Common.{◌≡◌, ◌++◌, take}
use Rattle.moka_buckets.specs.Listed.{listed_in}
use Rattle.moka_buckets.proofs.listing.list_part.Given as goal

abbrev pub invariant-loop-word : goal.invariant-loop-word
invariant-loop-word g l = l.pairs.items ≡ l.initial.pairs.items ++ listed_in l.part.nodes.items (take l.word-index l.word-items)
