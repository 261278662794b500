-- The clones so far are those of the nodes that the words stored which were gone over.
use Rattle.std.proofs.Common.{◌≡◌, take}
use Rattle.moka_buckets.specs.Compacting.{nodes_stored}
use Rattle.moka_buckets.proofs.compacting.clone_live.Given as goal

abbrev pub invariant-loop-word : goal.invariant-loop-word
invariant-loop-word g l = l.nodes.items ≡ nodes_stored l.part.nodes.items (take l.word-index l.word-items)
