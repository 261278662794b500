-- The places so far are those of the nodes that were gone over.
use Rattle.std.proofs.Common.{◌≡◌, take}
use Rattle.moka_buckets.specs.Compacting.{numbered}
use Rattle.moka_buckets.proofs.compacting.number.Given as goal

abbrev pub invariant-loop-place : goal.invariant-loop-place
invariant-loop-place g l = l.kept.items ≡ numbered 0 (take l.place l.nodes)
