-- The size is a power of two, and was needed.
use Rattle.std.proofs.Common.{◌*◌, ◌-◌, ◌^◌, ◌<◌, ◌≤◌}
use Rattle.std.specs.Int.{IsPowerOfTwo}
use Rattle.moka_buckets.proofs.compacting.compact_size.Given as goal

abbrev pub invariant-loop-size : goal.invariant-loop-size
invariant-loop-size l = record {
  power : IsPowerOfTwo l.size;
  least : 128 ≤ l.size;
  small : l.size ≤ 2 ^ 61;
  half : 128 < l.size → 7 * l.size < 20 * l.keys;
}

abbrev pub decreases-loop-size : goal.decreases-loop-size
decreases-loop-size l = 10 * l.keys - 7 * l.size
