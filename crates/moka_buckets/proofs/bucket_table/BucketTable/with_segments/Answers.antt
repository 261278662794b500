use Rattle.std.proofs.Common.{◌<◌, arith, max, refl, subst, sym}
use Rattle.std.specs.Int.{IsNextPowerOfTwo}
use Rattle.moka_buckets.specs.Hashing.{hash_in}
use Rattle.moka_buckets.specs.Views.{IsFirst}
use Rattle.moka_buckets.proofs.Fresh.{fresh_map, fresh_parts}
use Rattle.moka_buckets.proofs.bucket_table.BucketTable.with_segments.Goals as goal

pub invariant_of-result : goal.invariant_of-result
invariant_of-result g c =
    let lower = c.next_power_of_two-count.ensures.lower_bound in
    let least = c.requires.some in
    let some : 0 < c.next_power_of_two-count.result = omega (arith, lower, least) in
    fresh_parts g.K.PartialEq.eq (hash_in g.S.BuildHasher g.S.Hasher.Hasher g.K.Hash.hash_input c.args.hasher) (max 128 c.in_ok-first.first) c.in_ok-first.first
    (omega arith) (omega arith) c.next_power_of_two-count.result 0 c.in_ok-parts.parts.items some c.in_ok-parts.ensures

pub returns-clause-segments : goal.returns-clause-segments
returns-clause-segments g c =
    let is = c.next_power_of_two-count.ensures in
    subst (λ n. IsNextPowerOfTwo c.args.segments n) (sym c.in_ok-parts.ensures.many) (is.power, is.lower_bound, is.upper_bound)

pub returns-clause-first : goal.returns-clause-first
returns-clause-first g c =
    subst (λ n. IsFirst c.args.capacity n c.in_ok-first.first) (sym c.in_ok-parts.ensures.many) c.in_ok-first.ensures

pub returns-clause-none : goal.returns-clause-none
returns-clause-none g c = λ q. fresh_map g.K.PartialEq.eq (hash_in g.S.BuildHasher g.S.Hasher.Hasher g.K.Hash.hash_input c.args.hasher) (max 128 c.in_ok-first.first)
    c.in_ok-first.first (omega arith) (omega arith) c.next_power_of_two-count.result c.in_ok-parts.parts.items c.in_ok-parts.ensures q

pub returns-clause-empty : goal.returns-clause-empty
returns-clause-empty g c = λ is. record {
  map = returns-clause-none g c;
  count = refl;
  peak = refl;
  first = is;
}
