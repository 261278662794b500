use Rattle.std.proofs.Common.{◌≡◌, ◌*◌, refl, subst, arith}
use Rattle.std.specs.Int.{IsPowerOfTwo}
use Rattle.moka_calls.proofs.Laying.{doubled}
use Rattle.moka_buckets.proofs.compacting.compact_size.Goals as goal

pub loop-size-init : goal.loop-size-init
loop-size-init c = record {
  power = (7, refl);
  least = omega arith;
  small = omega arith;
  half = λ h. absurd (omega arith);
}

pub loop-size-preserved : goal.loop-size-preserved
loop-size-preserved c =
    let same : 2 * c.loop-size.size ≡ c.loop-size.size * 2 = omega arith in
    let power = doubled c.loop-size.size c.loop-size.invariant.power in
    record {
      power = subst (λ n. IsPowerOfTwo n) same power;
      least = omega arith;
      small = omega arith;
      half = λ h. omega arith;
    }
