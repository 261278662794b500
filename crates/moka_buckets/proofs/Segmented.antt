-- The segment of a hash is one of those there.
use Rattle.std.proofs.Common.{ℕ, ◌*◌, ◌^◌, ◌<◌, arith, subst, mul_comm}
use Rattle.std.proofs.Math.Nat.{mul-lt-mul_of_pos_right, div-lt_iff_lt-mul}
use Rattle.moka_buckets.specs.Parts.{segment_of}

pub hash_within : (count hash : ℕ) → 0 < count → hash < 2 ^ 64 → hash * count < count * 2 ^ 64
hash_within count hash some small = subst (λ n. hash * count < n) (mul_comm (2 ^ 64) count) (mul-lt-mul_of_pos_right small some)

pub segment_within : (count hash : ℕ) → 0 < count → hash < 2 ^ 64 → segment_of count hash < count
segment_within count hash some small =
    let within : hash * count < count * 2 ^ 64 = hash_within count hash some small in
    let halves = div-lt_iff_lt-mul {k = 2 ^ 64} {x = hash * count} {y = count} (omega arith) in
    halves.1 within
