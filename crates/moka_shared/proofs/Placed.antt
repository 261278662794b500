-- Where a bucket lies.
use Rattle.std.proofs.Common.{◌≡◌, ℕ, ◌+◌, ◌-◌, ◌*◌, ◌^◌, ◌<◌, ◌≤◌, ◌%◌, suc, ap, arith, bit_and, subst, sym, ◌∙◌}
use Rattle.std.proofs.lemmas.Nat.{and_mask, div_below, mul-le}
use Rattle.std.proofs.Math.Nat.{mod-add-mod}
use Rattle.std.specs.Int.{IsPowerOfTwo}
use Rattle.moka_words.specs.Arrays.{bucket_at}
use Rattle.moka_shared.specs.Hashing.{segment_of}

-- the buckets of a segment lie before those of the next one
pub position_below : (segments size segment index : ℕ) → segment < segments → index < size → segment * size + index < segments * size
position_below segments size segment index below inside =
    let whole : suc segment * size ≤ segments * size = mul-le (suc segment) size segments size (omega (arith, below)) (omega arith) in
    omega (arith, whole, inside)

-- the mask of a power of two takes the remainder
masked : (hash size : ℕ) → IsPowerOfTwo size → bit_and hash (size - 1) ≡ hash % size
masked hash size power = subst (λ s. bit_and hash (s - 1) ≡ hash % s) (sym power.1) (and_mask hash power.0)

-- the bucket after n others, as it is reckoned
pub reckoned : (hash n size : ℕ) → IsPowerOfTwo size → bit_and (bit_and hash (size - 1) + n) (size - 1) ≡ bucket_at size hash n
reckoned hash n size power =
    masked (bit_and hash (size - 1) + n) size power
    ∙ ap (λ start. (start + n) % size) (masked hash size power)
    ∙ mod-add-mod hash size n

-- the segment of a hash is one of the table's
pub segment_below : (segments h : ℕ) → 0 < segments → h < 2 ^ 64 → segment_of segments h < segments
segment_below segments h some small =
    let most : h * segments ≤ 18446744073709551615 * segments = mul-le h segments 18446744073709551615 segments (omega (arith, small)) (omega arith) in
    div_below (h * segments) (2 ^ 64) segments (omega arith) (omega (arith, most, some))

-- equal hashes lead to one segment
pub same_segment : (segments segment h k : ℕ) → segment ≡ segment_of segments h → h ≡ k → segment ≡ segment_of segments k
same_segment segments segment h k is same = is ∙ ap (segment_of segments) same
