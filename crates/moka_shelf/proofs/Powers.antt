-- Powers of two below a number.
use Rattle.std.proofs.Common.{ℕ, ◌^◌, ◌<◌, ◌≤◌, arith, pow_mono, lt_of_not-le}

-- a number of at most 17 bits has its highest bit below the 17th
pub top_below_17 : (n top : ℕ) → 2 ^ top ≤ n → n < 131072 → top < 17
top_below_17 n top low high =
    lt_of_not-le (λ (le : 17 ≤ top). let p : 131072 ≤ 2 ^ top = pow_mono le in omega arith)

-- and one of at most 48 bits below the 48th
pub top_below_48 : (n top : ℕ) → 2 ^ top ≤ n → n < 281474976710656 → top < 48
top_below_48 n top low high =
    lt_of_not-le (λ (le : 48 ≤ top). let p : 281474976710656 ≤ 2 ^ top = pow_mono le in omega arith)
