-- When an array is made anew, and how.
use Rattle.std.specs.Prelude.{ℕ, ◌+◌, ◌*◌, Bool, ◌&&◌, ◌||◌, nat_le, nat_lt, if◌then◌else◌}
use Rattle.moka_words.specs.declared.rehash.RehashOp.{RehashOp}
use Rattle.moka_words.specs.declared.rehash.RehashOp.TheVariants.{Expand, Shrink, GcOnly, Skip}

-- 25,000 tombstones, or a tenth of all words
abbrev pub has_many_tombstones : (length tombstones : ℕ) → Bool
has_many_tombstones length tombstones = nat_le 25000 tombstones || nat_le length (10 * tombstones)

-- at least 512 words, and the keys less the tombstones are fewer than a quarter of them
abbrev pub is_sparse : (length tombstones len : ℕ) → Bool
is_sparse length tombstones len = nat_le 512 length && nat_lt (4 * len) (length + 4 * tombstones)

-- more than seven tenths of the words are keys
abbrev pub is_crowded : (length len : ℕ) → Bool
is_crowded length len = nat_lt (7 * length) (10 * len)

-- how an array of this length is made anew, with so many tombstones in it and so many keys in its
-- segment
abbrev pub rehash_op : (length tombstones len : ℕ) → RehashOp
rehash_op length tombstones len =
    if has_many_tombstones length tombstones then
    (if is_sparse length tombstones len then Shrink else GcOnly)
    else (if is_crowded length len then Expand else Skip)
