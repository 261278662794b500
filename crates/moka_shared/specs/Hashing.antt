-- The hash of a key, and its segment.
use Rattle.std.specs.Prelude.{ℕ, ◌*◌, ◌/◌, ◌^◌}
use Rattle.std.specs.List.{fold}
use Rattle.std.specs.Hash.{HashWrites}
use Rattle.std.specs.declared.hash.Hasher as hasher
use Rattle.std.specs.declared.hash.BuildHasher as builder

-- the segment of a hash, of so many segments
abbrev pub segment_of : (segments hash : ℕ) → ℕ
segment_of segments hash = hash * segments / 2 ^ 64

-- the hash of the key that a hasher made by s gives, and its segment
abbrev pub hash_in : {S H K : Type 0} → builder.Ghosts S H → hasher.Ghosts H → (K → HashWrites)
    → S → K → ℕ
hash_in b h input s key = h.finish (fold h.write (b.build_hasher s) (input key))

abbrev pub place_in : {S H K : Type 0} → builder.Ghosts S H → hasher.Ghosts H → (K → HashWrites)
    → S → (segments : ℕ) → K → ℕ
place_in b h input s segments key = segment_of segments (hash_in b h input s key)
