-- What contracts see of a table.
use Rattle.std.specs.Prelude.{◌≡◌, ℕ, ◌*◌, ◌/◌, ◌-◌, ◌^◌, ◌<◌, max, min, Bool, List, length, Option, Some}
use Rattle.std.specs.Int.{IsNextPowerOfTwo}
use Rattle.std.specs.Hash.{HashWrites}
use Rattle.std.specs.List.{sum_by}
use Rattle.std.specs.declared.hash.Hasher as hasher
use Rattle.std.specs.declared.hash.BuildHasher as builder
use Rattle.moka_buckets.specs.KeyOps.{key_of}
use Rattle.moka_buckets.specs.declared.key_op.KeyOp.{KeyOp}
use Rattle.moka_words.specs.declared.accesses.Access.{Access}
use Rattle.moka_words.specs.declared.words.Word.{Word}
use Rattle.moka_words.specs.Effect.{root, words_of}
use Rattle.moka_table.specs.Map.{Pairs}
use Rattle.moka_buckets.specs.declared.part.Part.{Part}
use Rattle.moka_buckets.specs.declared.bucket_call.BucketCall.{BucketCall}
use Rattle.moka_buckets.specs.Accesses.{wanted_by}
use Rattle.moka_buckets.specs.Walks.{listed_by}
use Rattle.moka_buckets.specs.Hashing.{hash_in}
use Rattle.moka_buckets.specs.declared.keys_call.KeysCall.{KeysCall}
use Rattle.moka_buckets.specs.Keys.{FitsKeys, ListsIt, CoversIt, keys_in, left_keys, nodes_of, word_over}
use Rattle.moka_buckets.specs.Parts.{memory_at, map_over, segment_of, FitsParts, left_over}

-- segments, the hasher, how long the first arrays were, the most keys before the last step, and how
-- many there are
pub record Buckets (K V S : Type 0) : Type 0 where
  pub parts : List (Part K V)
  pub hasher : S
  pub first : ℕ
  pub peak : ℕ
  pub len : ℕ

-- the access that a call makes next, if it goes on
abbrev pub want_of : {K V : Type 0} → BucketCall K V → Option Access
want_of c = wanted_by c.table

-- and a call that lists keys
abbrev pub keys_want_of : KeysCall → Option Access
keys_want_of c = wanted_by c.table

-- the nodes that it has listed so far, or in all
abbrev pub listed_of : KeysCall → List ℕ
listed_of c = listed_by c.table

-- the key that the call is for
abbrev pub key_for : {K V : Type 0} → BucketCall K V → Option K
key_for c = Some (key_of c.operation)

-- what the call was begun for
abbrev pub operation_of : {K V : Type 0} → BucketCall K V → Option (KeyOp K V)
operation_of c = Some c.operation

-- How long the first array of each of so many segments is at this capacity: none without one.
pub record IsFirst (capacity count size : ℕ) : Type 0 where
  pub none : capacity ≡ 0 → size ≡ 0
  pub some : 0 < capacity → IsNextPowerOfTwo (min (capacity * 2) (2 ^ 64 - 1) / count) size

module _ {K V S : Type 0} where
  abbrev pub first_of : Buckets K V S → ℕ
  first_of t = max 128 t.first

  -- the most keys that there ever were
  abbrev pub peak_of : Buckets K V S → ℕ
  peak_of t = max t.peak t.len

  abbrev pub count_of : Buckets K V S → ℕ
  count_of t = t.len

  abbrev pub left_of : Buckets K V S → BucketCall K V → ℕ
  left_of t c = left_over (first_of t) t.parts c

  -- the segment that the call is to
  abbrev pub segment_in : Buckets K V S → BucketCall K V → ℕ
  segment_in t c = segment_of (length t.parts) c.hash

  -- a call that lists keys has listed this one
  abbrev pub lists_in : Buckets K V S → KeysCall → K → Type 0
  lists_in t c key = ListsIt t.parts c key

  -- it lists this key, if the key stays
  abbrev pub covers_in : (K → K → Bool) → Buckets K V S → KeysCall → K → Type 0
  covers_in eq t c key = CoversIt eq t.parts c key

  -- the keys of the nodes that it has listed, in their order
  abbrev pub keys_listed : Buckets K V S → KeysCall → List K
  keys_listed t c = keys_in (nodes_of t.parts c.segment) (listed_of c)

  -- the word that it lists next, where it lists one
  abbrev pub word_of : Buckets K V S → KeysCall → Option Word
  word_of t c = word_over t.parts c

  abbrev pub left_keys_of : Buckets K V S → KeysCall → ℕ
  left_keys_of t c = left_keys (first_of t) t.parts c

  -- how many words the roots have together
  abbrev pub words_in : Buckets K V S → ℕ
  words_in t = sum_by (λ p. length (words_of (memory_at p) (root (memory_at p)))) t.parts

  -- and half of each one's words
  abbrev pub capacity_in : Buckets K V S → ℕ
  capacity_in t = sum_by (λ p. length (words_of (memory_at p) (root (memory_at p))) / 2) t.parts

  module _ {H : Type 0} (b : builder.Ghosts S H) (h : hasher.Ghosts H) (eq : K → K → Bool)
      (input : K → HashWrites) where
    abbrev pub map_in : Buckets K V S → Pairs K V
    map_in t = map_over eq (hash_in b h input t.hasher) t.parts

    -- the call was begun on this table, and has not decided
    abbrev pub fits_in : Buckets K V S → BucketCall K V → Type 0
    fits_in t c = FitsParts eq (hash_in b h input t.hasher) t.parts c

    -- the call was begun on this table; it goes on, or has ended
    abbrev pub fits_keys_in : Buckets K V S → KeysCall → Type 0
    fits_keys_in t c = FitsKeys eq (hash_in b h input t.hasher) t.parts c

    -- the segment of a key
    abbrev pub segment_for : Buckets K V S → K → ℕ
    segment_for t key = segment_of (length t.parts) (hash_in b h input t.hasher key)
