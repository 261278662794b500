-- Arrays of words: where a probe goes, and which bucket a key has.
use Rattle.std.specs.Prelude.{◌≡◌, ℕ, ◌+◌, ◌%◌, ◌<◌, Bool, true, false, List, map, length, Option, Some, is_none, IsSome}
use Rattle.std.specs.List.{find, range_with_len}
use Rattle.moka_words.specs.declared.words.Word.{Word}
use Rattle.moka_words.specs.Words.{node_of, word_at}

-- the bucket to which a probe comes after n others: on by one from the hash, and round the end
abbrev pub bucket_at : (size hash n : ℕ) → ℕ
bucket_at size hash n = (hash + n) % size

-- a probe comes to the bucket i after n others, each of which has a key
pub record Reaches (words : List Word) (hash n i : ℕ) : Type 0 where
  pub within : n < length words
  pub there : bucket_at (length words) hash n ≡ i
  pub passed : (k : ℕ) → k < n → IsSome (node_of (word_at words (bucket_at (length words) hash k)))

-- some probe under the hash comes to the bucket i past buckets with keys alone
abbrev pub IsReached : List Word → (hash i : ℕ) → Type 0
IsReached words hash i = (n : ℕ) × Reaches words hash n i

-- no bucket has the node's key
abbrev pub HasNot : (ℕ → ℕ → Bool) → List Word → ℕ → Type 0
HasNot same words n = (j m : ℕ) → node_of (word_at words j) ≡ Some m → same n m ≡ false

-- a key has one bucket, and its probe comes there
pub record IsArray (hash : ℕ → ℕ) (same : ℕ → ℕ → Bool) (words : List Word) : Type 0 where
  pub one : (i j n m : ℕ) → node_of (word_at words i) ≡ Some n →
      node_of (word_at words j) ≡ Some m → same n m ≡ true → i ≡ j
  pub reached : (i n : ℕ) → node_of (word_at words i) ≡ Some n → IsReached words (hash n) i

-- the node's key is new to the array, and its probe comes to the bucket i
pub record IsNew (hash : ℕ → ℕ) (same : ℕ → ℕ → Bool) (words : List Word) (i n : ℕ) : Type 0 where
  pub reached : IsReached words (hash n) i
  pub absent : HasNot same words n

-- the buckets of an array of this size in the order in which a probe visits them
abbrev pub probe : (size hash : ℕ) → List ℕ
probe size hash = map (bucket_at size hash) (range_with_len 0 size)

-- the first of them that has no key
abbrev pub first_free : List Word → (hash : ℕ) → Option ℕ
first_free words hash = find (λ i. is_none (node_of (word_at words i))) (probe (length words) hash)
