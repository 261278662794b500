-- A look at a key that is no operation.
use Rattle.std.specs.Prelude.{◌≡◌, ◌⊎◌, ℕ, ◌≤◌, Bool, true, List, length, Option, None}
use Rattle.std.specs.Option.{option_map_or}
use Rattle.moka_words.specs.declared.words.Word.{Word}
use Rattle.moka_words.specs.Words.{node_of, stored_in, word_at}
use Rattle.moka_words.specs.Arrays.{bucket_at}
use Rattle.moka_words.specs.Later.{HasPassed}
use Rattle.moka_buckets.specs.declared.part.Part.{Part}
use Rattle.moka_buckets.specs.Tables.{IsWell}
use Rattle.moka_buckets.specs.Parts.{memory_at, peak_at, AreParts}

-- A probe ends at the word, sealed or not: the bucket has no key, or the key that is sought.
abbrev pub is_end : (own : ℕ → Bool) → Word → Bool
is_end own w = option_map_or own (node_of w) true

-- A probe has passed buckets with other keys, and found this where it ended, or passed all.
pub record Seeks (own : ℕ → Bool) (words : List Word) (hash : ℕ) (found : Option ℕ) : Type 0 where
  pub passed : ℕ
  pub passed_are : HasPassed own words hash passed
  pub ends : ((length words ≤ passed) × (found ≡ None))
      ⊎ ((is_end own (word_at words (bucket_at (length words) hash passed)) ≡ true)
      × (found ≡ stored_in (word_at words (bucket_at (length words) hash passed))))

module _ {K V : Type 0} where
  -- what a look may rest on, in the segment of its key and among all segments
  pub record CanSeek (eq : K → K → Bool) (by : K → ℕ) (first : ℕ) (p : Part K V) (hash : ℕ)
      (key : K) : Type 0 where
    pub respects : (x y : K) → eq x y ≡ true → by x ≡ by y
    pub well : IsWell eq by (memory_at p) p.nodes.items first (peak_at p)
    pub hashed : hash ≡ by key

  pub record CanLook (eq : K → K → Bool) (by : K → ℕ) (parts : List (Part K V)) (first most len : ℕ)
      (hash : ℕ) (key : K) : Type 0 where
    pub respects : (x y : K) → eq x y ≡ true → by x ≡ by y
    pub well : AreParts eq by parts first most len
    pub hashed : hash ≡ by key
