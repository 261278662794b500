-- Segments that were just made.
use Rattle.std.specs.Prelude.{◌≡◌, ◌⊎◌, ℕ, List, [], ◌∷◌, length, replicate, Some}
use Rattle.std.specs.Int.{IsPowerOfTwo}
use Rattle.std.specs.Option.{option_map}
use Rattle.std.specs.List.{slice_get}
use Rattle.moka_words.specs.declared.words.Word.{Word}
use Rattle.moka_words.specs.declared.words.Word.TheVariants.{Empty}
use Rattle.moka_buckets.specs.declared.array.Arrays.{Arrays}
use Rattle.moka_buckets.specs.declared.part.Part.{Part}
use Rattle.moka_buckets.specs.Arrays.{words_in}

pub record HasNone (s : Arrays) : Type 0 where
  pub arrays : s.segment.arrays.items ≡ []
  pub rooted : s.segment.rooted ≡ 0

-- one array, which is the root, with these words
pub record HasRoot (words : List Word) (s : Arrays) : Type 0 where
  pub arrays : s.segment.arrays.items ≡ 0 ∷ []
  pub rooted : s.segment.rooted ≡ 1
  pub numbered : length s.all.items ≡ 1
  pub words_are : words_in s.all.items 0 ≡ words
  pub placed : option_map (λ array. array.place) (slice_get s.all.items 0) ≡ Some 0

-- a segment without keys, with one array of so many empty words, and with none where that is none
pub record IsFresh {K V : Type 0} (size : ℕ) (p : Part K V) : Type 0 where
  pub begins : ((size ≡ 0) × HasNone p.arrays)
      ⊎ (IsPowerOfTwo size × HasRoot (replicate size Empty) p.arrays)
  pub len : p.arrays.segment.len ≡ 0
  pub nodes : p.nodes.items ≡ []
  pub peak : p.peak ≡ 0

pub record AreFresh {K V : Type 0} (count size : ℕ) (parts : List (Part K V)) : Type 0 where
  pub many : length parts ≡ count
  pub each : (i : ℕ) (p : Part K V) → slice_get parts i ≡ Some p → IsFresh size p
