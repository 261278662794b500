-- What a segment keeps, whoever makes which access.
use Rattle.std.specs.Prelude.{◌≡◌, ◌≢◌, ◌⊎◌, ℕ, suc, ◌<◌, ◌≤◌, Bool, true, List, length, Option, Some}
use Rattle.std.specs.Int.{IsPowerOfTwo}
use Rattle.moka_words.specs.declared.words.Word.{Word}
use Rattle.moka_words.specs.declared.words.Word.TheVariants.{Unset}
use Rattle.moka_words.specs.Words.{node_of, word_at}
use Rattle.moka_words.specs.Arrays.{IsArray}
use Rattle.moka_words.specs.Layout.{stored_nodes, layout}
use Rattle.moka_words.specs.Effect.{Memory, array_at, root, words_of}
use Rattle.moka_growth.specs.Growing.{IsSealed, next_size}

-- an array without an unset word, and with keys of the segment alone
pub record IsRoot (hash : ℕ → ℕ) (same : ℕ → ℕ → Bool) (mine : ℕ → Bool) (words : List Word)
    : Type 0 where
  pub array : IsArray hash same words
  pub set : (i : ℕ) → i < length words → word_at words i ≢ Unset
  pub keys : (i n : ℕ) → node_of (word_at words i) ≡ Some n → mine n ≡ true

-- an array that follows another one (`before`, with the words `left`): that one is wholly sealed,
-- and each word of this one is unset, or as the layout of the other has it
pub record IsNext (hash : ℕ → ℕ) (before : Option ℕ) (left words : List Word) : Type 0 where
  pub sealed : IsSealed left
  pub size : length words ≡ next_size before (length left) (length (stored_nodes left))
  pub laid : (i : ℕ) → (word_at words i ≡ Unset) ⊎
      (word_at words i ≡ word_at (layout hash left (length words)) i)

-- `mine` says of a node whether its key is one of the segment
pub record IsSound (hash : ℕ → ℕ) (same : ℕ → ℕ → Bool) (mine : ℕ → Bool) (m : Memory)
    : Type 0 where
  -- an array has one place, and its number was given
  pub one : (p q a : ℕ) → array_at m p ≡ Some a → array_at m q ≡ Some a → p ≡ q
  pub numbered : (p a : ℕ) → array_at m p ≡ Some a → a < m.fresh
  pub power : (p a : ℕ) → array_at m p ≡ Some a → IsPowerOfTwo (length (m.words a))
  -- at most one array has not been root
  pub linked : m.rooted ≤ length m.arrays
  pub waits : length m.arrays ≤ suc m.rooted
  -- those that have been root are what a root is, and those before the root are wholly sealed
  pub roots : (p a : ℕ) → p < m.rooted → array_at m p ≡ Some a → IsRoot hash same mine (m.words a)
  pub left : (p a : ℕ) → suc p < m.rooted → array_at m p ≡ Some a → IsSealed (m.words a)
  pub follows : (a : ℕ) → array_at m m.rooted ≡ Some a →
      IsNext hash (root m) (words_of m (root m)) (m.words a)
