-- What an access sees of the memory, and what it leaves.
use Rattle.std.specs.Prelude.{◌≡◌, ◌≢◌, ◌⊎◌, ℕ, ◌<◌, ◌≤◌, Bool, false, List, [], ◌∷◌, ◌++◌, length, replicate, Option, Some, None, zero, suc, slice_set}
use Rattle.std.specs.Option.{option_map_or}
use Rattle.std.specs.List.{slice_get}
use Rattle.moka_words.specs.declared.words.Word.{Word}
use Rattle.moka_words.specs.declared.words.Word.TheVariants.{Unset}
use Rattle.moka_words.specs.declared.accesses.Access.{Access}
use Rattle.moka_words.specs.declared.accesses.Access.TheVariants as access
use Rattle.moka_words.specs.declared.accesses.Seen.{Seen}
use Rattle.moka_words.specs.declared.accesses.Seen.TheVariants as seen
use Rattle.moka_words.specs.Words.{node_of, word_at}
use Rattle.moka_words.specs.Later.{Later, LaterWords}

-- The memory of one segment, as its calls see it. Arrays go by their numbers, which no two arrays
-- of a table share.
pub record Memory : Type 0 where
  -- the words of each array
  pub words : ℕ → List Word
  -- the arrays of the segment, in the order in which they were linked
  pub arrays : List ℕ
  -- how many of them have been its root, from the first on; the last of those is it
  pub rooted : ℕ
  -- the number that the next new array gets, whichever segment links it
  pub fresh : ℕ
  -- how many tombstones each array is said to have, and how many keys the segment
  pub tombstones : ℕ → ℕ
  pub len : ℕ

-- the array at a place of the segment, and the one right before it; none stands before the first
abbrev pub array_at : Memory → (place : ℕ) → Option ℕ
array_at m place = slice_get m.arrays place

abbrev pub array_before : Memory → (place : ℕ) → Option ℕ
array_before m zero = None
array_before m (suc place) = array_at m place

abbrev pub root : Memory → Option ℕ
root m = array_before m m.rooted

-- the words of an array, none without one
abbrev pub words_of : Memory → Option ℕ → List Word
words_of m None = []
words_of m (Some a) = m.words a

-- the array stands right before this place of the segment
pub record StandsBefore (m : Memory) (place : ℕ) (array : Option ℕ) : Type 0 where
  pub there : array_before m place ≡ array
  pub within : place ≤ length m.arrays

-- one array, number 0, which is the root
abbrev pub words_alone : List Word → ℕ → List Word
words_alone words zero = words
words_alone words (suc a) = []

abbrev pub alone : List Word → Memory
alone words =
    record {
      words = words_alone words;
      arrays = 0 ∷ [];
      rooted = 1;
      fresh = 1;
      tombstones = λ a. 0;
      len = 0;
    }

-- the same arrays, of which as many have been root, and no number was given
pub record KeepsArrays (old new : Memory) : Type 0 where
  pub arrays : new.arrays ≡ old.arrays
  pub rooted : new.rooted ≡ old.rooted
  pub fresh : new.fresh ≡ old.fresh

-- nothing has changed
abbrev pub IsUnchanged : (old new : Memory) → Type 0
IsUnchanged old new = ((a : ℕ) → new.words a ≡ old.words a) × KeepsArrays old new

-- one word has changed, and nothing else
abbrev pub SetsWord : (array index : ℕ) → Word → (old new : Memory) → Type 0
SetsWord array index word old new =
    (new.words array ≡ slice_set (old.words array) index word) ×
    ((a : ℕ) → a ≢ array → new.words a ≡ old.words a)
    × KeepsArrays old new

-- a new array of unset words was linked after the last one
pub record Links (size : ℕ) (old new : Memory) : Type 0 where
  pub unset : new.words old.fresh ≡ replicate size Unset
  pub others : (a : ℕ) → a ≢ old.fresh → new.words a ≡ old.words a
  pub arrays : new.arrays ≡ old.arrays ++ old.fresh ∷ []
  pub rooted : new.rooted ≡ old.rooted
  pub fresh : new.fresh ≡ suc old.fresh

-- the array after the root became the root
pub record Swings (old new : Memory) : Type 0 where
  pub words : (a : ℕ) → new.words a ≡ old.words a
  pub arrays : new.arrays ≡ old.arrays
  pub rooted : new.rooted ≡ suc old.rooted
  pub fresh : new.fresh ≡ old.fresh

-- what was linked: the array that stood there already, or a new one
abbrev pub Linked : Option ℕ → (asked array size : ℕ) → (old new : Memory) → Type 0
Linked (Some a) asked array size old new =
    (array ≡ a) × (size ≡ length (old.words a)) × IsUnchanged old new
Linked None asked array size old new = (array ≡ old.fresh) × (size ≡ asked) × Links asked old new

-- The access sees this in the old memory and leaves the new one; `own` says which nodes have the
-- call's key. What becomes of the counts of tombstones and keys is not said here.
abbrev pub Effect : (hash : ℕ → ℕ) (own : ℕ → Bool) → Access → Seen → (old new : Memory) → Type 0
Effect hash own access.LoadRoot (seen.Root array size tombstones len) old new =
    (array ≡ root old) × (size ≡ length (words_of old array)) ×
    (tombstones ≡ option_map_or old.tombstones array 0) × (len ≡ old.len)
    × IsUnchanged old new
Effect hash own (access.LoadWord array index) (seen.Word word h s) old new =
    (word ≡ word_at (old.words array) index) × (h ≡ option_map_or hash (node_of word) 0) ×
    (s ≡ option_map_or own (node_of word) false)
    × IsUnchanged old new
Effect hash own (access.Choose present) (seen.Chosen choice) old new = IsUnchanged old new
Effect hash own (access.Exchange array index from to) (seen.Exchanged None) old new =
    (word_at (old.words array) index ≡ from) × SetsWord array index to old new
Effect hash own (access.Exchange array index from to) (seen.Exchanged (Some met)) old new =
    (met ≡ word_at (old.words array) index) × (met ≢ from) × IsUnchanged old new
Effect hash own (access.LoadNext array) (seen.Next next size) old new =
    (place : ℕ) × StandsBefore old place array × (next ≡ array_at old place) ×
    (size ≡ length (words_of old next)) × IsUnchanged old new
Effect hash own (access.Link array asked) (seen.Linked next size) old new =
    (place : ℕ) × StandsBefore old place array × Linked (array_at old place) asked next size old new
Effect hash own (access.Copy array index to) seen.Copied old new =
    ((word_at (old.words array) index ≡ Unset) × SetsWord array index to old new)
    ⊎ ((word_at (old.words array) index ≢ Unset) × IsUnchanged old new)
Effect hash own (access.Swing from to) seen.Swung old new =
    ((root old ≡ from) × (array_at old old.rooted ≡ Some to) × Swings old new) ⊎
    ((root old ≢ from) × IsUnchanged old new)
Effect hash own access seen old new = ⊥

-- what the access exchanges it exchanges for a later word
abbrev pub IsForLater : (ℕ → ℕ → Bool) → Access → Type 0
IsForLater same (access.Exchange array index from to) = Later same from to
IsForLater same access = Unit {0}

-- a memory that may stand some time later where the old one stood: each array stands where it
-- stood, each of its words is later, and those that have been root have been it
pub record LaterMemory (same : ℕ → ℕ → Bool) (old new : Memory) : Type 0 where
  pub words : (place a : ℕ) → array_at old place ≡ Some a → a < old.fresh →
      LaterWords same (old.words a) (new.words a)
  pub arrays : (place a : ℕ) → array_at old place ≡ Some a → array_at new place ≡ Some a
  pub longer : length old.arrays ≤ length new.arrays
  pub rooted : old.rooted ≤ new.rooted
  pub fresh : old.fresh ≤ new.fresh
