-- What a call knows of the memory, and goes on knowing whoever makes which access.
use Rattle.std.specs.Prelude.{◌≡◌, ◌≢◌, ℕ, ◌<◌, ◌≤◌, Bool, true, false, List, take, length, Option, Some, None}
use Rattle.std.specs.Option.{option_map_or}
use Rattle.moka_words.specs.declared.words.Word.{Word}
use Rattle.moka_words.specs.declared.words.Word.TheVariants.{Unset, Empty, Live, Tomb, SealedEmpty, SealedLive, SealedTomb}
use Rattle.moka_words.specs.Words.{node_of, is_sealed, word_at}
use Rattle.moka_words.specs.Arrays.{bucket_at}
use Rattle.moka_words.specs.Later.{IsOwn, HasPassed}
use Rattle.moka_words.specs.Layout.{stored_nodes, layout}
use Rattle.moka_words.specs.Effect.{Memory, array_at, words_of, StandsBefore}
use Rattle.moka_growth.specs.Growing.{IsSealed, with_hashes}
use Rattle.moka_growth.specs.Calls.{Point, Call}
use Rattle.moka_growth.specs.Calls as call

-- `own` says which nodes have the call's key: each was filled under the call's hash, and is one of
-- the segment
pub record IsKey (hash : ℕ → ℕ) (same : ℕ → ℕ → Bool) (mine own : ℕ → Bool) (h : ℕ) : Type 0 where
  pub one : IsOwn same own
  pub hashed : (n : ℕ) → own n ≡ true → hash n ≡ h
  pub of_segment : (n : ℕ) → own n ≡ true → mine n ≡ true

-- the array is the root, or was it
pub record HasBeenRoot (m : Memory) (array : ℕ) : Type 0 where
  pub place : ℕ
  pub before : place < m.rooted
  pub there : array_at m place ≡ Some array

-- a call that loads the root has met a sealed word in the array that it remembers
pub record HasMet (m : Memory) (array : ℕ) : Type 0 where
  pub rooted : HasBeenRoot m array
  pub index : ℕ
  pub sealed : is_sealed (word_at (m.words array) index) ≡ true

-- each bucket that the probe has passed has another key, and there are more
pub record IsProbing (own : ℕ → Bool) (h : ℕ) (m : Memory) (array size passed : ℕ) : Type 0 where
  pub rooted : HasBeenRoot m array
  pub size_is : size ≡ length (m.words array)
  pub passed_are : HasPassed own (m.words array) h passed
  pub more : passed < size

-- a word that is exchanged for another by a change of the call's key
abbrev pub IsChange : (own : ℕ → Bool) → (from to : Word) → Type 0
IsChange own Empty (Live n) = own n ≡ true
IsChange own (Tomb m) (Live n) = (own m ≡ true) × (own n ≡ true)
IsChange own (Live m) (Live n) = (own m ≡ true) × (own n ≡ true)
IsChange own (Live m) (Tomb n) = (own m ≡ true) × (m ≡ n)
IsChange own from to = ⊥

-- a word in which the call found its key, present or absent, or no key
abbrev pub IsOpen : (own : ℕ → Bool) → (found : Word) → Type 0
IsOpen own Unset = ⊥
IsOpen own Empty = Unit {0}
IsOpen own (Live n) = own n ≡ true
IsOpen own (Tomb n) = own n ≡ true
IsOpen own SealedEmpty = ⊥
IsOpen own (SealedLive n) = ⊥
IsOpen own (SealedTomb n) = ⊥

-- the words before the index are sealed, and their nodes are kept
pub record IsSealing (hash : ℕ → ℕ) (m : Memory) (array size index : ℕ) (kept : List (ℕ × ℕ))
    : Type 0 where
  pub rooted : HasBeenRoot m array
  pub size_is : size ≡ length (m.words array)
  pub more : index < size
  pub sealed : (i : ℕ) → i < index → is_sealed (word_at (m.words array) i) ≡ true
  pub kept_are : kept ≡ with_hashes hash (stored_nodes (take index (m.words array)))

-- the array right before this place, which is left for the one there: each of its words is sealed
pub record IsLeft (m : Memory) (place : ℕ) (array : Option ℕ) : Type 0 where
  pub stands : StandsBefore m place array
  pub rooted : place ≤ m.rooted
  pub sealed : IsSealed (words_of m array)

-- its stored nodes are kept
pub record IsKept (hash : ℕ → ℕ) (m : Memory) (array : Option ℕ) (size : ℕ) (kept : List (ℕ × ℕ))
    : Type 0 where
  pub place : ℕ
  pub left : IsLeft m place array
  pub size_is : size ≡ length (words_of m array)
  pub kept_are : kept ≡ with_hashes hash (stored_nodes (words_of m array))

-- the words of the array after it are set before the index, and this is how it is laid out
pub record IsCopying (hash : ℕ → ℕ) (m : Memory) (from : Option ℕ) (array index : ℕ)
    (laid : List Word) : Type 0 where
  pub place : ℕ
  pub left : IsLeft m place from
  pub there : array_at m place ≡ Some array
  pub laid_is : laid ≡ layout hash (words_of m from) (length (m.words array))
  pub more : index < length (m.words array)
  pub set : (i : ℕ) → i < index → word_at (m.words array) i ≢ Unset

-- each word of the array after it is set
pub record IsFilled (m : Memory) (from : Option ℕ) (array : ℕ) : Type 0 where
  pub place : ℕ
  pub left : IsLeft m place from
  pub there : array_at m place ≡ Some array
  pub set : (i : ℕ) → i < length (m.words array) → word_at (m.words array) i ≢ Unset

-- what a call knows at its point
abbrev pub FitsAt : (hash : ℕ → ℕ) (own : ℕ → Bool) (h : ℕ) → Memory → Point → Type 0
FitsAt hash own h m (call.Root None) = Unit {0}
FitsAt hash own h m (call.Root (Some array)) = HasMet m array
FitsAt hash own h m (call.Probe array size passed) = IsProbing own h m array size passed
FitsAt hash own h m (call.Choose array size passed found) =
    IsProbing own h m array size passed × IsOpen own found ×
    (word_at (m.words array) (bucket_at size h passed) ≡ found)
FitsAt hash own h m (call.Change array size passed from to) =
    IsProbing own h m array size passed × IsChange own from to
FitsAt hash own h m (call.Walk array size index nodes) =
    HasBeenRoot m array × (size ≡ length (m.words array)) × (index < size)
FitsAt hash own h m (call.Seal array size index kept) = IsSealing hash m array size index kept
FitsAt hash own h m (call.Close array size index word own_hash kept) =
    IsSealing hash m array size index kept × (is_sealed word ≡ false) ×
    (own_hash ≡ option_map_or hash (node_of word) 0)
FitsAt hash own h m (call.Next array size kept) = IsKept hash m array size kept
FitsAt hash own h m (call.Link array size kept) = IsKept hash m array size kept
FitsAt hash own h m (call.Copy from array index laid) = IsCopying hash m from array index laid
FitsAt hash own h m (call.Swing from array) = IsFilled m from array

abbrev pub Fits : (hash : ℕ → ℕ) (own : ℕ → Bool) → Memory → Call → Type 0
Fits hash own m c = FitsAt hash own c.hash m c.point

-- A call rests everywhere but where it asks what is to be done: that belongs to the load before,
-- and what the call knows there is of the moment.
abbrev pub Rests : Point → Type 0
Rests (call.Root met) = Unit {0}
Rests (call.Probe array size passed) = Unit {0}
Rests (call.Choose array size passed found) = ⊥
Rests (call.Change array size passed from to) = Unit {0}
Rests (call.Walk array size index nodes) = Unit {0}
Rests (call.Seal array size index kept) = Unit {0}
Rests (call.Close array size index word own_hash kept) = Unit {0}
Rests (call.Next array size kept) = Unit {0}
Rests (call.Link array size kept) = Unit {0}
Rests (call.Copy from array index laid) = Unit {0}
Rests (call.Swing from array) = Unit {0}
