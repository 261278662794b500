-- What holds of words, whatever the hashes are and whichever nodes have one key.
use Rattle.std.specs.Prelude.{◌≡◌, ◌↔◌, ℕ, ◌<◌, ◌≤◌, Bool, true, List, length, Some, None, IsSome, MatchOption, slice_set}
use Rattle.std.specs.List.Sorted.{IsPermutation}
use Rattle.moka_words.specs.declared.words.Word.{Word}
use Rattle.moka_words.specs.declared.accesses.Access.{Access}
use Rattle.moka_words.specs.declared.accesses.Seen.{Seen}
use Rattle.moka_words.specs.Words.{node_of, word_at, NamesKeys}
use Rattle.moka_words.specs.Arrays.{bucket_at, IsReached, IsArray, IsNew, first_free}
use Rattle.moka_words.specs.Later.{Later, LaterWords, IsOwn, IsOwnHash, HasPassed, IsAbsent}
use Rattle.moka_words.specs.Effect.{Memory, Effect, IsForLater, LaterMemory}
use Rattle.moka_words.specs.Layout.{IsEmptyOrLive, IsStored, stored_nodes, layout}

-- a probe comes to each bucket, after fewer others than there are buckets
abbrev pub ProbeComesToEach : Type 0
ProbeComesToEach = (size hash i : ℕ) → i < size → (n : ℕ) × (n < size) × (bucket_at size hash n ≡ i)

-- an array stays one where a word is exchanged for a later one; where the bucket had no key, that
-- of the new word is new to the array, and its probe comes to the bucket
abbrev pub ExchangeKeepsArray : Type 0
ExchangeKeepsArray =
    (hash : ℕ → ℕ) (same : ℕ → ℕ → Bool) (words : List Word) (i : ℕ) (w : Word) →
    NamesKeys hash same →
    IsArray hash same words → Later same (word_at words i) w →
    ((n : ℕ) → node_of (word_at words i) ≡ None → node_of w ≡ Some n → IsNew hash same words i n) →
    IsArray hash same (slice_set words i w)

-- the first free bucket of a probe has no key, and the probe comes there; where there is none,
-- every bucket has a key
abbrev pub FirstFreeIsReached : Type 0
FirstFreeIsReached =
    (words : List Word) (hash : ℕ) →
    MatchOption (first_free words hash)
    ((i : ℕ) → i < length words → IsSome (node_of (word_at words i)))
    (λ i. (node_of (word_at words i) ≡ None) × IsReached words hash i)

-- each word of an array may be exchanged for a later one, and later words of later ones are later
abbrev pub LaterGoesOn : Type 0
LaterGoesOn =
    (hash : ℕ → ℕ) (same : ℕ → ℕ → Bool) (old mid new : List Word) → NamesKeys hash same →
    LaterWords same old mid →
    LaterWords same mid new → LaterWords same old new

abbrev pub ExchangeIsLater : Type 0
ExchangeIsLater =
    (hash : ℕ → ℕ) (same : ℕ → ℕ → Bool) (words : List Word) (i : ℕ) (w : Word) →
    NamesKeys hash same →
    Later same (word_at words i) w → LaterWords same words (slice_set words i w)

-- an access whose exchange is for a later word leaves a later memory
abbrev pub EffectIsLater : Type 0
EffectIsLater =
    (hash : ℕ → ℕ) (same : ℕ → ℕ → Bool) (own : ℕ → Bool) (access : Access) (seen : Seen)
    (old new : Memory) → NamesKeys hash same →
    IsForLater same access → Effect hash own access seen old new → LaterMemory same old new

-- buckets that a probe has passed stay buckets of other keys, whoever exchanges words
abbrev pub PassedStaysPassed : Type 0
PassedStaysPassed =
    (same : ℕ → ℕ → Bool) (own : ℕ → Bool) (old new : List Word) (hash n : ℕ) → IsOwn same own →
    LaterWords same old new → HasPassed own old hash n → HasPassed own new hash n

-- a probe that has passed n buckets ends at the next one, if that has no key, or after all: no
-- bucket has the call's key
abbrev pub ProbeEndsAbsent : Type 0
ProbeEndsAbsent =
    (hash : ℕ → ℕ) (same : ℕ → ℕ → Bool) (own : ℕ → Bool) (words : List Word) (h n : ℕ) →
    IsArray hash same words →
    IsOwnHash hash own words h → HasPassed own words h n →
    (n < length words → node_of (word_at words (bucket_at (length words) h n)) ≡ None) →
    IsAbsent own words

-- a node of the call's key is then new to the array, at the bucket where the probe stands
abbrev pub AbsentIsNew : Type 0
AbsentIsNew =
    (hash : ℕ → ℕ) (same : ℕ → ℕ → Bool) (own : ℕ → Bool) (words : List Word) (k n : ℕ) →
    IsOwn same own →
    own n ≡ true → k < length words → HasPassed own words (hash n) k → IsAbsent own words →
    IsNew hash same words (bucket_at (length words) (hash n) k) n

-- an array laid out anew has its length, and each of its words is empty or live
abbrev pub LayoutIsFilled : Type 0
LayoutIsFilled =
    (hash : ℕ → ℕ) (words : List Word) (size : ℕ) →
    (length (layout hash words size) ≡ size) ×
    ((i : ℕ) → i < size → IsEmptyOrLive (word_at (layout hash words size) i))

-- in an array that is as long or longer each stored node gets a place, and nothing else is stored
-- there
abbrev pub LayoutHasAll : Type 0
LayoutHasAll =
    (hash : ℕ → ℕ) (words : List Word) (size : ℕ) → length words ≤ size →
    IsPermutation (stored_nodes words) (stored_nodes (layout hash words size))

-- the layout of an array is one; in an array that is as long or longer just the same nodes are
-- stored
abbrev pub LayoutIsArray : Type 0
LayoutIsArray =
    (hash : ℕ → ℕ) (same : ℕ → ℕ → Bool) (words : List Word) (size : ℕ) → NamesKeys hash same →
    IsArray hash same words →
    length words ≤ size → IsArray hash same (layout hash words size) ×
    ((n : ℕ) → IsStored words n ↔ IsStored (layout hash words size) n)
