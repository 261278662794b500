-- What a probe knows after a log.
use Rattle.std.specs.Prelude.{◌≡◌, ℕ, suc, ◌<◌, Bool, List, Option, Some}
use mathlib.Core.List.{IsPrefix}
use Rattle.moka_words.specs.declared.words.Word.{Word}
use Rattle.moka_words.specs.Words.{node_of, word_at}
use Rattle.moka_words.specs.Arrays.{bucket_at}
use Rattle.moka_words.specs.Later.{HasPassed}
use Rattle.moka_words.specs.Effect.{root}
use Rattle.moka_growth.specs.Fits.{IsOpen}
use Rattle.moka_pairs.specs.Keys.{Agrees, own_by, own_for}
use Rattle.moka_history.specs.declared.note.Note.{Note}
use Rattle.moka_history.specs.States.{memory_of, words_in}
use Rattle.moka_history.specs.Logs.{state_of}
use Rattle.moka_history.specs.Rules.{keys_of, IsKept, IsOpenedFor}
use Rattle.moka_history.specs.Keeping.{IsSmall}
use Rattle.moka_shelf.specs.Looks.{Hiding}
use Rattle.moka_shared.specs.declared.probe.Ended.{Ended}
use Rattle.moka_shared.specs.declared.probe.Ended.TheVariants as ended
use Rattle.moka_shared.specs.Hashing.{segment_of}
use Rattle.moka_shared.specs.Meeting.{HasNode, Hides, IsShut}
use Rattle.moka_shared.specs.Nodes.{NodeView}
use Rattle.moka_shared.specs.Tables.{Table, names_of}

module _ {K V S : Type 0} (eq : K → K → Bool) (hash : S → K → ℕ) (place : S → ℕ → K → ℕ)
    (t : Table S) where
  -- the log is kept, and the table, which has segments, was opened with it
  pub record IsLogOf (log : List (Note K V S)) : Type 0 where
    pub kept : IsKept eq hash place log
    pub opened : IsOpenedFor t.segments t.size t.hasher log
    pub some : 0 < t.segments

  -- the log goes on from the old one
  pub record GoesOn (old new : List (Note K V S)) : Type 0 where
    pub begins : IsPrefix old new
    pub is_log : IsLogOf new

  -- the log goes on, and this word was read there
  pub record Loads (segment index : ℕ) (word : Word) (old new : List (Note K V S)) : Type 0 where
    pub goes_on : GoesOn old new
    pub there : word_at (words_in (state_of new) (suc segment)) index ≡ word
    pub small : IsSmall word

-- the segment of a key, and the keys of its numbers
module _ {K V S : Type 0} (place : S → ℕ → K → ℕ) (t : Table S) (key : K)
    (log : List (Note K V S)) where
  abbrev pub own_words : List Word
  own_words = words_in (state_of log) (suc (place t.hasher t.segments key))

  abbrev pub own_keys : ℕ → Option K
  own_keys = keys_of (place t.hasher t.segments) (state_of log) (place t.hasher t.segments key)

-- the root of the segment is its first array
abbrev pub IsFirstRoot : {K V S : Type 0} → (segment : ℕ) → List (Note K V S) → Type 0
IsFirstRoot segment log = root (memory_of (state_of log) segment) ≡ Some (suc segment)

module _ {K V S : Type 0} (eq : K → K → Bool) (place : S → ℕ → K → ℕ) (t : Table S) (key : K)
    (hash : ℕ) (log : List (Note K V S)) where
  -- a probe under the hash has passed so many buckets of other keys in the key's segment, whatever
  -- keys are still to come
  abbrev pub HasProbed : (passed : ℕ) → Type 0
  HasProbed passed = (keys : ℕ → Option K) → Agrees keys (own_keys place t key log) →
      HasPassed (own_for eq keys (Some key)) (own_words place t key log) hash passed

  -- it ended at this word: the bucket is free, or of the key
  pub record EndsAt (passed : ℕ) (word : Word) : Type 0 where
    pub probed : HasProbed passed
    pub within : passed < t.size
    pub there : word_at (own_words place t key log) (bucket_at t.size hash passed) ≡ word
    pub opens : IsOpen (own_by eq (own_keys place t key log) key) word

  -- what is known where it ended
  abbrev pub Ends : {N : Type 0} → Ended N → Type 0
  Ends (ended.At passed word shown) = EndsAt passed word
  Ends ended.Full = HasProbed t.size × IsFirstRoot (place t.hasher t.segments key) log
  Ends (ended.Hidden number) = Unit {0}
  Ends (ended.Sealed passed word) = Unit {0}

-- this word was read in the array of the segment to which the hash leads, past so many others
pub record ReadsAt {K V S : Type 0} (t : Table S) (hash passed : ℕ) (word : Word)
    (log : List (Note K V S)) : Type 0 where
  pub within : passed < t.size
  pub there : word_at (words_in (state_of log) (suc (segment_of t.segments hash)))
      (bucket_at t.size hash passed) ≡ word

-- a word that was read there names the node
pub record ReadsNode {K V S : Type 0} (t : Table S) (hash number : ℕ) (log : List (Note K V S))
    : Type 0 where
  pub passed : ℕ
  pub word : Word
  pub reads : ReadsAt t hash passed word log
  pub names : node_of word ≡ Some number

-- what was read where a probe ended, and what became of the look
abbrev pub StopsAt : {K V S : Type 0} → (t : Table S) → (hash : ℕ) → (log : List (Note K V S)) →
    (old new : Hiding) → Ended (NodeView K V S) → Type 0
StopsAt t hash log old new (ended.At passed word shown) =
    ReadsAt t hash passed word log × (new ≡ old) × HasNode (names_of t.book) word shown
StopsAt t hash log old new ended.Full = new ≡ old
StopsAt t hash log old new (ended.Hidden n) = ReadsNode t hash n log × Hides n old new
StopsAt t hash log old new (ended.Sealed passed word) =
    ReadsAt t hash passed word log × IsShut word × (new ≡ old)
