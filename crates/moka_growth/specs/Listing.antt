-- What a call lists that goes through the buckets of a segment.
use Rattle.std.specs.Prelude.{◌≡◌, ◌⊎◌, ℕ, ◌<◌, Bool, true, List, [], Some}
use Rattle.std.specs.List.{slice_get}
use Rattle.moka_words.specs.declared.words.Word.{Word}
use Rattle.moka_words.specs.Words.{node_of, word_at}
use Rattle.moka_words.specs.Effect.{Memory}
use Rattle.moka_growth.specs.Calls.{Point}
use Rattle.moka_growth.specs.Calls as call
use Rattle.moka_growth.specs.Maps.{IsPresent}

-- the nodes listed so far
abbrev pub listed : Point → List ℕ
listed (call.Walk array size index nodes) = nodes
listed p = []

-- no two of them have one key
abbrev pub Differ : (ℕ → ℕ → Bool) → List ℕ → Type 0
Differ same nodes =
    (x y n k : ℕ) → slice_get nodes x ≡ Some n → slice_get nodes y ≡ Some k → same n k ≡ true →
    x ≡ y

-- the node's key is that of a bucket before the index
pub record IsBefore (same : ℕ → ℕ → Bool) (words : List Word) (index n : ℕ) : Type 0 where
  pub bucket : ℕ
  pub node : ℕ
  pub before : bucket < index
  pub there : node_of (word_at words bucket) ≡ Some node
  pub alike : same n node ≡ true

-- a call has listed no key twice, and none but those of the buckets that it passed
abbrev pub Lists : (ℕ → ℕ → Bool) → Memory → Point → Type 0
Lists same m (call.Walk array size index nodes) =
    Differ same nodes × ((x n : ℕ) → slice_get nodes x ≡ Some n →
    IsBefore same (m.words array) index n)
Lists same m p = Unit {0}

-- some node with the key is listed
abbrev pub HasListed : (key : ℕ → Bool) → List ℕ → Type 0
HasListed key nodes = (x n : ℕ) × (slice_get nodes x ≡ Some n) × (key n ≡ true)

-- a call has listed the key, if it has passed the key's bucket
abbrev pub ListsKey : (key : ℕ → Bool) → Memory → Point → Type 0
ListsKey key m (call.Walk array size index nodes) =
    (j n : ℕ) → j < index → node_of (word_at (m.words array) j) ≡ Some n → key n ≡ true →
    HasListed key nodes
ListsKey key m p = Unit {0}

-- a node with the key is present
abbrev pub HasKey : (key : ℕ → Bool) → Memory → Type 0
HasKey key m = (n : ℕ) × IsPresent m n × (key n ≡ true)

-- each of these nodes was listed before, or is present
abbrev pub ArePresent : (before after : List ℕ) → Memory → Type 0
ArePresent before after m =
    (x n : ℕ) → slice_get after x ≡ Some n →
    ((y : ℕ) × (slice_get before y ≡ Some n)) ⊎ IsPresent m n
