-- What nodes hold: a key with the hash under which it was filled, and its value.
use Rattle.std.specs.Prelude.{◌≡◌, ◌≢◌, ℕ, ◌==◌, ◌<◌, ◌≤◌, Bool, false, List, length, Option, Some, None, IsSome, slice_index_or}
use Rattle.std.specs.Option.{option_map_or}
use Rattle.moka_words.specs.Words.{word_at}
use Rattle.moka_words.specs.declared.words.Word.{Word}
use Rattle.moka_words.specs.declared.words.Word.TheVariants.{Unset, Empty, Live, Tomb, SealedEmpty, SealedLive, SealedTomb}
use Rattle.moka_cht.specs.declared.node.Node.{Node}
use Rattle.moka_cht.specs.declared.node.Node.TheVariants.{Unused, Pair, Removed}

-- two nodes have one key; where one has none, they are one node
abbrev pub same_keys : {K : Type 0} → (K → K → Bool) → Bool → Option K → Option K → Bool
same_keys eq one (Some k) (Some l) = eq k l
same_keys eq one (Some k) None = one
same_keys eq one None l = one

module _ {K V : Type 0} where
  -- the node of this number
  abbrev pub node_at : List (Node K V) → ℕ → Node K V
  node_at nodes n = slice_index_or nodes n Unused

  -- its key
  abbrev pub key_in : Node K V → Option K
  key_in Unused = None
  key_in (Pair hash key value) = Some key
  key_in (Removed hash key) = Some key

  -- the hash under which it was filled
  abbrev pub hash_in : Node K V → ℕ
  hash_in Unused = 0
  hash_in (Pair hash key value) = hash
  hash_in (Removed hash key) = hash

  -- the stored pair
  abbrev pub pair_in : Node K V → Option (K × V)
  pair_in Unused = None
  pair_in (Pair hash key value) = Some (key, value)
  pair_in (Removed hash key) = None

  -- the hash by the number of the node
  abbrev pub node_hash : List (Node K V) → ℕ → ℕ
  node_hash nodes n = hash_in (node_at nodes n)

  -- whether the node has this key
  abbrev pub has_key : (K → K → Bool) → K → Node K V → Bool
  has_key eq q node = option_map_or (eq q) (key_in node) false

  -- the same by its number
  abbrev pub own_key : (K → K → Bool) → List (Node K V) → K → ℕ → Bool
  own_key eq nodes q n = has_key eq q (node_at nodes n)

  -- the same by their numbers
  abbrev pub same_key : (K → K → Bool) → List (Node K V) → ℕ → ℕ → Bool
  same_key eq nodes n m =
      same_keys eq (n == m) (key_in (node_at nodes n)) (key_in (node_at nodes m))

  -- The word is one of an array that is in use, and its node holds what it says.
  abbrev pub IsKept : List (Node K V) → Word → Type 0
  IsKept nodes Empty = Unit {0}
  IsKept nodes (Live n) = (n < length nodes) × IsSome (pair_in (node_at nodes n))
  IsKept nodes (Tomb n) =
      (n < length nodes) × IsSome (key_in (node_at nodes n)) × (pair_in (node_at nodes n) ≡ None)
  IsKept nodes Unset = ⊥
  IsKept nodes SealedEmpty = ⊥
  IsKept nodes (SealedLive n) = ⊥
  IsKept nodes (SealedTomb n) = ⊥

  -- all words are such words
  abbrev pub AllKept : List (Node K V) → List Word → Type 0
  AllKept nodes words = (i : ℕ) → i < length words → IsKept nodes (word_at words i)

  -- one node is set, and the others are as before
  pub record Sets (n : ℕ) (node : Node K V) (old new : List (Node K V)) : Type 0 where
    pub within : n < length new
    pub longer : length old ≤ length new
    pub there : node_at new n ≡ node
    pub others : (m : ℕ) → m ≢ n → node_at new m ≡ node_at old m
