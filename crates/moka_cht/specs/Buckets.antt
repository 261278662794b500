-- What an array of buckets means: two finite maps.
use Rattle.std.specs.Prelude.{◌≡◌, ◌≢◌, ℕ, ◌<◌, ◌≤◌, ◌^◌, Bool, cond, List, [], ◌∷◌, length, Option, Some, None, IfSome}
use Rattle.std.specs.Option.{option_map, option_or, option_to_list}
use Rattle.std.specs.List.{flat_map}
use Rattle.std.specs.Int.{IsPowerOfTwo}
use Rattle.moka_words.specs.Words.{node_of, stored_in, word_at}
use Rattle.moka_words.specs.Arrays.{IsArray}
use Rattle.moka_words.specs.declared.words.Word.{Word}
use Rattle.moka_words.specs.declared.words.Word.TheVariants.{Empty}
use Rattle.moka_cht.specs.declared.node.Node.{Node}
use Rattle.moka_cht.specs.declared.node.Node.TheVariants.{Unused}
use Rattle.moka_cht.specs.Nodes.{AllKept, hash_in, key_in, node_at, node_hash, own_key, pair_in, same_key}

-- the words of an array, and the nodes that they name
pub record Buckets (K V : Type 0) : Type 0 where
  pub words : List Word
  pub nodes : List (Node K V)

-- what f gives of the first element of which it gives something
abbrev pub first_of : {A B : Type 0} → (A → Option B) → List A → Option B
first_of f [] = None
first_of f (x ∷ xs) = option_or (f x) (first_of f xs)

module _ {K V : Type 0} where
  -- what f gives of the node, where it has the key
  abbrev pub at_key : {A : Type 0} → (K → K → Bool) → List (Node K V) → K → (Node K V → Option A) →
      Option ℕ → Option A
  at_key eq nodes q f None = None
  at_key eq nodes q f (Some n) = cond (own_key eq nodes q n) (f (node_at nodes n)) None

  -- the hash under which the word's bucket was filled, if it is the key's
  abbrev pub hash_for : (K → K → Bool) → List (Node K V) → K → Word → Option ℕ
  hash_for eq nodes q w = at_key eq nodes q (λ node. Some (hash_in node)) (node_of w)

  -- the pair that is stored in it, if it is the key's
  abbrev pub pair_for : (K → K → Bool) → List (Node K V) → K → Word → Option (K × V)
  pair_for eq nodes q w = at_key eq nodes q pair_in (stored_in w)

  -- the map of hashes: under which one the key's bucket was filled, live or a tombstone
  abbrev pub filled : (K → K → Bool) → Buckets K V → K → Option ℕ
  filled eq b q = first_of (hash_for eq b.nodes q) b.words

  -- the map of pairs: which one is stored under the key
  abbrev pub stored : (K → K → Bool) → Buckets K V → K → Option (K × V)
  stored eq b q = first_of (pair_for eq b.nodes q) b.words

  -- the map of values
  abbrev pub value_under : (K → K → Bool) → Buckets K V → K → Option V
  value_under eq b q = option_map (λ p. p.1) (stored eq b q)

  -- the stored pairs, in the order of the buckets
  abbrev pub pair_at : List (Node K V) → Option ℕ → Option (K × V)
  pair_at nodes None = None
  pair_at nodes (Some n) = pair_in (node_at nodes n)

  abbrev pub live_in : List (Node K V) → List Word → List (K × V)
  live_in nodes words = flat_map (λ w. option_to_list (pair_at nodes (stored_in w))) words

  abbrev pub live_pairs : Buckets K V → List (K × V)
  live_pairs b = live_in b.nodes b.words

  -- where the array has a bucket of the key, it was filled under this hash
  abbrev pub IsHashOf : (K → K → Bool) → Buckets K V → K → ℕ → Type 0
  IsHashOf eq b q hash = IfSome (filled eq b q) (λ h. h ≡ hash)

  -- no bucket is Empty
  abbrev pub HasNoEmpty : Buckets K V → Type 0
  HasNoEmpty b = (i : ℕ) → i < length b.words → word_at b.words i ≢ Empty

  -- What holds of words and nodes at any time: each key has one bucket, to which its probe comes.
  pub record IsTable (eq : K → K → Bool) (words : List Word) (nodes : List (Node K V))
      : Type 0 where
    pub power : IsPowerOfTwo (length words)
    pub small : length words ≤ 2 ^ 60
    pub kept : AllKept nodes words
    pub array : IsArray (node_hash nodes) (same_key eq nodes) words

  -- each node but the unused ones is named
  abbrev pub AllNamed : List Word → List (Node K V) → Type 0
  AllNamed words nodes =
      (n : ℕ) → node_at nodes n ≢ Unused → (i : ℕ) × (node_of (word_at words i) ≡ Some n)

  -- the node is one that nothing names
  abbrev pub IsSpare : List (Node K V) → Option ℕ → Type 0
  IsSpare nodes spare = IfSome spare (λ n. (n < length nodes) × (node_at nodes n ≡ Unused))

  pub record IsSound (eq : K → K → Bool) (words : List Word) (nodes : List (Node K V))
      (spare : Option ℕ) : Type 0 where
    pub table : IsTable eq words nodes
    pub named : AllNamed words nodes
    pub is_spare : IsSpare nodes spare
