-- Nodes by their numbers.
use Rattle.std.specs.Prelude.{◌≡◌, ℕ, ◌<◌, List, length, Option, Some}
use Rattle.std.specs.Option.{option_map}
use Rattle.std.specs.List.{slice_get}
use Rattle.moka_hist.specs.declared.records.Stored.{Stored}
use Rattle.moka_words.specs.declared.words.Word.{Word}
use Rattle.moka_words.specs.Words.{node_of}
use Rattle.moka_pairs.specs.Keys as known
use Rattle.moka_pairs.specs.Pairs as numbered
use Rattle.moka_buckets.specs.declared.node.Node.{Node}

module _ {K V : Type 0} where
  -- the key of a node, and the stored pair
  abbrev pub key_in : List (Node K V) → ℕ → Option K
  key_in nodes n = option_map (λ node. node.key) (slice_get nodes n)

  abbrev pub pair_in : List (Node K V) → ℕ → Option (K × Stored V)
  pair_in nodes n = option_map (λ node. (node.key, node.stored)) (slice_get nodes n)

  abbrev pub pair_at : List (Node K V) → Option ℕ → Option (K × Stored V)
  pair_at nodes o = numbered.pair_at (pair_in nodes) o

  -- the keys of these nodes, and any of others that are still to come
  abbrev pub Agrees : (keys : ℕ → Option K) → List (Node K V) → Type 0
  Agrees keys nodes = known.Agrees keys (key_in nodes)

  -- each node has the hash of its key
  abbrev pub AreHashed : (K → ℕ) → List (Node K V) → Type 0
  AreHashed hash nodes = (n : ℕ) (node : Node K V) → slice_get nodes n ≡ Some node → node.hash ≡ hash node.key

  -- the word names one of the nodes, or none
  abbrev pub IsNamed : List (Node K V) → Word → Type 0
  IsNamed nodes w = (n : ℕ) → node_of w ≡ Some n → n < length nodes
