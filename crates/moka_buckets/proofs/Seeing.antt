-- What is seen of a node.
use Rattle.std.proofs.Common.{◌≡◌, ℕ, Bool, false, List, Option, Some, ◌∙◌}
use Rattle.std.specs.Option.{option_map_or}
use Rattle.std.specs.List.{slice_get}
use Rattle.moka_pairs.specs.Keys.{hash_by, own_for}
use Rattle.moka_pairs.proofs.Names.{hash_seen, own_seen}
use Rattle.moka_buckets.specs.declared.node.Node.{Node}
use Rattle.moka_buckets.specs.Nodes.{Agrees, AreHashed, key_in}
use Rattle.moka_buckets.proofs.Known.{key_there}

module _ {K V : Type 0} (nodes : List (Node K V)) (keys : ℕ → Option K) (agrees : Agrees keys nodes) where
  pub seen_hash : (hash : K → ℕ) → AreHashed hash nodes → (o : Option ℕ) (n : ℕ) (node : Node K V) → o ≡ Some n → slice_get nodes n ≡ Some node →
      node.hash ≡ option_map_or (hash_by hash keys) o 0
  seen_hash hash hashed o n node is there = hashed n node there ∙ hash_seen (key_in nodes) keys agrees hash o n node.key is (key_there nodes n node there)

  pub seen_for : (eq : K → K → Bool) (key : Option K) (o : Option ℕ) (n : ℕ) (node : Node K V) → o ≡ Some n → slice_get nodes n ≡ Some node →
      option_map_or (λ k. eq k node.key) key false ≡ option_map_or (own_for eq keys key) o false
  seen_for eq key o n node is there = own_seen (key_in nodes) keys agrees eq key o n node.key is (key_there nodes n node there)
