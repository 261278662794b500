-- Nodes as keys and pairs by number.
use Rattle.std.proofs.Common.{◌≡◌, ℕ, List, Option, Some, None, refl, ap, ◌∙◌}
use Rattle.std.specs.Option.{option_map}
use Rattle.std.specs.List.{slice_get}
use Rattle.moka_hist.specs.declared.records.Stored.{Stored}
use Rattle.moka_pairs.specs.Keys.{Agrees}
use Rattle.moka_pairs.specs.Pairs.{AreKeysOf}
use Rattle.moka_buckets.specs.declared.node.Node.{Node}
use Rattle.moka_buckets.specs.Nodes.{key_in, pair_in}

no_item : {A : Type 0} {x : A} → None ≡ Some x → ⊥
no_item e = cc

module _ {K V : Type 0} (nodes : List (Node K V)) where
  -- their keys are those of their pairs
  pub are_keys : AreKeysOf (key_in nodes) (pair_in nodes)
  are_keys n k e = by (slice_get nodes n) e
    where
      by : (o : Option (Node K V)) → option_map (λ node. node.key) o ≡ Some k →
          option_map (λ p. p.0) (option_map {U = K × Stored V} (λ node. (node.key, node.stored)) o) ≡ Some k
      by None f = absurd (no_item f)
      by (Some node) f = f

  -- and a pair's key is its node's
  pub key_of_pair : (n : ℕ) (key : K) (stored : Stored V) → pair_in nodes n ≡ Some (key, stored) → key_in nodes n ≡ Some key
  key_of_pair n key stored e = by (slice_get nodes n) e
    where
      by : (o : Option (Node K V)) → option_map {U = K × Stored V} (λ node. (node.key, node.stored)) o ≡ Some (key, stored) →
          option_map (λ node. node.key) o ≡ Some key
      by None f = absurd (no_item f)
      by (Some node) f = ap (option_map (λ p. p.0)) f

  -- the key of a node that is there
  pub key_there : (n : ℕ) (node : Node K V) → slice_get nodes n ≡ Some node → key_in nodes n ≡ Some node.key
  key_there n node there = ap (option_map (λ node. node.key)) there

-- Where there are more nodes, there are more keys and pairs.
module _ {K V : Type 0} (nodes more : List (Node K V)) (grows : (n : ℕ) (node : Node K V) → slice_get nodes n ≡ Some node → slice_get more n ≡ Some node) where
  pub keys_grow : Agrees (key_in more) (key_in nodes)
  keys_grow n k e = by (slice_get nodes n) (grows n) e
    where
      by : (o : Option (Node K V)) → ((node : Node K V) → o ≡ Some node → slice_get more n ≡ Some node) → option_map (λ node. node.key) o ≡ Some k →
          key_in more n ≡ Some k
      by None g f = absurd (no_item f)
      by (Some node) g f = ap (option_map (λ node. node.key)) (g node refl) ∙ f

  pub pairs_grow : Agrees (pair_in more) (pair_in nodes)
  pairs_grow n p e = by (slice_get nodes n) (grows n) e
    where
      by : (o : Option (Node K V)) → ((node : Node K V) → o ≡ Some node → slice_get more n ≡ Some node) →
          option_map {U = K × Stored V} (λ node. (node.key, node.stored)) o ≡ Some p → pair_in more n ≡ Some p
      by None g f = absurd (no_item f)
      by (Some node) g f = ap (option_map {U = K × Stored V} (λ node. (node.key, node.stored))) (g node refl) ∙ f
