-- The pairs of the nodes that words store.
use Rattle.std.specs.Prelude.{List}
use Rattle.std.specs.Option.{option_map, option_to_list}
use Rattle.std.specs.List.{flat_map}
use Rattle.moka_hist.specs.declared.records.Stored.{Stored}
use Rattle.moka_words.specs.declared.words.Word.{Word}
use Rattle.moka_words.specs.Words.{stored_in}
use Rattle.moka_buckets.specs.declared.node.Node.{Node}
use Rattle.moka_buckets.specs.Nodes.{pair_at}

module _ {K V : Type 0} where
  abbrev pub listed_at : List (Node K V) → Word → List (K × Stored V)
  listed_at nodes w = option_to_list (pair_at nodes (stored_in w))

  -- in the order of the buckets
  abbrev pub listed_in : List (Node K V) → List Word → List (K × Stored V)
  listed_in nodes words = flat_map (listed_at nodes) words

  -- the key of the node that the word stores, if it stores one
  abbrev pub keys_at : List (Node K V) → Word → List K
  keys_at nodes w = option_to_list (option_map (λ p. p.0) (pair_at nodes (stored_in w)))
