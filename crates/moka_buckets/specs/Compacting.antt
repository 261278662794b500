-- A segment laid out anew.
use Rattle.std.specs.Prelude.{◌≡◌, ◌⊎◌, ℕ, ◌+◌, ◌*◌, ◌<◌, ◌≤◌, List, [], ◌∷◌, length, Option, None, Some}
use Rattle.std.specs.Int.{IsPowerOfTwo}
use Rattle.std.specs.Option.{option_to_list}
use Rattle.std.specs.List.{slice_get, flat_map}
use Rattle.moka_words.specs.declared.words.Word.{Word}
use Rattle.moka_words.specs.Words.{stored_in}
use Rattle.moka_words.specs.Effect.{root, words_of}
use Rattle.moka_growth.specs.Growing.{laid_out}
use Rattle.moka_buckets.specs.declared.array.Arrays.{Arrays}
use Rattle.moka_buckets.specs.declared.node.Node.{Node}
use Rattle.moka_buckets.specs.declared.part.Part.{Part}
use Rattle.moka_buckets.specs.Building.{HasNone, HasRoot}
use Rattle.moka_buckets.specs.Parts.{memory_at, peak_at}

-- How many words so many keys get, of which there are some: the least power of two that is at least
-- 128 and of which they are at most seven
-- tenths.
pub record IsCompact (keys size : ℕ) : Type 0 where
  pub power : IsPowerOfTwo size
  pub least : 128 ≤ size
  pub room : 10 * keys ≤ 7 * size
  pub half : 128 < size → 7 * size < 20 * keys

-- nodes by their places in a list, from this one on, with their hashes
abbrev pub numbered : {K V : Type 0} → (from : ℕ) → List (Node K V) → List (ℕ × ℕ)
numbered from [] = []
numbered from (x ∷ xs) = (from, x.hash) ∷ numbered (from + 1) xs

module _ {K V : Type 0} where
  abbrev pub node_in : List (Node K V) → Option ℕ → Option (Node K V)
  node_in nodes None = None
  node_in nodes (Some n) = slice_get nodes n

  -- the nodes that words store, in the order of the words
  abbrev pub nodes_stored : List (Node K V) → List Word → List (Node K V)
  nodes_stored nodes words = flat_map (λ w. option_to_list (node_in nodes (stored_in w))) words

  -- those that the root stores
  abbrev pub live_nodes : Part K V → List (Node K V)
  live_nodes p = nodes_stored p.nodes.items (words_of (memory_at p) (root (memory_at p)))

  -- The arrays have a root in which these nodes are laid out, by their places in the list; without
  -- nodes no array.
  pub record AreLaid (nodes : List (Node K V)) (s : Arrays) : Type 0 where
    pub size : ℕ
    pub begins : ((nodes ≡ []) × HasNone s) ⊎
        (IsCompact (length nodes) size × HasRoot (laid_out (numbered 0 nodes) size) s)
    pub len : s.segment.len ≡ length nodes

  -- the segment has the nodes alone that its root stored, laid out anew
  pub record Compacts (old new : Part K V) : Type 0 where
    pub nodes : new.nodes.items ≡ live_nodes old
    pub laid : AreLaid (live_nodes old) new.arrays
    pub peak : new.peak ≡ peak_at old

  pub record AllCompact (old new : List (Part K V)) : Type 0 where
    pub many : length new ≡ length old
    pub each : (i : ℕ) (p q : Part K V) → slice_get old i ≡ Some p → slice_get new i ≡ Some q → Compacts p q
