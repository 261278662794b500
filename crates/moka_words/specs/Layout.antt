-- How the stored nodes of one array stand in another.
use Rattle.std.specs.Prelude.{◌≡◌, ◌⊎◌, ℕ, List, [], ◌∷◌, replicate, Some, slice_set}
use Rattle.std.specs.Option.{option_to_list, option_map_or}
use Rattle.std.specs.List.{flat_map}
use Rattle.moka_words.specs.declared.words.Word.{Word}
use Rattle.moka_words.specs.declared.words.Word.TheVariants.{Empty, Live}
use Rattle.moka_words.specs.Words.{stored_in, word_at}
use Rattle.moka_words.specs.Arrays.{first_free}

-- the stored nodes of an array, in the order of its buckets
abbrev pub stored_nodes : List Word → List ℕ
stored_nodes words = flat_map (λ w. option_to_list (stored_in w)) words

-- empty, or a live node
abbrev pub IsEmptyOrLive : Word → Type 0
IsEmptyOrLive w = (w ≡ Empty) ⊎ ((n : ℕ) × (w ≡ Live n))

-- the node is stored in some bucket
abbrev pub IsStored : List Word → ℕ → Type 0
IsStored words n = (i : ℕ) × (stored_in (word_at words i) ≡ Some n)

-- the node, put into the first free bucket of its probe; where there is none, into no bucket
abbrev pub placed : (ℕ → ℕ) → List Word → ℕ → List Word
placed hash words n =
    option_map_or (λ i. slice_set words i (Live n)) (first_free words (hash n)) words

-- the nodes, placed one after the other
abbrev pub all_placed : (ℕ → ℕ) → List Word → List ℕ → List Word
all_placed hash words [] = words
all_placed hash words (n ∷ ns) = all_placed hash (placed hash words n) ns

-- the array of this size in which the stored nodes of another stand, and nothing else
abbrev pub layout : (ℕ → ℕ) → List Word → ℕ → List Word
layout hash words size = all_placed hash (replicate size Empty) (stored_nodes words)
