-- The stored nodes of an array in which a word was set, or of its first words.
use Rattle.std.proofs.Common.{◌≡◌, ℕ, ◌+◌, ◌<◌, List, [], ◌∷◌, ◌++◌, take, length, replicate, Option, Some, None, zero, suc, refl, sym, ap, ◌∙◌, arith, set, append_assoc, length-append}
use Rattle.std.specs.Option.{option_map, option_to_list, option_map_or}
use Rattle.std.proofs.lemmas.List.{map-append}
use Rattle.moka_words.specs.declared.words.Word.{Word}
use Rattle.moka_words.specs.declared.words.Word.TheVariants.{Unset, Empty, Live, Tomb, SealedEmpty, SealedLive, SealedTomb}
use Rattle.moka_words.specs.Words.{node_of, stored_in, word_at}
use Rattle.moka_words.specs.Layout.{stored_nodes, placed, all_placed, layout}
use Rattle.moka_growth.specs.Growing.{with_hashes, pairs_placed, laid_out}

-- a word that stores the same
pub stored_set_same : (words : List Word) (i : ℕ) (w : Word) → i < length words → stored_in w ≡ stored_in (word_at words i) →
    stored_nodes (set words i w) ≡ stored_nodes words
stored_set_same [] i w within e = absurd (omega arith)
stored_set_same (x ∷ xs) zero w within e = ap (λ o. option_to_list o ++ stored_nodes xs) e
stored_set_same (x ∷ xs) (suc i) w within e =
    ap (λ ns. option_to_list (stored_in x) ++ ns) (stored_set_same xs i w (omega arith) e)

-- how many are stored after a word was set
pub stored_set_count : (words : List Word) (i : ℕ) (w : Word) → i < length words →
    length (stored_nodes (set words i w)) + length (option_to_list (stored_in (word_at words i)))
    ≡ length (stored_nodes words) + length (option_to_list (stored_in w))
stored_set_count [] i w within = absurd (omega arith)
stored_set_count (x ∷ xs) zero w within =
    let was = length-append (option_to_list (stored_in x)) (stored_nodes xs) in
    let is = length-append (option_to_list (stored_in w)) (stored_nodes xs) in
    omega arith
stored_set_count (x ∷ xs) (suc i) w within =
    let was = length-append (option_to_list (stored_in x)) (stored_nodes xs) in
    let is = length-append (option_to_list (stored_in x)) (stored_nodes (set xs i w)) in
    let rest = stored_set_count xs i w (omega arith) in
    omega arith

-- one word more
pub stored_next : (words : List Word) (i : ℕ) → i < length words →
    stored_nodes (take (suc i) words) ≡ stored_nodes (take i words) ++ option_to_list (stored_in (word_at words i))
stored_next [] i within = absurd (omega arith)
stored_next (x ∷ xs) zero within = by (stored_in x)
  where
    by : (o : Option ℕ) → option_to_list o ++ [] ≡ [] ++ option_to_list o
    by None = refl
    by (Some n) = refl
stored_next (x ∷ xs) (suc i) within =
    ap (λ ns. option_to_list (stored_in x) ++ ns) (stored_next xs i (omega arith)) ∙
    sym (append_assoc (option_to_list (stored_in x)) (stored_nodes (take i xs)) (option_to_list (stored_in (word_at xs i))))

-- a stored node is its bucket's, and has its hash
hash_of_stored : (hash : ℕ → ℕ) (w : Word) (h : ℕ) → h ≡ option_map_or hash (node_of w) 0 →
    option_to_list (option_map (λ n. (n, h)) (stored_in w)) ≡ with_hashes hash (option_to_list (stored_in w))
hash_of_stored hash Unset h e = refl
hash_of_stored hash Empty h e = refl
hash_of_stored hash (Live n) h e = ap (λ x. (n, x) ∷ []) e
hash_of_stored hash (Tomb n) h e = refl
hash_of_stored hash SealedEmpty h e = refl
hash_of_stored hash (SealedLive n) h e = ap (λ x. (n, x) ∷ []) e
hash_of_stored hash (SealedTomb n) h e = refl

pub kept_next : (hash : ℕ → ℕ) (words : List Word) (i : ℕ) (w : Word) (h : ℕ) (kept : List (ℕ × ℕ)) → i < length words →
    word_at words i ≡ w → h ≡ option_map_or hash (node_of w) 0 → kept ≡ with_hashes hash (stored_nodes (take i words)) →
    kept ++ option_to_list (option_map (λ n. (n, h)) (stored_in w)) ≡ with_hashes hash (stored_nodes (take (suc i) words))
kept_next hash words i w h kept within there h_is kept_are =
    ap (λ ps. ps ++ option_to_list (option_map (λ n. (n, h)) (stored_in w))) kept_are ∙
    (ap (λ ps. with_hashes hash (stored_nodes (take i words)) ++ ps) (hash_of_stored hash w h h_is) ∙
    (sym (map-append (λ n. (n, hash n)) (stored_nodes (take i words)) (option_to_list (stored_in w))) ∙
    ap (with_hashes hash)
    (ap (λ v. stored_nodes (take i words) ++ option_to_list (stored_in v)) (sym there) ∙ sym (stored_next words i within))))

-- nodes with their hashes are laid out as the nodes
pairs_as_nodes : (hash : ℕ → ℕ) (words : List Word) (ns : List ℕ) →
    pairs_placed words (with_hashes hash ns) ≡ all_placed hash words ns
pairs_as_nodes hash words [] = refl
pairs_as_nodes hash words (n ∷ ns) = pairs_as_nodes hash (placed hash words n) ns

pub laid_is_layout : (hash : ℕ → ℕ) (words : List Word) (kept : List (ℕ × ℕ)) (size : ℕ) →
    kept ≡ with_hashes hash (stored_nodes words) → laid_out kept size ≡ layout hash words size
laid_is_layout hash words kept size e = ap (λ ps. laid_out ps size) e ∙
    pairs_as_nodes hash (replicate size Empty) (stored_nodes words)
