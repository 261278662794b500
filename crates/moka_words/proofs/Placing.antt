-- Nodes placed one after the other, and how many stand in the end.
use Rattle.std.proofs.Common.{◌≡◌, ℕ, ◌+◌, ◌<◌, ◌≤◌, List, [], ◌∷◌, ◌++◌, length, replicate, Option, Some, None, IsSome, MatchOption, zero, suc, inl, inr, refl, sym, ap, subst, ◌∙◌, arith, set}
use Rattle.std.specs.Option.{option_to_list, option_map_or}
use Rattle.std.specs.List.Sorted.{IsPermutation}
use Rattle.std.proofs.lemmas.List.{get_or-replicate, length-set, length-replicate, append-nil}
use Rattle.std.proofs.lemmas.List.Sorted.{IsPermutation-refl, IsPermutation-sym, IsPermutation-trans, IsPermutation-append_left, IsPermutation-append_right, IsPermutation-middle, length_permutation}
use Rattle.std.proofs.lemmas.Nat.{mod_below}
use Rattle.moka_words.specs.declared.words.Word.{Word}
use Rattle.moka_words.specs.declared.words.Word.TheVariants.{Unset, Empty, Live}
use Rattle.moka_words.specs.Words.{node_of, stored_in, word_at}
use Rattle.moka_words.specs.Arrays.{IsReached, first_free}
use Rattle.moka_words.specs.Layout.{IsEmptyOrLive, stored_nodes, placed, all_placed, layout}
use Rattle.moka_words.proofs.Lasts.{has_some, set_cases}
use Rattle.moka_words.proofs.Probes.{first_free_reached}

-- each word is empty or live
pub record IsFilled (words : List Word) : Type 0 where
  pub each : (i : ℕ) → i < length words → IsEmptyOrLive (word_at words i)

-- a word that is empty or live has its key stored, and one without a key is empty
stored_as_key : (w : Word) → IsEmptyOrLive w → stored_in w ≡ node_of w
stored_as_key w (inl e) = ap stored_in e ∙ sym (ap node_of e)
stored_as_key w (inr e) = ap stored_in e.1 ∙ sym (ap node_of e.1)

pub free_is_empty : (w : Word) → IsEmptyOrLive w → node_of w ≡ None → w ≡ Empty
free_is_empty w (inl e) h = e
free_is_empty w (inr e) h = absurd (cc (sym (ap node_of e.1)))

-- what a probe comes to is a bucket
pub reached_within : (words : List Word) (hash i : ℕ) → IsReached words hash i → i < length words
reached_within words hash i r = subst (λ k. k < length words) r.1.there
    (mod_below (hash + r.0) (length words) (let below = r.1.within in omega arith))

-- a live word stands where none was stored: one more node is stored
pub one_more : (words : List Word) (i n : ℕ) → i < length words → stored_in (word_at words i) ≡ None →
    IsPermutation (n ∷ stored_nodes words) (stored_nodes (set words i (Live n)))
one_more [] i n h e = absurd (omega arith)
one_more (w ∷ ws) zero n h e = subst
    (λ o. IsPermutation (n ∷ (option_to_list o ++ stored_nodes ws)) (n ∷ stored_nodes ws)) (sym e)
    (IsPermutation-refl (n ∷ stored_nodes ws))
one_more (w ∷ ws) (suc i) n h e =
    let old = option_to_list (stored_in w) in
    IsPermutation-trans _ _ _ (IsPermutation-sym _ _ (IsPermutation-middle old n (stored_nodes ws)))
    (IsPermutation-append_right old _ _ (one_more ws i n (omega arith) e))

-- where every bucket has a stored node, there are as many nodes as buckets
pub all_stored : (words : List Word) → ((i : ℕ) → i < length words → IsSome (stored_in (word_at words i))) →
    length (stored_nodes words) ≡ length words
all_stored [] h = refl
all_stored (w ∷ ws) h =
    let first = has_some (stored_in w) (h 0 (omega arith)) in
    let rest = all_stored ws (λ i below. h (suc i) (omega arith)) in
    ap (λ o. length (option_to_list o ++ stored_nodes ws)) first.1 ∙ ap suc rest

-- an array with a node placed in it: as it was, where every bucket has a key; and else with the node in a free bucket
pub placed_cases : (P : List Word → Type 0) (hash : ℕ → ℕ) (words : List Word) (n : ℕ) →
    (((i : ℕ) → i < length words → IsSome (node_of (word_at words i))) → P words) →
    ((i : ℕ) → node_of (word_at words i) ≡ None → IsReached words (hash n) i → P (set words i (Live n))) →
    P (placed hash words n)
placed_cases P hash words n full free = by (first_free words (hash n)) (first_free_reached words (hash n))
  where
    by : (o : Option ℕ) → MatchOption o ((i : ℕ) → i < length words → IsSome (node_of (word_at words i)))
        (λ i. (node_of (word_at words i) ≡ None) × IsReached words (hash n) i) →
        P (option_map_or (λ i. set words i (Live n)) o words)
    by None h = full h
    by (Some i) h = free i h.0 h.1

-- a placed node leaves the length, and words that are empty or live
pub placed_length : (hash : ℕ → ℕ) (words : List Word) (n : ℕ) → length (placed hash words n) ≡ length words
placed_length hash words n = placed_cases (λ ws. length ws ≡ length words) hash words n (λ h. refl)
    (λ i h r. length-set words i (Live n))

pub set_filled : (words : List Word) (i n : ℕ) → IsFilled words → IsFilled (set words i (Live n))
set_filled words i n filled = record {
  each =
      λ j h. set_cases IsEmptyOrLive words i (Live n) j
      (filled.each j (subst (λ l. j < l) (length-set words i (Live n)) h)) (λ e. inr (n, refl));
}

pub placed_filled : (hash : ℕ → ℕ) (words : List Word) (n : ℕ) → IsFilled words → IsFilled (placed hash words n)
placed_filled hash words n filled =
    placed_cases IsFilled hash words n (λ h. filled) (λ i h r. set_filled words i n filled)

-- where there are fewer stored nodes than buckets, a node that is placed is stored
pub placed_more : (hash : ℕ → ℕ) (words : List Word) (n : ℕ) → IsFilled words →
    length (stored_nodes words) < length words →
    IsPermutation (n ∷ stored_nodes words) (stored_nodes (placed hash words n))
placed_more hash words n filled room =
    placed_cases (λ ws. IsPermutation (n ∷ stored_nodes words) (stored_nodes ws)) hash words n full free
  where
    same : (i : ℕ) → i < length words → stored_in (word_at words i) ≡ node_of (word_at words i)
    same i h = stored_as_key (word_at words i) (filled.each i h)

    full : ((i : ℕ) → i < length words → IsSome (node_of (word_at words i))) →
        IsPermutation (n ∷ stored_nodes words) (stored_nodes words)
    full h = let count = all_stored words (λ i below. subst (λ o. IsSome o) (sym (same i below)) (h i below)) in
        absurd (omega arith)

    free : (i : ℕ) → node_of (word_at words i) ≡ None → IsReached words (hash n) i →
        IsPermutation (n ∷ stored_nodes words) (stored_nodes (set words i (Live n)))
    free i h r = let within = reached_within words (hash n) i r in one_more words i n within (same i within ∙ h)

-- the same of nodes placed one after the other
pub all_length : (hash : ℕ → ℕ) (words : List Word) (ns : List ℕ) → length (all_placed hash words ns) ≡ length words
all_length hash words [] = refl
all_length hash words (n ∷ ns) = all_length hash (placed hash words n) ns ∙ placed_length hash words n

pub all_filled : (hash : ℕ → ℕ) (words : List Word) (ns : List ℕ) → IsFilled words →
    IsFilled (all_placed hash words ns)
all_filled hash words [] filled = filled
all_filled hash words (n ∷ ns) filled = all_filled hash (placed hash words n) ns (placed_filled hash words n filled)

pub all_more : (hash : ℕ → ℕ) (words : List Word) (ns : List ℕ) → IsFilled words →
    length (stored_nodes words) + length ns ≤ length words →
    IsPermutation (stored_nodes words ++ ns) (stored_nodes (all_placed hash words ns))
all_more hash words [] filled room =
    subst (λ xs. IsPermutation xs (stored_nodes words)) (sym (append-nil (stored_nodes words)))
    (IsPermutation-refl (stored_nodes words))
all_more hash words (n ∷ ns) filled room =
    let more = placed_more hash words n filled (omega arith) in
    let count = length_permutation _ _ more in
    let long = placed_length hash words n in
    IsPermutation-trans _ _ _ (IsPermutation-middle (stored_nodes words) n ns)
    (IsPermutation-trans _ _ _ (IsPermutation-append_left ns _ _ more)
    (all_more hash (placed hash words n) ns (placed_filled hash words n filled) (omega arith)))

-- an array of empty words
pub empty_filled : (size : ℕ) → IsFilled (replicate size Empty)
empty_filled size = record {
  each =
      λ i h. inl (get_or-replicate size i Empty Unset (subst (λ l. i < l) (length-replicate size Empty) h));
}

pub empty_stores : (size : ℕ) → stored_nodes (replicate size Empty) ≡ []
empty_stores zero = refl
empty_stores (suc size) = empty_stores size

-- an array stores at most as many nodes as it has buckets
pub stored_within : (words : List Word) → length (stored_nodes words) ≤ length words
stored_within [] = omega arith
stored_within (w ∷ ws) = by (stored_in w) (stored_within ws)
  where
    by : (o : Option ℕ) → length (stored_nodes ws) ≤ length ws →
        length (option_to_list o ++ stored_nodes ws) ≤ suc (length ws)
    by None h = omega arith
    by (Some n) h = omega arith

pub layout_length : (hash : ℕ → ℕ) (words : List Word) (size : ℕ) → length (layout hash words size) ≡ size
layout_length hash words size = all_length hash (replicate size Empty) (stored_nodes words) ∙
    length-replicate size Empty

pub layout_filled : (hash : ℕ → ℕ) (words : List Word) (size : ℕ) → IsFilled (layout hash words size)
layout_filled hash words size = all_filled hash (replicate size Empty) (stored_nodes words) (empty_filled size)

-- where there is room for the stored nodes, each gets a place
pub layout_has_stored : (hash : ℕ → ℕ) (words : List Word) (size : ℕ) → length (stored_nodes words) ≤ size →
    IsPermutation (stored_nodes words) (stored_nodes (layout hash words size))
layout_has_stored hash words size room =
    let none = empty_stores size in
    let count = ap (λ xs. length xs) none in
    let long = length-replicate size Empty in
    subst (λ xs. IsPermutation (xs ++ stored_nodes words) (stored_nodes (layout hash words size))) none
    (all_more hash (replicate size Empty) (stored_nodes words) (empty_filled size) (omega arith))

pub layout_has_all : (hash : ℕ → ℕ) (words : List Word) (size : ℕ) → length words ≤ size →
    IsPermutation (stored_nodes words) (stored_nodes (layout hash words size))
layout_has_all hash words size room =
    let within = stored_within words in layout_has_stored hash words size (omega arith)

pub layout_is_filled : (hash : ℕ → ℕ) (words : List Word) (size : ℕ) →
    (length (layout hash words size) ≡ size) × ((i : ℕ) → i < size →
    IsEmptyOrLive (word_at (layout hash words size) i))
layout_is_filled hash words size =
    let long = layout_length hash words size in
    (long, λ i h. (layout_filled hash words size).each i (subst (λ l. i < l) (sym long) h))
