-- Segments that begin.
use Rattle.std.proofs.Common.{◌≡◌, ◌≢◌, ℕ, ◌<◌, ◌≤◌, Bool, true, false, [], ◌∷◌, length, replicate, Option, Some, None, zero, suc, inl, inr, refl, sym, ap, subst, ◌∙◌, arith}
use Rattle.std.specs.Int.{IsPowerOfTwo}
use Rattle.std.specs.List.{slice_get}
use Rattle.std.specs.List.Sorted.{IsPermutation}
use Rattle.std.proofs.lemmas.Bool.{cases_lt}
use Rattle.std.proofs.lemmas.List.{get_or-replicate, length-replicate, get_or_past}
use Rattle.std.proofs.lemmas.List.Sorted.{IsPermutation-sym, Contains-permutation}
use Rattle.moka_words.specs.declared.words.Word.TheVariants.{Unset, Empty}
use Rattle.moka_words.specs.Words.{node_of, stored_in, is_sealed, word_at, NamesKeys}
use Rattle.moka_words.specs.Layout.{IsEmptyOrLive, IsStored, stored_nodes, layout}
use Rattle.moka_words.specs.Effect.{Memory, array_at, root, words_of}
use Rattle.moka_words.proofs.Laying.{layout_array, stored_contains, contains_stored, stored_is_key}
use Rattle.moka_words.proofs.Placing.{layout_has_stored, layout_is_filled, layout_length}
use Rattle.moka_growth.specs.Sound.{IsRoot, IsSound}
use Rattle.moka_growth.specs.Fits.{HasBeenRoot}
use Rattle.moka_growth.specs.Maps.{present_nodes}
use Rattle.moka_growth.proofs.Places.{same_number, root_at, unsealed_in_root}
use Rattle.moka_growth.proofs.Copying.{root_is_array}

no_array : {a : ℕ} → None ≡ Some a → ⊥
no_array e = cc

pub none_is_sound : (hash : ℕ → ℕ) (same : ℕ → ℕ → Bool) (mine : ℕ → Bool) (m : Memory) → m.arrays ≡ [] → m.rooted ≡ 0 →
    IsSound hash same mine m
none_is_sound hash same mine m none rooted =
    let count : length m.arrays ≡ 0 = ap (λ xs. length xs) none in
    record {
      one = λ p q a d e. absurd (empty p a d);
      numbered = λ p a d. absurd (empty p a d);
      power = λ p a d. absurd (empty p a d);
      linked = omega arith;
      waits = omega arith;
      left = λ p a h d. absurd (empty p a d);
      roots = λ p a h d. absurd (empty p a d);
      follows = λ a d. absurd (empty m.rooted a d);
    }
  where
    empty : (p a : ℕ) → array_at m p ≡ Some a → ⊥
    empty p a d = no_array (ap (λ xs. slice_get xs p) (sym none) ∙ d)

pub one_is_sound : (hash : ℕ → ℕ) (same : ℕ → ℕ → Bool) (mine : ℕ → Bool) (m : Memory) (a : ℕ) → m.arrays ≡ a ∷ [] → m.rooted ≡ 1 →
    a < m.fresh → IsPowerOfTwo (length (m.words a)) → IsRoot hash same mine (m.words a) → IsSound hash same mine m
one_is_sound hash same mine m a one rooted given power is_root =
    let count : length m.arrays ≡ 1 = ap (λ xs. length xs) one in
    record {
      one = λ p q b d e. (at p b d).0 ∙ sym (at q b e).0;
      numbered = λ p b d. let is = (at p b d).1 in omega arith;
      power = λ p b d. subst (λ x. IsPowerOfTwo (length (m.words x))) (sym (at p b d).1) power;
      linked = omega arith;
      waits = omega arith;
      left = λ p b h d. absurd (omega arith);
      roots = λ p b h d. subst (λ x. IsRoot hash same mine (m.words x)) (sym (at p b d).1) is_root;
      follows = λ b d. let is = (at m.rooted b d).0 in absurd (omega arith);
    }
  where
    by : (p b : ℕ) → slice_get (a ∷ []) p ≡ Some b → (p ≡ 0) × (b ≡ a)
    by zero b d = (refl, sym (same_number d))
    by (suc p) b d = absurd (no_array d)

    at : (p b : ℕ) → array_at m p ≡ Some b → (p ≡ 0) × (b ≡ a)
    at p b d = by p b (ap (λ xs. slice_get xs p) (sym one) ∙ d)

-- words that are empty, or unset past the end
empty_word : (size i : ℕ) → node_of (word_at (replicate size Empty) i) ≡ None
empty_word size i = elim (cases_lt i size) [
  | inl h ↦ ap node_of (get_or-replicate size i Empty Unset h)
  | inr h ↦ let long = length-replicate size Empty in ap node_of (get_or_past (replicate size Empty) i Unset (omega arith))
]

no_node : {o : Option ℕ} {n : ℕ} → o ≡ None → o ≡ Some n → ⊥
no_node d e = cc

pub empty_is_root : (hash : ℕ → ℕ) (same : ℕ → ℕ → Bool) (mine : ℕ → Bool) (size : ℕ) → IsRoot hash same mine (replicate size Empty)
empty_is_root hash same mine size = record {
  array = record {
    one = λ i j n m d e alike. absurd (no_node (empty_word size i) d);
    reached = λ i n d. absurd (no_node (empty_word size i) d);
  };
  set = λ i h d. cc (sym (get_or-replicate size i Empty Unset (subst (λ l. i < l) (length-replicate size Empty) h)) ∙ d);
  keys = λ i n d. absurd (no_node (empty_word size i) d);
}

pub laid_is_root : (hash : ℕ → ℕ) (same : ℕ → ℕ → Bool) (mine : ℕ → Bool) (m : Memory) (size : ℕ) → NamesKeys hash same →
    IsSound hash same mine m → length (present_nodes m) ≤ size →
    IsRoot hash same mine (layout hash (words_of m (root m)) size)
    × IsPermutation (present_nodes m) (stored_nodes (layout hash (words_of m (root m)) size))
laid_is_root hash same mine m size names sound room = (
  record {
    array = layout_array hash same names (words_of m (root m)) size (root_is_array m sound).0;
    set = λ i h. unset i (filled i h);
    keys = keys_laid;
  },
  all,
)
  where
    all : IsPermutation (present_nodes m) (stored_nodes (layout hash (words_of m (root m)) size))
    all = layout_has_stored hash (words_of m (root m)) size room

    filled : (i : ℕ) → i < length (layout hash (words_of m (root m)) size) →
        IsEmptyOrLive (word_at (layout hash (words_of m (root m)) size) i)
    filled i h = (layout_is_filled hash (words_of m (root m)) size).1 i (subst (λ l. i < l) (layout_length hash (words_of m (root m)) size) h)

    unset : (i : ℕ) → IsEmptyOrLive (word_at (layout hash (words_of m (root m)) size) i) →
        word_at (layout hash (words_of m (root m)) size) i ≢ Unset
    unset i (inl e) = λ d. cc (sym e ∙ d)
    unset i (inr e) = λ d. cc (sym e.1 ∙ d)

    stored : (i n : ℕ) → IsEmptyOrLive (word_at (layout hash (words_of m (root m)) size) i) →
        node_of (word_at (layout hash (words_of m (root m)) size) i) ≡ Some n →
        stored_in (word_at (layout hash (words_of m (root m)) size) i) ≡ Some n
    stored i n (inl e) d = absurd (cc (sym (ap node_of e) ∙ d))
    stored i n (inr e) d = ap stored_in e.1 ∙ (sym (ap node_of e.1) ∙ d)

    keys_laid : (i n : ℕ) → node_of (word_at (layout hash (words_of m (root m)) size) i) ≡ Some n → mine n ≡ true
    keys_laid i n e = elim (cases_lt i (length (layout hash (words_of m (root m)) size))) [
      | inl h ↦ let was : IsStored (words_of m (root m)) n = contains_stored (words_of m (root m)) n
          (Contains-permutation (stored_nodes (layout hash (words_of m (root m)) size)) (present_nodes m) n
          (IsPermutation-sym (present_nodes m) (stored_nodes (layout hash (words_of m (root m)) size)) all)
          (stored_contains (layout hash (words_of m (root m)) size) i n (stored i n (filled i h) e))) in
          (root_is_array m sound).1 was.0 n (stored_is_key (word_at (words_of m (root m)) was.0) n was.1)
      | inr h ↦ absurd (cc (sym (ap node_of (get_or_past (layout hash (words_of m (root m)) size) i Unset h)) ∙ e))
    ]

pub unsealed_is_roots : (hash : ℕ → ℕ) (same : ℕ → ℕ → Bool) (mine : ℕ → Bool) (m : Memory) (a i : ℕ) → IsSound hash same mine m →
    HasBeenRoot m a → i < length (m.words a) → is_sealed (word_at (m.words a) i) ≡ false → root m ≡ Some a
unsealed_is_roots hash same mine m a i sound r within bare = root_at m r.place (unsealed_in_root m sound a i r within bare) ∙ r.there
