-- The layout of an array is one.
use Rattle.std.proofs.Common.{◌≡◌, ◌↔◌, ℕ, ◌<◌, ◌≤◌, Bool, true, false, List, [], ◌∷◌, ◌++◌, length, replicate, Option, Some, None, zero, suc, inl, inr, refl, sym, ap, subst, ◌∙◌, arith, set, get_or}
use Rattle.std.specs.Option.{option_to_list}
use Rattle.std.specs.List.{Contains}
use Rattle.std.proofs.lemmas.List.{get_or-replicate, get_or_past, length-replicate}
use Rattle.std.proofs.lemmas.List.Sorted.{IsPermutation-sym, Contains-permutation}
use Rattle.std.proofs.lemmas.Bool.{cases_lt, false≢true}
use Rattle.moka_words.specs.declared.words.Word.{Word}
use Rattle.moka_words.specs.declared.words.Word.TheVariants.{Unset, Empty, Live, Tomb, SealedEmpty, SealedLive, SealedTomb}
use Rattle.moka_words.specs.Words.{node_of, stored_in, is_sealed, word_at, NamesKeys}
use Rattle.moka_words.specs.Arrays.{HasNot, IsReached, IsArray, IsNew}
use Rattle.moka_words.specs.Later.{Later}
use Rattle.moka_words.specs.Layout.{IsStored, stored_nodes, placed, all_placed, layout}
use Rattle.moka_words.proofs.Lasts.{set_cases}
use Rattle.moka_words.proofs.Exchanges.{exchange_keeps_array}
use Rattle.moka_words.proofs.Placing.{IsFilled, free_is_empty, reached_within, placed_cases, placed_filled, empty_filled, layout_has_all}

-- a stored node is one of the stored nodes
pub stored_contains : (words : List Word) (i n : ℕ) → stored_in (word_at words i) ≡ Some n →
    Contains (stored_nodes words) n
stored_contains [] i n e = absurd (cc e)
stored_contains (w ∷ ws) zero n e =
    subst (λ o. Contains (option_to_list o ++ stored_nodes ws) n) (sym e) (0, omega arith, refl)
stored_contains (w ∷ ws) (suc i) n e = by (stored_in w) (stored_contains ws i n e)
  where
    by : (o : Option ℕ) → Contains (stored_nodes ws) n → Contains (option_to_list o ++ stored_nodes ws) n
    by None h = h
    by (Some m) h = (suc h.0, omega arith, h.2)

pub contains_stored : (words : List Word) (n : ℕ) → Contains (stored_nodes words) n → IsStored words n
contains_stored [] n h = absurd (omega arith)
contains_stored (w ∷ ws) n h = by (stored_in w) refl (contains_stored ws n) h
  where
    later : IsStored ws n → IsStored (w ∷ ws) n
    later s = (suc s.0, s.1)

    first : (m : ℕ) → stored_in w ≡ Some m → (Contains (stored_nodes ws) n → IsStored ws n) → (k : ℕ) →
        k < length (m ∷ stored_nodes ws) →
        get_or (m ∷ stored_nodes ws) k n ≡ n → IsStored (w ∷ ws) n
    first m e rest zero below at = (0, e ∙ ap Some at)
    first m e rest (suc k) below at = later (rest (k, omega arith, at))

    by : (o : Option ℕ) → stored_in w ≡ o → (Contains (stored_nodes ws) n → IsStored ws n) →
        Contains (option_to_list o ++ stored_nodes ws) n →
        IsStored (w ∷ ws) n
    by None e rest c = later (rest c)
    by (Some m) e rest c = first m e rest c.0 c.1 c.2

pub layout_stores : (hash : ℕ → ℕ) (words : List Word) (size n : ℕ) → length words ≤ size →
    IsStored words n ↔ IsStored (layout hash words size) n
layout_stores hash words size n room =
    let all = layout_has_all hash words size room in (
      λ s. contains_stored (layout hash words size) n
          (Contains-permutation _ _ n all (stored_contains words s.0 n s.1)),
      λ s. contains_stored words n (Contains-permutation _ _ n (IsPermutation-sym _ _ all)
          (stored_contains (layout hash words size) s.0 n s.1)),
    )

-- P holds of each number
abbrev Each : (P : ℕ → Type 0) → List ℕ → Type 0
Each P [] = Unit {0}
Each P (n ∷ ns) = P n × Each P ns

each_maps : (P Q : ℕ → Type 0) → ((n : ℕ) → P n → Q n) → (ns : List ℕ) → Each P ns → Each Q ns
each_maps P Q f [] h = tt
each_maps P Q f (n ∷ ns) h = (f n h.0, each_maps P Q f ns h.1)

each_both : (P Q R : ℕ → Type 0) → ((n : ℕ) → P n → Q n → R n) → (ns : List ℕ) → Each P ns → Each Q ns → Each R ns
each_both P Q R f [] a b = tt
each_both P Q R f (n ∷ ns) a b = (f n a.0 b.0, each_both P Q R f ns a.1 b.1)

-- what holds of each node that is stored somewhere holds of each stored node
each_stored : (P : ℕ → Type 0) (words : List Word) → ((i n : ℕ) → stored_in (word_at words i) ≡ Some n → P n) →
    Each P (stored_nodes words)
each_stored P [] h = tt
each_stored P (w ∷ ws) h = by (stored_in w) refl (each_stored P ws (λ i n e. h (suc i) n e))
  where
    by : (o : Option ℕ) → stored_in w ≡ o → Each P (stored_nodes ws) → Each P (option_to_list o ++ stored_nodes ws)
    by None e rest = rest
    by (Some n) e rest = (h 0 n e, rest)

-- of these nodes no two have one key
abbrev Differ : (same : ℕ → ℕ → Bool) → List ℕ → Type 0
Differ same [] = Unit {0}
Differ same (n ∷ ns) = Each (λ m. same n m ≡ false) ns × Differ same ns

stored_differ : (same : ℕ → ℕ → Bool) (words : List Word) →
    ((i j n m : ℕ) → stored_in (word_at words i) ≡ Some n → stored_in (word_at words j) ≡ Some m → same n m ≡ true →
    i ≡ j) →
    Differ same (stored_nodes words)
stored_differ same [] one = tt
stored_differ same (w ∷ ws) one = by (stored_in w) refl
    (stored_differ same ws (λ i j n m d e alike. let next = one (suc i) (suc j) n m d e alike in omega arith))
  where
    by : (o : Option ℕ) → stored_in w ≡ o → Differ same (stored_nodes ws) →
        Differ same (option_to_list o ++ stored_nodes ws)
    by None e rest = rest
    by (Some n) e rest = (each_stored (λ m. same n m ≡ false) ws (λ j m d. other j m d (same n m) refl), rest)
      where
        other : (j m : ℕ) → stored_in (word_at ws j) ≡ Some m → (b : Bool) → same n m ≡ b → same n m ≡ false
        other j m d false alike = alike
        other j m d true alike = let never = one 0 (suc j) n m e d alike in absurd (omega arith)

-- a stored node is its bucket's
pub stored_is_key : (w : Word) (n : ℕ) → stored_in w ≡ Some n → node_of w ≡ Some n
stored_is_key w n e = by w e
  where
    by : (v : Word) → stored_in v ≡ Some n → node_of v ≡ Some n
    by Unset h = h
    by Empty h = h
    by (Live m) h = h
    by (Tomb m) h = absurd (cc h)
    by SealedEmpty h = h
    by (SealedLive m) h = h
    by (SealedTomb m) h = absurd (cc h)

module _ (hash : ℕ → ℕ) (same : ℕ → ℕ → Bool) (names : NamesKeys hash same) where
  -- another word for an empty one is later
  empty_later : (w : Word) (n : ℕ) → w ≡ Empty → Later same w (Live n)
  empty_later w n e = record { key = key; set = λ d. absurd (cc d); sealed = sealed }
    where
      key : (m : ℕ) → node_of w ≡ Some m → (k : ℕ) × (Some n ≡ Some k) × (same m k ≡ true)
      key m d = absurd (cc (sym (ap node_of e) ∙ d))

      sealed : is_sealed w ≡ true → Live n ≡ w
      sealed d = absurd (false≢true (sym (ap is_sealed e) ∙ d))

  -- a node whose key the array has not is placed: it stays an array, without the keys that differ from the node's
  placed_array : (words : List Word) (n : ℕ) → IsFilled words → IsArray hash same words → HasNot same words n →
      IsArray hash same (placed hash words n)
  placed_array words n filled array fresh = placed_cases (IsArray hash same) hash words n (λ h. array) free
    where
      free : (i : ℕ) → node_of (word_at words i) ≡ None → IsReached words (hash n) i →
          IsArray hash same (set words i (Live n))
      free i h r =
          let empty = free_is_empty (word_at words i) (filled.each i (reached_within words (hash n) i r)) h in
          exchange_keeps_array hash same words i (Live n) names array (empty_later (word_at words i) n empty)
          (λ m d e. subst (IsNew hash same words i) (cc e) (record { reached = r; absent = fresh }))

  placed_has_not : (words : List Word) (n m : ℕ) → same n m ≡ false → HasNot same words m →
      HasNot same (placed hash words n) m
  placed_has_not words n m other fresh =
      placed_cases (λ ws. HasNot same ws m) hash words n (λ h. fresh)
      (λ i h r j k. set_cases (λ w. node_of w ≡ Some k → same m k ≡ false) words i (Live n) j (fresh j k)
      (λ e d. by k d (same m k) refl))
    where
      by : (k : ℕ) → node_of (Live n) ≡ Some k → (b : Bool) → same m k ≡ b → same m k ≡ false
      by k d false e = e
      by k d true e = absurd (false≢true (sym other ∙ names.either_way m n (subst (λ x. same m x ≡ true) (cc d) e)))

  all_array : (words : List Word) (ns : List ℕ) → IsFilled words → IsArray hash same words → Differ same ns →
      Each (HasNot same words) ns → IsArray hash same (all_placed hash words ns)
  all_array words [] filled array differ fresh = array
  all_array words (n ∷ ns) filled array differ fresh =
      all_array (placed hash words n) ns (placed_filled hash words n filled)
      (placed_array words n filled array fresh.0) differ.1
      (each_both (λ m. same n m ≡ false) (HasNot same words) (HasNot same (placed hash words n))
      (λ m other old. placed_has_not words n m other old) ns differ.0 fresh.1)

  -- an array of empty words has no key
  empty_has : (size i n : ℕ) → node_of (word_at (replicate size Empty) i) ≡ Some n → ⊥
  empty_has size i n e = elim (cases_lt i size) [ inl h ↦ within h | inr h ↦ past h ]
    where
      within : i < size → ⊥
      within h = cc (sym (ap node_of (get_or-replicate size i Empty Unset h)) ∙ e)

      past : size ≤ i → ⊥
      past h = let long = length-replicate size Empty in
          cc (sym (ap node_of (get_or_past (replicate size Empty) i Unset (omega arith))) ∙ e)

  pub layout_array : (words : List Word) (size : ℕ) → IsArray hash same words →
      IsArray hash same (layout hash words size)
  layout_array words size array = all_array (replicate size Empty) (stored_nodes words) (empty_filled size)
      (record {
        one = λ i j n m d e alike. absurd (empty_has size i n d);
        reached =
            λ i n d. absurd (empty_has size i n d);
      })
      (stored_differ same words (λ i j n m d e alike. array.one i j n m (stored_is_key (word_at words i) n d)
      (stored_is_key (word_at words j) m e) alike))
      (each_stored (HasNot same (replicate size Empty)) words (λ i n d j m e. absurd (empty_has size j m e)))

pub layout_is_array : (hash : ℕ → ℕ) (same : ℕ → ℕ → Bool) (words : List Word) (size : ℕ) → NamesKeys hash same →
    IsArray hash same words → length words ≤ size →
    IsArray hash same (layout hash words size) × ((n : ℕ) → IsStored words n ↔ IsStored (layout hash words size) n)
layout_is_array hash same words size names array room =
    (layout_array hash same names words size array, λ n. layout_stores hash words size n room)
