-- Nodes whose keys differ are laid out in the order of their numbers.
use Rattle.std.proofs.Common.{◌≡◌, ℕ, ◌+◌, ◌<◌, Bool, true, false, List, Some, None, zero, suc, sym, ap, subst, ◌∙◌, arith, set}
use Rattle.std.proofs.lemmas.Bool.{false≢true}
use Rattle.std.specs.List.{range_with_len}
use Rattle.moka_words.specs.declared.words.Word.{Word}
use Rattle.moka_words.specs.declared.words.Word.TheVariants.{Empty, Live}
use Rattle.moka_words.specs.Words.{node_of, is_sealed, word_at, NamesKeys}
use Rattle.moka_words.specs.Arrays.{HasNot, IsReached, IsArray, IsNew}
use Rattle.moka_words.specs.Later.{Later}
use Rattle.moka_words.specs.Layout.{placed, all_placed}
use Rattle.moka_words.proofs.Lasts.{set_cases}
use Rattle.moka_words.proofs.Exchanges.{exchange_keeps_array}
use Rattle.moka_words.proofs.Placing.{IsFilled, free_is_empty, reached_within, placed_cases, placed_filled}

-- each node of these words has a number below this one
abbrev pub AreBelow : ℕ → List Word → Type 0
AreBelow n words = (i k : ℕ) → node_of (word_at words i) ≡ Some k → k < n

module _ (hash : ℕ → ℕ) (same : ℕ → ℕ → Bool) (names : NamesKeys hash same) where
  -- a live word in the place of an empty one is later
  live_later : (w : Word) (n : ℕ) → w ≡ Empty → Later same w (Live n)
  live_later w n e = record { key = key; set = λ d. absurd (cc d); sealed = sealed }
    where
      key : (m : ℕ) → node_of w ≡ Some m → (k : ℕ) × (Some n ≡ Some k) × (same m k ≡ true)
      key m d = absurd (cc (sym (ap node_of e) ∙ d))

      sealed : is_sealed w ≡ true → Live n ≡ w
      sealed d = absurd (false≢true (sym (ap is_sealed e) ∙ d))

  one_placed : (words : List Word) (n : ℕ) → IsFilled words → IsArray hash same words → HasNot same words n →
      IsArray hash same (placed hash words n)
  one_placed words n filled array fresh = placed_cases (IsArray hash same) hash words n (λ h. array) free
    where
      free : (i : ℕ) → node_of (word_at words i) ≡ None → IsReached words (hash n) i → IsArray hash same (set words i (Live n))
      free i h r =
          let empty = free_is_empty (word_at words i) (filled.each i (reached_within words (hash n) i r)) h in
          exchange_keeps_array hash same words i (Live n) names array (live_later (word_at words i) n empty)
          (λ m d e. subst (IsNew hash same words i) (cc e) (record { reached = r; absent = fresh }))

  placed_below : (words : List Word) (n : ℕ) → AreBelow n words → AreBelow (n + 1) (placed hash words n)
  placed_below words n below = placed_cases (AreBelow (n + 1)) hash words n (λ h. more)
      (λ i h r j k. set_cases (λ w. node_of w ≡ Some k → k < n + 1) words i (Live n) j (more j k) (λ at. itself k))
    where
      more : AreBelow (n + 1) words
      more i k e = let low = below i k e in omega (arith, low)

      itself : (k : ℕ) → node_of (Live n) ≡ Some k → k < n + 1
      itself k d = let is : n ≡ k = cc d in omega (arith, is)

  -- so many nodes from this number on, if none has the key of one before it
  pub range_array : (n many : ℕ) (words : List Word) → IsFilled words → IsArray hash same words → AreBelow n words →
      ((k m : ℕ) → k < m → m < n + many → same m k ≡ false) → IsArray hash same (all_placed hash words (range_with_len n many))
  range_array n zero words filled array below differ = array
  range_array n (suc many) words filled array below differ =
      range_array (n + 1) many (placed hash words n) (placed_filled hash words n filled)
      (one_placed words n filled array (λ i k e. differ k n (below i k e) (omega arith)))
      (placed_below words n below) (λ k m h w. differ k m h (omega (arith, w)))
