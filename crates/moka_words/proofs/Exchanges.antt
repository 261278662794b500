-- Exchanges keep arrays.
use Rattle.std.proofs.Common.{◌≡◌, ◌⊎◌, ℕ, Bool, true, List, Option, Some, None, inl, inr, refl, sym, ap, subst, ◌∙◌, set}
use Rattle.std.proofs.lemmas.Bool.{false≢true}
use Rattle.moka_words.specs.declared.words.Word.{Word}
use Rattle.moka_words.specs.Words.{node_of, word_at, NamesKeys}
use Rattle.moka_words.specs.Arrays.{IsReached, IsArray, IsNew}
use Rattle.moka_words.specs.Later.{Later}
use Rattle.moka_words.proofs.Lasts.{set_cases, set_later, reached_lasts}

some_same : {n m : ℕ} → Some n ≡ Some m → n ≡ m
some_same e = cc

module _ (hash : ℕ → ℕ) (same : ℕ → ℕ → Bool) (words : List Word) (i : ℕ) (w : Word)
    (names : NamesKeys hash same) (array : IsArray hash same words) (later : Later same (word_at words i) w)
    (new : (n : ℕ) → node_of (word_at words i) ≡ None → node_of w ≡ Some n → IsNew hash same words i n) where
  -- where a key came from that a bucket has after the exchange: it was there, or it is new
  abbrev Before : (j n : ℕ) → Type 0
  Before j n = ((m : ℕ) × (node_of (word_at words j) ≡ Some m) × (same m n ≡ true)) ⊎
      ((j ≡ i) × IsNew hash same words i n)

  before : (j n : ℕ) → node_of (word_at (set words i w) j) ≡ Some n → Before j n
  before j n = set_cases (λ v. node_of v ≡ Some n → Before j n) words i w j (λ e. inl (n, e, names.itself n)) here
    where
      here : j ≡ i → node_of w ≡ Some n → Before j n
      here at e = by (node_of (word_at words i)) refl
        where
          by : (o : Option ℕ) → node_of (word_at words i) ≡ o → Before j n
          by None h = inr (at, new n h e)
          by (Some m) h = let key = later.key m h in
              inl (
                m,
                ap (λ k. node_of (word_at words k)) at ∙ h,
                subst (λ k. same m k ≡ true) (some_same (sym key.1 ∙ e)) key.2,
              )

  one : (j k n m : ℕ) → node_of (word_at (set words i w) j) ≡ Some n → node_of (word_at (set words i w) k) ≡ Some m →
      same n m ≡ true → j ≡ k
  one j k n m d e alike = by (before j n d) (before k m e)
    where
      by : Before j n → Before k m → j ≡ k
      by (inl a) (inl b) = array.one j k a.0 b.0 a.1 b.1
          (names.through a.0 n b.0 a.2 (names.through n m b.0 alike (names.either_way b.0 m b.2)))
      by (inl a) (inr b) = absurd (false≢true
          (sym (b.1.absent j a.0 a.1) ∙ names.either_way a.0 m (names.through a.0 n m a.2 alike)))
      by (inr a) (inl b) = absurd (false≢true
          (sym (a.1.absent k b.0 b.1) ∙ names.through n m b.0 alike (names.either_way b.0 m b.2)))
      by (inr a) (inr b) = a.0 ∙ sym b.0

  reached : (j n : ℕ) → node_of (word_at (set words i w) j) ≡ Some n → IsReached (set words i w) (hash n) j
  reached j n d = reached_lasts same words (set words i w) (set_later same names words i w later) (hash n) j
      (by (before j n d))
    where
      by : Before j n → IsReached words (hash n) j
      by (inl a) = subst (λ h. IsReached words h j) (names.hashed a.0 n a.2) (array.reached j a.0 a.1)
      by (inr a) = subst (λ k. IsReached words (hash n) k) (sym a.0) a.1.reached

  pub exchange_keeps_array : IsArray hash same (set words i w)
  exchange_keeps_array = record { one = one; reached = reached }
