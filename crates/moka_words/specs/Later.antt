-- What lasts of words, whoever exchanges them.
use Rattle.std.specs.Prelude.{◌≡◌, ℕ, ◌<◌, Bool, true, false, List, length, Some}
use Rattle.moka_words.specs.declared.words.Word.{Word}
use Rattle.moka_words.specs.declared.words.Word.TheVariants.{Unset}
use Rattle.moka_words.specs.Words.{node_of, is_sealed, word_at}
use Rattle.moka_words.specs.Arrays.{bucket_at}

-- a word that may stand some time later where the old one stood
pub record Later (same : ℕ → ℕ → Bool) (old new : Word) : Type 0 where
  pub key : (n : ℕ) → node_of old ≡ Some n → (m : ℕ) × (node_of new ≡ Some m) × (same n m ≡ true)
  pub set : new ≡ Unset → old ≡ Unset
  pub sealed : is_sealed old ≡ true → new ≡ old

-- the same of each word of an array
pub record LaterWords (same : ℕ → ℕ → Bool) (old new : List Word) : Type 0 where
  pub length_stays : length new ≡ length old
  pub later : (i : ℕ) → Later same (word_at old i) (word_at new i)

-- `own` says of each node whether it has the call's key
pub record IsOwn (same : ℕ → ℕ → Bool) (own : ℕ → Bool) : Type 0 where
  pub alike : (n m : ℕ) → same n m ≡ true → own n ≡ own m
  pub one : (n m : ℕ) → own n ≡ true → own m ≡ true → same n m ≡ true

-- each node of the call's key that stands in the array was filled under this hash
abbrev pub IsOwnHash : (hash : ℕ → ℕ) (own : ℕ → Bool) → List Word → ℕ → Type 0
IsOwnHash hash own words h =
    (i n : ℕ) → node_of (word_at words i) ≡ Some n → own n ≡ true → hash n ≡ h

-- the bucket has another key than the call's
abbrev pub HasOther : (ℕ → Bool) → Word → Type 0
HasOther own w = (n : ℕ) × (node_of w ≡ Some n) × (own n ≡ false)

-- a probe has passed n buckets, each with another key than the call's
abbrev pub HasPassed : (ℕ → Bool) → List Word → (hash n : ℕ) → Type 0
HasPassed own words hash n =
    (k : ℕ) → k < n → HasOther own (word_at words (bucket_at (length words) hash k))

-- no bucket has the call's key
abbrev pub IsAbsent : (ℕ → Bool) → List Word → Type 0
IsAbsent own words = (i n : ℕ) → node_of (word_at words i) ≡ Some n → own n ≡ false
