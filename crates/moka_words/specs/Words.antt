-- Words, and the nodes that they name.
use Rattle.std.specs.Prelude.{◌≡◌, ℕ, Bool, true, false, List, Option, Some, None, slice_index_or}
use Rattle.moka_words.specs.declared.words.Word.{Word}
use Rattle.moka_words.specs.declared.words.Word.TheVariants.{Unset, Empty, Live, Tomb, SealedEmpty, SealedLive, SealedTomb}

-- the node that the word names; a bucket has that one's key
abbrev pub node_of : Word → Option ℕ
node_of Unset = None
node_of Empty = None
node_of (Live n) = Some n
node_of (Tomb n) = Some n
node_of SealedEmpty = None
node_of (SealedLive n) = Some n
node_of (SealedTomb n) = Some n

-- the node whose key and value are stored in the word
abbrev pub stored_in : Word → Option ℕ
stored_in Unset = None
stored_in Empty = None
stored_in (Live n) = Some n
stored_in (Tomb n) = None
stored_in SealedEmpty = None
stored_in (SealedLive n) = Some n
stored_in (SealedTomb n) = None

-- the word never changes again
abbrev pub is_sealed : Word → Bool
is_sealed Unset = false
is_sealed Empty = false
is_sealed (Live n) = false
is_sealed (Tomb n) = false
is_sealed SealedEmpty = true
is_sealed (SealedLive n) = true
is_sealed (SealedTomb n) = true

-- the word of a bucket
abbrev pub word_at : List Word → ℕ → Word
word_at words i = slice_index_or words i Unset

-- `same` says of two nodes whether they have one key: an equivalence, and nodes of one key have one
-- hash
pub record NamesKeys (hash : ℕ → ℕ) (same : ℕ → ℕ → Bool) : Type 0 where
  pub itself : (n : ℕ) → same n n ≡ true
  pub either_way : (n m : ℕ) → same n m ≡ true → same m n ≡ true
  pub through : (n m k : ℕ) → same n m ≡ true → same m k ≡ true → same n k ≡ true
  pub hashed : (n m : ℕ) → same n m ≡ true → hash n ≡ hash m
