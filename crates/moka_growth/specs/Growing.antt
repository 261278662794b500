-- How an array is left for a new one.
use Rattle.std.specs.Prelude.{◌≡◌, ℕ, ◌*◌, ◌<◌, true, nat_lt, List, [], ◌∷◌, map, length, replicate, Option, Some, None, if◌then◌else◌}
use Rattle.moka_words.specs.declared.words.Word.{Word}
use Rattle.moka_words.specs.declared.words.Word.TheVariants.{Unset, Empty, Live, Tomb, SealedEmpty, SealedLive, SealedTomb}
use Rattle.moka_words.specs.Words.{is_sealed, word_at}
use Rattle.moka_words.specs.Layout.{placed}

-- the word sealed
abbrev pub seal_of : Word → Word
seal_of Unset = SealedEmpty
seal_of Empty = SealedEmpty
seal_of (Live n) = SealedLive n
seal_of (Tomb n) = SealedTomb n
seal_of SealedEmpty = SealedEmpty
seal_of (SealedLive n) = SealedLive n
seal_of (SealedTomb n) = SealedTomb n

-- each word is sealed
abbrev pub IsSealed : List Word → Type 0
IsSealed words = (i : ℕ) → i < length words → is_sealed (word_at words i) ≡ true

-- how long the array is that follows one of this size with so many stored nodes; 128 where none
-- came before
abbrev pub next_size : (before : Option ℕ) (size stored : ℕ) → ℕ
next_size None size stored = 128
next_size (Some a) size stored = if nat_lt (7 * size) (10 * stored) then 2 * size else size

-- nodes with their hashes
abbrev pub with_hashes : (ℕ → ℕ) → List ℕ → List (ℕ × ℕ)
with_hashes hash nodes = map (λ n. (n, hash n)) nodes

-- nodes with their hashes, placed one after the other
abbrev pub pairs_placed : List Word → List (ℕ × ℕ) → List Word
pairs_placed words [] = words
pairs_placed words (p ∷ ps) = pairs_placed (placed (λ n. p.1) words p.0) ps

-- the array of this size in which they stand, and nothing else
abbrev pub laid_out : List (ℕ × ℕ) → (size : ℕ) → List Word
laid_out pairs size = pairs_placed (replicate size Empty) pairs
