-- What contracts see of a table, and what its parts keep.
use Rattle.std.specs.Prelude.{◌≡◌, ℕ, ◌+◌, ◌*◌, ◌^◌, ◌<◌, ◌≤◌, true, List, [], ◌∷◌, length, Some}
use Rattle.std.specs.Int.{IsPowerOfTwo}
use Rattle.std.specs.List.{slice_get}
use Rattle.logbook.specs.Pages.{Book, Named}
use Rattle.moka_history.specs.declared.note.Note.{Note}
use Rattle.moka_history.specs.declared.note.Note.TheVariants.{Opened}

-- its hash builder, the number of its segments, how many words the array of each has, and the book
pub record Table (S : Type 0) : Type 0 where
  pub hasher : S
  pub segments : ℕ
  pub size : ℕ
  pub book : Book

-- the names of a book
abbrev pub names_of : Book → List ℕ
names_of b = b.number ∷ b.log_name ∷ b.cells_name ∷ []

-- the word of a book under this key
abbrev pub word_named : Book → ℕ → Named
word_named b key = record { tracked = true; key = key; book = b }

-- so many words of the book, under the keys from the first one on
pub record AreWords (b : Book) (first count : ℕ) (words : List Named) : Type 0 where
  pub count_is : length words ≡ count
  pub each : (i : ℕ) (w : Named) → slice_get words i ≡ Some w → w ≡ word_named b (first + i)

-- The table's book begins with its note, its door is the first word, the next are the buckets, then
-- comes for each segment the word that names the array after its first one, then for each the word that
-- names its root, and its shelf is for its nodes.
pub record IsTable {K V S : Type 0} (t : Table S) (start : List (Note K V S)) (door : Named)
    (buckets nexts roots : List Named) (owner : List ℕ) : Type 0 where
  pub begun : start ≡ Opened t.segments t.size t.hasher ∷ []
  pub some : 0 < t.segments
  pub power : IsPowerOfTwo t.size
  pub short : t.size ≤ 2 ^ 60
  pub door_is : door ≡ word_named t.book 0
  pub buckets_are : AreWords t.book 1 (t.segments * t.size) buckets
  pub nexts_are : AreWords t.book (1 + t.segments * t.size) t.segments nexts
  pub roots_are : AreWords t.book (1 + t.segments * t.size + t.segments) t.segments roots
  pub owner_is : owner ≡ names_of t.book
