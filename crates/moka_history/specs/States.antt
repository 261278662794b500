-- What the cells of a book hold after some notes, and the memory of each segment.
use Rattle.std.specs.Prelude.{◌≡◌, ℕ, zero, suc, ◌+◌, ◌*◌, ◌==◌, ◌<◌, ltb, Bool, true, false, cond, List, [], ◌∷◌, ◌++◌, map, length, replicate, Option, None, Some, slice_index_or, slice_set, if◌then◌else◌}
use Rattle.std.specs.List.{slice_get, range_with_len}
use Rattle.moka_hist.specs.Finite.{put_at}
use Rattle.moka_words.specs.declared.words.Word.{Word}
use Rattle.moka_words.specs.declared.words.Word.TheVariants.{Unset, Empty}
use Rattle.moka_words.specs.Effect.{Memory}
use Rattle.moka_history.specs.declared.note.Note.{Note}
use Rattle.moka_history.specs.declared.note.Note.TheVariants.{Opened, Announced, Changed, ArrayAnnounced, CellAdded, CellHome, Sealed, ArrayLinked, Copied, Swung}

-- What a cell is: the one by which tickets are drawn; that of a bucket, with its word; that of a
-- ticket, which comes home with the change that is made on the ticket; that of a ticket on which an
-- array is announced, which comes home as the array is linked; one of a row that was added for the
-- array of this ticket; the one that names the array after this one, `no_next` while there is none; or the
-- one that names a segment's root, 0 while that is its first array. A row's cell that is home holds an
-- unset word, which is part of no array until that is linked.
pub data Owner : Type 0 where
  Door : Owner
  Bucket : (word : Word) → Owner
  Ticket : (number : ℕ) (home : Bool) → Owner
  Array : (number : ℕ) (home : Bool) → Owner
  Row : (number : ℕ) (home : Bool) → Owner
  Next : (array to : ℕ) → Owner
  Root : (segment to : ℕ) → Owner

-- what an array is announced for: its segment, how many words it is to have, and the array that it
-- grows, if it isn't the first one
pub record Plan : Type 0 where
  pub segment : ℕ
  pub size : ℕ
  pub grown : Option ℕ

-- the number of segments, the last ticket, the pair of each number, the plan of each ticket on which
-- an array is announced, the cells, by their keys, for each array the keys of its cells, and for each
-- segment the arrays that were linked after its first one, in order, and how many have been its root
pub record State (K V : Type 0) : Type 0 where
  pub segments : ℕ
  pub last : ℕ
  pub pairs : ℕ → Option (K × V)
  pub plans : ℕ → Option Plan
  pub cells : List Owner
  pub arrays : ℕ → List ℕ
  pub links : ℕ → List ℕ
  pub rooted : ℕ → ℕ

-- the word of a cell, if it is that of a bucket
abbrev pub word_of : Owner → Word
word_of Door = Unset
word_of (Bucket w) = w
word_of (Ticket n home) = Unset
word_of (Array n home) = Unset
word_of (Row n home) = Unset
word_of (Next a to) = Unset
word_of (Root i to) = Unset

abbrev pub word_in : List Owner → (key : ℕ) → Word
word_in cells key = word_of (slice_index_or cells key Door)

-- the cell, after a change that was made on this ticket
abbrev pub spent : (ticket : ℕ) → Owner → Owner
spent ticket Door = Door
spent ticket (Bucket w) = Bucket w
spent ticket (Ticket n home) = Ticket n (cond (n == ticket) true home)
spent ticket (Array n home) = Array n home
spent ticket (Row n home) = Row n home
spent ticket (Next a to) = Next a to
spent ticket (Root i to) = Root i to

-- this array is the one that is grown
abbrev pub is_grown : (grown : Option ℕ) → (array : ℕ) → Bool
is_grown None a = false
is_grown (Some g) a = a == g

-- The cell, after the array of this ticket was linked, past the one that it grows: those of its row
-- are buckets of unset words. The one that is to name the array after it is told apart then.
abbrev pub joined : (ticket : ℕ) (grown : Option ℕ) → Owner → Owner
joined ticket grown Door = Door
joined ticket grown (Bucket w) = Bucket w
joined ticket grown (Ticket n home) = Ticket n home
joined ticket grown (Array n home) = Array n (cond (n == ticket) true home)
joined ticket grown (Row n false) = Row n false
joined ticket grown (Row n true) = cond (n == ticket) (Bucket Unset) (Row n true)
joined ticket grown (Next a to) = Next a (cond (is_grown grown a) ticket to)
joined ticket grown (Root i to) = Root i to

-- the cell, after the root of a segment became this array
abbrev pub swung : (segment to : ℕ) → Owner → Owner
swung segment to Door = Door
swung segment to (Bucket w) = Bucket w
swung segment to (Ticket n home) = Ticket n home
swung segment to (Array n home) = Array n home
swung segment to (Row n home) = Row n home
swung segment to (Next a t) = Next a t
swung segment to (Root i t) = Root i (cond (i == segment) to t)

-- by which number a segment's root is named: its first array by 0
abbrev pub root_number : (segment array : ℕ) → ℕ
root_number segment array = cond (array == suc segment) 0 array

-- by which number no array is named after this one of the segment: a cell of the opening holds 0, and one
-- that was added 1
abbrev pub no_next : (segment array : ℕ) → ℕ
no_next segment array = cond (array == suc segment) 0 1

-- the keys of an array's cells, as a table is opened: those of the first array come after the door,
-- and those of each other one after the array before
abbrev pub first_keys : (segments length array : ℕ) → List ℕ
first_keys segments length zero = []
first_keys segments length (suc i) =
    if ltb i segments then range_with_len (1 + i * length) length else []

-- the cells that name the array after the first one of each segment: no array so far
abbrev pub first_nexts : (segments : ℕ) → List Owner
first_nexts segments = map (λ i. Next (suc i) 0) (range_with_len 0 segments)

-- the cells that name the root of each segment: its first array
abbrev pub first_roots : (segments : ℕ) → List Owner
first_roots segments = map (λ i. Root i 0) (range_with_len 0 segments)

-- the memory, where the next array gets this number
abbrev pub numbered : (fresh : ℕ) → Memory → Memory
numbered fresh m = record m { fresh = fresh }

module _ {K V : Type 0} where
  -- before a table was opened
  abbrev pub unopened : State K V
  unopened =
      record {
        segments = 0;
        last = 0;
        pairs = λ n. None;
        plans = λ n. None;
        cells = [];
        arrays = λ a. [];
        links = λ i. [];
        rooted = λ i. 0;
      }

  -- the words of an array, and the key of one's cell
  abbrev pub words_in : State K V → (array : ℕ) → List Word
  words_in s array = map (word_in s.cells) (s.arrays array)

  abbrev pub key_at : State K V → (array index : ℕ) → ℕ
  key_at s array index = slice_index_or (s.arrays array) index 0

  -- the arrays of the segment of this number, from 0 on: its first one is the next number, and then come
  -- those that were linked
  abbrev pub chain : State K V → (segment : ℕ) → List ℕ
  chain s segment = suc segment ∷ s.links segment

  -- The memory of that segment. Tombstones and keys aren't counted.
  abbrev pub memory_of : State K V → (segment : ℕ) → Memory
  memory_of s segment =
      record {
        words = words_in s;
        arrays = chain s segment;
        rooted = s.rooted segment;
        fresh = suc s.last;
        tombstones = λ a. 0;
        len = 0;
      }

  -- each cell that an array has is there, and no two places of arrays have one cell
  pub record IsPlaced (s : State K V) : Type 0 where
    pub within : (a i k : ℕ) → slice_get (s.arrays a) i ≡ Some k → k < length s.cells
    pub one : (a b i j k : ℕ) → slice_get (s.arrays a) i ≡ Some k →
        slice_get (s.arrays b) j ≡ Some k → (a ≡ b) × (i ≡ j)

module _ {K V S : Type 0} where
  -- the state after one more note
  abbrev pub after : State K V → Note K V S → State K V
  after s (Opened segments length hasher) =
      record {
        segments = segments;
        last = segments;
        pairs = λ n. None;
        plans = λ n. None;
        cells =
            Door ∷ (replicate (segments * length) (Bucket Empty)
            ++ (first_nexts segments ++ first_roots segments));
        arrays = first_keys segments length;
        links = λ i. [];
        rooted = λ i. 1;
      }
  after s (Announced ticket pair) =
      record s {
        last = ticket;
        pairs = put_at s.pairs ticket pair;
        cells = s.cells ++ Ticket ticket false ∷ [];
      }
  after s (Changed ticket array index to) =
      record s {
        cells = map (spent ticket) (slice_set s.cells (key_at s array index) (Bucket to));
      }
  after s (ArrayAnnounced ticket segment length grown) =
      record s {
        last = ticket;
        plans = put_at s.plans ticket
            (Some (record { segment = segment; size = length; grown = grown }));
        cells = s.cells ++ Array ticket false ∷ [];
      }
  after s (CellAdded ticket) = record s { cells = s.cells ++ Row ticket false ∷ [] }
  after s (CellHome ticket cell) = record s { cells = slice_set s.cells cell (Row ticket true) }
  after s (Sealed array index to) =
      record s { cells = slice_set s.cells (key_at s array index) (Bucket to) }
  after s (ArrayLinked ticket segment grown keys behind) =
      record s {
        cells = slice_set (map (joined ticket grown) s.cells) behind (Next ticket 1);
        arrays = put_at s.arrays ticket keys;
        links = put_at s.links segment (s.links segment ++ ticket ∷ []);
      }
  after s (Copied array index to) =
      record s { cells = slice_set s.cells (key_at s array index) (Bucket to) }
  after s (Swung segment from to) =
      record s {
        cells = map (swung segment to) s.cells;
        rooted = put_at s.rooted segment (suc (s.rooted segment));
      }
