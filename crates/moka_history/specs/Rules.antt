-- The rule of a table's book: what its cells and its log keep.
use Rattle.std.specs.Prelude.{◌≡◌, ◌↔◌, ◌⊎◌, ℕ, suc, ◌^◌, ◌==◌, ◌<◌, ◌≤◌, Bool, true, false, cond, List, [], ◌∷◌, map, length, Option, Some, None, IsSome, zero, slice_index_or}
use Rattle.std.specs.List.{slice_get}
use mathlib.Core.List.{IsPrefix}
use Rattle.logbook.specs.Pages.{Cell}
use Rattle.moka_hist.specs.Finite.{times}
use Rattle.moka_words.specs.declared.words.Word.{Word}
use Rattle.moka_words.specs.Words.{is_sealed, node_of, word_at}
use Rattle.moka_growth.specs.Fits.{HasBeenRoot}
use Rattle.moka_pairs.specs.Keys.{Agrees}
use Rattle.moka_pairs.specs.Pairs.{segment_keys, map_of}
use Rattle.moka_pairs.specs.Segments.{SoundAll, LaterAll}
use Rattle.moka_history.specs.declared.note.Note.{Note}
use Rattle.moka_history.specs.declared.note.Note.TheVariants.{Opened, Sealed}
use Rattle.moka_history.specs.Entries.{Entry, IsLegal, map_after}
use Rattle.moka_history.specs.States.{Door, Bucket, Ticket, Array, Row, Next, Root, Owner, Plan, State, IsPlaced, chain, memory_of, no_next, words_in}
use Rattle.moka_history.specs.Logs.{entries_of, state_of}
use Rattle.moka_history.specs.Cells.{cells_of}

module _ {K V : Type 0} where
  -- how many entries were made on the ticket
  abbrev pub made_on : (ticket : ℕ) → List (Entry K V) → ℕ
  made_on ticket es = times ticket (map (λ e. e.ticket) es)

  -- one cell an owner: the door is the first one, each place of an array has a bucket of its own,
  -- each ticket at most one cell, at most one names the array after another, and at most one the root of
  -- a segment. So no array has the cell of a row that is being made.
  pub record IsOwned (s : State K V) : Type 0 where
    pub door : (k : ℕ) → slice_get s.cells k ≡ Some Door ↔ (k ≡ 0)
    pub buckets : (a i k : ℕ) → slice_get (s.arrays a) i ≡ Some k →
        (w : Word) × (slice_get s.cells k ≡ Some (Bucket w))
    pub places : IsPlaced s
    pub tickets : (j k n : ℕ) (b c : Bool) → slice_get s.cells j ≡ Some (Ticket n b) →
        slice_get s.cells k ≡ Some (Ticket n c) → j ≡ k
    pub arrays : (j k n : ℕ) (b c : Bool) → slice_get s.cells j ≡ Some (Array n b) →
        slice_get s.cells k ≡ Some (Array n c) → j ≡ k
    pub nexts : (j k a t u : ℕ) → slice_get s.cells j ≡ Some (Next a t) →
        slice_get s.cells k ≡ Some (Next a u) → j ≡ k
    pub roots : (j k i t u : ℕ) → slice_get s.cells j ≡ Some (Root i t) →
        slice_get s.cells k ≡ Some (Root i u) → j ≡ k

  -- Tickets rise to the last one, which is at most 2^60: no later one has a cell, a pair or an
  -- entry, and none has a plan. At most one entry was made on a ticket: on one whose cell is home, and
  -- not before. An array's ticket has a plan, and each row is for a ticket that has one.
  pub record IsDrawn (s : State K V) (es : List (Entry K V)) : Type 0 where
    pub first : s.segments ≤ s.last
    pub last : s.last ≤ 2 ^ 60
    pub cells : (k n : ℕ) (home : Bool) → slice_get s.cells k ≡ Some (Ticket n home) →
        (n ≤ s.last) × (made_on n es ≡ cond home 1 0)
    pub pairs : (n : ℕ) → s.last < n → s.pairs n ≡ None
    pub entries : (n : ℕ) → s.last < n → made_on n es ≡ 0
    pub once : (n : ℕ) → made_on n es ≤ 1
    pub announced : (k n : ℕ) (home : Bool) → slice_get s.cells k ≡ Some (Array n home) →
        IsSome (s.plans n)
    pub rows : (k n : ℕ) (home : Bool) → slice_get s.cells k ≡ Some (Row n home) →
        IsSome (s.plans n)
    pub planned : (n : ℕ) → s.last < n → s.plans n ≡ None

-- the number by which a cell names an array, or that by which it names none
abbrev pub named : (none : ℕ) → Option ℕ → ℕ
named none None = none
named none (Some a) = a

-- the number by which the root is named, where so many arrays of a segment have been it: those that were
-- linked are these, and its first array goes by 0
abbrev pub root_named : (links : List ℕ) (rooted : ℕ) → ℕ
root_named links zero = 0
root_named links (suc zero) = 0
root_named links (suc (suc p)) = slice_index_or links p 0

-- what a row's cell becomes as its array is linked
abbrev pub IsOfArray : Owner → Type 0
IsOfArray Door = ⊥
IsOfArray (Bucket w) = Unit {0}
IsOfArray (Ticket n home) = ⊥
IsOfArray (Array n home) = ⊥
IsOfArray (Row n home) = ⊥
IsOfArray (Next a to) = Unit {0}
IsOfArray (Root i to) = ⊥

module _ {K V : Type 0} where
  -- Each array that was linked has a ticket, which is home, and was announced for its segment. An
  -- array whose ticket isn't home has no words. Numbers rise along a segment's arrays, and the array
  -- that a plan grows has a lower number than its ticket. A cell that names the array after another one
  -- names the one that follows it in its segment, or none; one that names a segment's root does so.
  pub record AreLinked (s : State K V) : Type 0 where
    pub numbers : (k n : ℕ) (home : Bool) → slice_get s.cells k ≡ Some (Array n home) →
        (s.segments < n) × (n ≤ s.last)
    pub home : (i p a : ℕ) → slice_get (s.links i) p ≡ Some a →
        (k : ℕ) × (slice_get s.cells k ≡ Some (Array a true))
    pub planned : (i p a : ℕ) → slice_get (s.links i) p ≡ Some a →
        (plan : Plan) × (s.plans a ≡ Some plan) × (plan.segment ≡ i)
    pub unmade : (k n : ℕ) → slice_get s.cells k ≡ Some (Array n false) → s.arrays n ≡ []
    pub past : (n : ℕ) → s.last < n → s.arrays n ≡ []
    pub nexts : (k a t : ℕ) → slice_get s.cells k ≡ Some (Next a t) →
        (i p : ℕ) × (i < s.segments) × (slice_get (chain s i) p ≡ Some a)
        × (t ≡ named (no_next i a) (slice_get (s.links i) p))
    pub roots : (k i t : ℕ) → slice_get s.cells k ≡ Some (Root i t) →
        (i < s.segments) × (t ≡ root_named (s.links i) (s.rooted i))
    pub some : (i : ℕ) → i < s.segments → 0 < s.rooted i
    pub rise : (i p q a b : ℕ) → i < s.segments → p < q → slice_get (chain s i) p ≡ Some a →
        slice_get (chain s i) q ≡ Some b → a < b
    pub grown : (n g : ℕ) (plan : Plan) → s.plans n ≡ Some plan → plan.grown ≡ Some g → g < n

  -- the array is the segment's root, or was it
  pub record IsRooted (s : State K V) (segment array : ℕ) : Type 0 where
    pub within : segment < s.segments
    pub rooted : HasBeenRoot (memory_of s segment) array

  -- What became of a cell that was one of the ticket's row: it is so still, and home if it was; or it
  -- is one of the array, since the ticket is home.
  abbrev pub IsRowStill : State K V → (key ticket : ℕ) → (home : Bool) → Type 0
  IsRowStill s key ticket home =
      ((now : Bool) × (slice_get s.cells key ≡ Some (Row ticket now)) × (home ≡ true → now ≡ true))
      ⊎ ((o : Owner) × (slice_get s.cells key ≡ Some o) × IsOfArray o
      × ((own : ℕ) × (slice_get s.cells own ≡ Some (Array ticket true))))

module _ {K V : Type 0} (eq : K → K → Bool) where
  -- an entry put a value under the key
  abbrev pub WasPut : List (Entry K V) → K → Type 0
  WasPut es key = (n : ℕ) × (e : Entry K V) × (slice_get es n ≡ Some e) × (eq e.key key ≡ true)
      × IsSome e.put

-- `place` is the segment of a key, `hash` its hash
module _ {K V : Type 0} (place : K → ℕ) where
  -- the keys of a segment's numbers
  abbrev pub keys_of : State K V → (segment n : ℕ) → Option K
  keys_of s segment = segment_keys (λ key. place key == segment) s.pairs

module _ {K V : Type 0} (eq : K → K → Bool) (place : K → ℕ) where
  -- the pair that the words of a segment give for a key
  abbrev pub pair_in : State K V → (segment : ℕ) → K → Option (K × V)
  pair_in s segment q = map_of eq (memory_of s segment) (keys_of place s segment) s.pairs q

  -- What stays true of a state: arrays keep their cells, and tickets theirs, which stay home; rows
  -- keep theirs too, until their array is linked; numbers keep their pairs, tickets their plans, and
  -- the memory of each segment is a later one.
  pub record Lasts (old new : State K V) : Type 0 where
    pub segments : new.segments ≡ old.segments
    pub last : old.last ≤ new.last
    pub arrays : (a i k : ℕ) → slice_get (old.arrays a) i ≡ Some k →
        slice_get (new.arrays a) i ≡ Some k
    pub tickets : (k n : ℕ) (b : Bool) → slice_get old.cells k ≡ Some (Ticket n b) →
        (c : Bool) × (slice_get new.cells k ≡ Some (Ticket n c)) × (b ≡ true → c ≡ true)
    pub announced : (k n : ℕ) (b : Bool) → slice_get old.cells k ≡ Some (Array n b) →
        (c : Bool) × (slice_get new.cells k ≡ Some (Array n c)) × (b ≡ true → c ≡ true)
    pub rows : (k n : ℕ) (b : Bool) → slice_get old.cells k ≡ Some (Row n b) →
        IsRowStill new k n b
    pub buckets : (k : ℕ) (w : Word) → slice_get old.cells k ≡ Some (Bucket w) →
        (v : Word) × (slice_get new.cells k ≡ Some (Bucket v))
    pub nexts : (k a t : ℕ) → slice_get old.cells k ≡ Some (Next a t) →
        (u : ℕ) × (slice_get new.cells k ≡ Some (Next a u))
    pub roots : (k i t : ℕ) → slice_get old.cells k ≡ Some (Root i t) →
        (u : ℕ) × (slice_get new.cells k ≡ Some (Root i u))
    pub pairs : Agrees new.pairs old.pairs
    pub plans : Agrees new.plans old.plans
    pub later : (i : ℕ) → i < old.segments →
        LaterAll eq (keys_of place new i) (memory_of old i) (memory_of new i)

module _ {K V : Type 0} (eq : K → K → Bool) (hash place : K → ℕ) where
  -- What holds of a state and of the entries so far: each segment is sound, whatever keys are still
  -- to come, and its words name keys that were put; the entries are legal, and the map after them is
  -- what the words give.
  pub record IsGood (s : State K V) (es : List (Entry K V)) : Type 0 where
    pub owned : IsOwned s
    pub drawn : IsDrawn s es
    pub linked : AreLinked s
    pub sound : (i : ℕ) → i < s.segments → SoundAll eq hash (keys_of place s i) (memory_of s i)
    pub puts : (i a index n : ℕ) (p : K × V) → IsRooted s i a →
        node_of (word_at (words_in s a) index) ≡ Some n → s.pairs n ≡ Some p →
        WasPut eq es p.0
    pub legal : IsLegal eq es
    pub map_is : (q : K) → place q < s.segments → map_after eq es q ≡ pair_in eq place s (place q) q

module _ {K V S : Type 0} where
  -- the log of a table that was opened so
  abbrev pub IsOpenedFor : (segments size : ℕ) → S → List (Note K V S) → Type 0
  IsOpenedFor segments size hasher log =
      (rest : List (Note K V S)) × (log ≡ Opened segments size hasher ∷ rest)

  -- a beginning of the log, with its first note at least
  pub record IsFront (front log : List (Note K V S)) : Type 0 where
    pub some : 0 < length front
    pub begins : IsPrefix front log

  -- the log names the word as the seal that was put there
  abbrev pub NamesSeal : (array index : ℕ) → Word → List (Note K V S) → Type 0
  NamesSeal array index word log = (n : ℕ) × (slice_get log n ≡ Some (Sealed array index word))

-- a word is as it was, or is sealed by now
abbrev pub IsSameOrSealed : (old new : Word) → Type 0
IsSameOrSealed old new = (new ≡ old) ⊎ (is_sealed new ≡ true)

-- `hash` and `place` are those of a hash builder; `place` is that of so many segments
module _ {K V S : Type 0} (eq : K → K → Bool) (hash : S → K → ℕ) (place : S → ℕ → K → ℕ) where
  -- After each front of it all was good, and has lasted. Words of an array that is a root, or was one,
  -- change by entries and seals alone, and the log names each seal.
  pub record IsKept (log : List (Note K V S)) : Type 0 where
    pub segments : ℕ
    pub size : ℕ
    pub hasher : S
    pub opened : IsOpenedFor segments size hasher log
    pub good : (front : List (Note K V S)) → IsFront front log →
        IsGood eq (hash hasher) (place hasher segments) (state_of front) (entries_of front)
    pub lasts : (front next : List (Note K V S)) → IsFront front next → IsPrefix next log →
        Lasts eq (place hasher segments) (state_of front) (state_of next)
    pub still : (front next : List (Note K V S)) → IsFront front next → IsPrefix next log →
        length (entries_of next) ≡ length (entries_of front) → (i a index : ℕ) →
        IsRooted (state_of front) i a →
        IsSameOrSealed (word_at (words_in (state_of front) a) index)
        (word_at (words_in (state_of next) a) index)
    pub seals : (front : List (Note K V S)) → IsFront front log → (array index : ℕ) →
        is_sealed (word_at (words_in (state_of front) array) index) ≡ true →
        NamesSeal array index (word_at (words_in (state_of front) array) index) front

  -- the rule
  abbrev pub Holds : (cells : List Cell) → (log : List (Note K V S)) → Type 0
  Holds cells log = (cells ≡ cells_of (state_of log)) × IsKept log
