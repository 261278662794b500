-- What each step of a book tells its caller, and that each can be made whatever the book is.
use Rattle.std.specs.Prelude.{◌≡◌, ◌≢◌, ◌⊎◌, ℕ, ◌+◌, ◌^◌, ◌==◌, ◌<◌, ◌≤◌, Bool, true, false, List, [], ◌∷◌, ◌++◌, length, Option, Some, None, IsSome, MatchBool}
use Rattle.std.specs.List.{slice_get}
use mathlib.Core.List.{IsPrefix}
use prog.Atomic.{either}
use Rattle.logbook.specs.Pages.{Moves, Step, View, cell, may_make, may_write, nib, no_nib, step}
use Rattle.moka_words.specs.declared.words.Word.{Word}
use Rattle.moka_words.specs.Arrays.{bucket_at}
use Rattle.moka_words.specs.Words.{is_sealed, word_at}
use Rattle.moka_growth.specs.Calls.{Call}
use Rattle.moka_growth.specs.Calls as call
use Rattle.moka_growth.specs.Fits.{HasBeenRoot}
use Rattle.moka_growth.specs.Growing.{next_size, seal_of}
use Rattle.moka_history.specs.declared.note.Note.{Note}
use Rattle.moka_history.specs.declared.note.Note.TheVariants.{Opened, Announced, Changed, ArrayAnnounced, CellAdded, CellHome, Sealed, ArrayLinked, Copied, Swung}
use Rattle.moka_history.specs.Entries.{Entry}
use Rattle.moka_history.specs.States.{Ticket, Array, Row, Next, Root, State, memory_of, no_next, root_number}
use Rattle.moka_history.specs.Logs.{entries_of, entry_of, state_of}
use Rattle.moka_history.specs.Cells.{cells_of, number_of}
use Rattle.moka_history.specs.Rules.{IsOpenedFor, IsRowStill, IsKept, Holds}
use Rattle.moka_history.specs.Keeping.{Comes, IsDivided, IsReady, IsSmall, StandsAt}

-- callers trade nothing
abbrev pub shown : {E : Type 0} → List E → List E
shown log = []

abbrev pub moved : {E : Type 0} → List E → List E → ℕ → Type 0
moved before after answer = Unit {0}

module _ {K V S : Type 0} where
  -- the cell is the ticket's that the note draws
  abbrev pub HasTicket : (own : ℕ) → Note K V S → State K V → Type 0
  HasTicket own (Announced ticket pair) s = slice_get s.cells own ≡ Some (Ticket ticket false)
  HasTicket own note s = Unit {0}

  -- the cell is that of the array's ticket that the note draws, which has the note's plan; or it is the
  -- one that the note adds to a row
  abbrev pub HasCell : (own : ℕ) → Note K V S → State K V → Type 0
  HasCell own (ArrayAnnounced ticket segment size grown) s =
      (slice_get s.cells own ≡ Some (Array ticket false))
      × (s.plans ticket ≡ Some (record { segment = segment; size = size; grown = grown }))
  HasCell own (CellAdded ticket) s = slice_get s.cells own ≡ Some (Row ticket false)
  HasCell own (Opened segments size hasher) s = ⊥
  HasCell own (Announced ticket pair) s = ⊥
  HasCell own (Changed ticket array index to) s = ⊥
  HasCell own (CellHome ticket cell) s = ⊥
  HasCell own (Sealed array index to) s = ⊥
  HasCell own (ArrayLinked ticket segment grown keys behind) s = ⊥
  HasCell own (Copied array index to) s = ⊥
  HasCell own (Swung segment from to) s = ⊥

  -- the cell that the note brings home is so, in a row for its ticket
  abbrev pub IsBrought : Note K V S → State K V → Type 0
  IsBrought (CellHome ticket cell) s = slice_get s.cells cell ≡ Some (Row ticket true)
  IsBrought (Opened segments size hasher) s = ⊥
  IsBrought (Announced ticket pair) s = ⊥
  IsBrought (Changed ticket array index to) s = ⊥
  IsBrought (ArrayAnnounced ticket segment size grown) s = ⊥
  IsBrought (CellAdded ticket) s = ⊥
  IsBrought (Sealed array index to) s = ⊥
  IsBrought (ArrayLinked ticket segment grown keys behind) s = ⊥
  IsBrought (Copied array index to) s = ⊥
  IsBrought (Swung segment from to) s = ⊥

  -- the array that the note links was ready for it: its ticket's cell is `own`, and `next` is the word
  -- for the array after the one that it grows
  abbrev pub WasReady : (own next : ℕ) → Note K V S → State K V → Type 0
  WasReady own next (ArrayLinked ticket segment (Some grown) keys behind) s =
      IsReady s segment grown own ticket next keys behind
  WasReady own next (ArrayLinked ticket segment None keys behind) s = ⊥
  WasReady own next (Opened segments size hasher) s = ⊥
  WasReady own next (Announced ticket pair) s = ⊥
  WasReady own next (Changed ticket array index to) s = ⊥
  WasReady own next (ArrayAnnounced ticket segment size grown) s = ⊥
  WasReady own next (CellAdded ticket) s = ⊥
  WasReady own next (CellHome ticket cell) s = ⊥
  WasReady own next (Sealed array index to) s = ⊥
  WasReady own next (Copied array index to) s = ⊥
  WasReady own next (Swung segment from to) s = ⊥

  -- the cell holds the number after this log
  abbrev pub HoldsThere : (key number : ℕ) → List (Note K V S) → Type 0
  HoldsThere key number log = cell (cells_of (state_of log)) key ≡ (number, true)

module _ {K V S : Type 0} (eq : K → K → Bool) (hash : S → K → ℕ) (place : S → ℕ → K → ℕ) where
  -- the log so far was seen, in which the word holds what was found; the pen is left
  abbrev pub Looks : Step (Note K V S) → View (Note K V S) ℕ → ℕ → View (Note K V S) ℕ → Type 0
  Looks s v found w = IsKept eq hash place w.0 × HoldsThere s.key found w.0 × (w.1.0 ≡ v.1.0)

  -- the note was added to a log that goes on from what had been seen
  pub record Added (s : Step (Note K V S)) (v : View (Note K V S) ℕ) (found : ℕ)
      (w : View (Note K V S) ℕ) : Type 0 where
    pub log : List (Note K V S)
    pub begins : IsPrefix v.0 log
    pub was_kept : IsKept eq hash place log
    pub there : HoldsThere s.key found log
    pub more : w.0 ≡ log ++ s.ask ∷ []
    pub kept : IsKept eq hash place w.0

  -- the ticket was drawn, and the pen makes its cell; or another one was drawn meanwhile
  abbrev pub Announces : Step (Note K V S) → View (Note K V S) ℕ → ℕ → View (Note K V S) ℕ →
      Type 0
  Announces s v found w = MatchBool (found == s.old)
      (Added s v found w × (w.1.0.right ≡ may_make) × HasTicket w.1.0.key s.ask (state_of w.0))
      (Looks s v found w)

  -- the word was exchanged, and its entry added; or it is another one by now
  abbrev pub Changes : Step (Note K V S) → View (Note K V S) ℕ → ℕ → View (Note K V S) ℕ →
      Type 0
  Changes s v found w = MatchBool (found == s.old)
      ((added : Added s v found w) × (e : Entry K V)
      × (entry_of (state_of added.log) s.ask ≡ Some e)
      × (entries_of w.0 ≡ entries_of added.log ++ e ∷ []))
      (Looks s v found w)

  -- A cell was added, and the pen makes it. No entry came.
  pub record Adds (s : Step (Note K V S)) (v : View (Note K V S) ℕ) (found : ℕ)
      (w : View (Note K V S) ℕ) : Type 0 where
    pub added : Added s v found w
    pub makes : w.1.0.right ≡ may_make
    pub cell : HasCell w.1.0.key s.ask (state_of w.0)
    pub entries : entries_of w.0 ≡ entries_of added.log

  -- the ticket was drawn for the array, and the pen makes its cell; or another one was drawn meanwhile
  abbrev pub AnnouncesArray : Step (Note K V S) → View (Note K V S) ℕ → ℕ →
      View (Note K V S) ℕ → Type 0
  AnnouncesArray s v found w = MatchBool (found == s.old) (Adds s v found w) (Looks s v found w)

  -- the cell that the pen wrote is home, and no entry came
  pub record BringsHome (s : Step (Note K V S)) (v : View (Note K V S) ℕ) (found : ℕ)
      (w : View (Note K V S) ℕ) : Type 0 where
    pub added : Added s v found w
    pub home : IsBrought s.ask (state_of w.0)
    pub entries : entries_of w.0 ≡ entries_of added.log

  -- the word was sealed, and no entry came; or it is another one by now
  abbrev pub Seals : Step (Note K V S) → View (Note K V S) ℕ → ℕ → View (Note K V S) ℕ → Type 0
  Seals s v found w = MatchBool (found == s.old)
      ((added : Added s v found w) × (entries_of w.0 ≡ entries_of added.log))
      (Looks s v found w)

  -- the array was linked, which was ready for it, and no entry came
  pub record Joined (s : Step (Note K V S)) (v : View (Note K V S) ℕ) (found : ℕ)
      (w : View (Note K V S) ℕ) : Type 0 where
    pub added : Added s v found w
    pub ready : WasReady v.1.0.key s.key s.ask (state_of added.log)
    pub entries : entries_of w.0 ≡ entries_of added.log

  -- it was; or another one stands there by now
  abbrev pub Joins : Step (Note K V S) → View (Note K V S) ℕ → ℕ → View (Note K V S) ℕ → Type 0
  Joins s v found w = MatchBool (found == s.old) (Joined s v found w) (Looks s v found w)

  -- the word was copied, and no entry came; or it was set before
  abbrev pub Copies : Step (Note K V S) → View (Note K V S) ℕ → ℕ → View (Note K V S) ℕ →
      Type 0
  Copies s v found w = MatchBool (found == s.old)
      ((added : Added s v found w) × (entries_of w.0 ≡ entries_of added.log))
      (Looks s v found w)

  -- the root was swung, and no entry came; or it is another one by now
  abbrev pub Swings : Step (Note K V S) → View (Note K V S) ℕ → ℕ → View (Note K V S) ℕ →
      Type 0
  Swings s v found w = MatchBool (found == s.old)
      ((added : Added s v found w) × (entries_of w.0 ≡ entries_of added.log))
      (Looks s v found w)

-- the door, or a place that an array has after this log
abbrev pub IsPlace : {K V S : Type 0} → (key : ℕ) → List (Note K V S) → Type 0
IsPlace key log = (key ≡ 0)
    ⊎ ((array : ℕ) × (index : ℕ) × (slice_get ((state_of log).arrays array) index ≡ Some key))

-- or a word that was made for a row
abbrev pub IsHome : {K V S : Type 0} → (key : ℕ) → List (Note K V S) → Type 0
IsHome key log = IsPlace key log
    ⊎ ((ticket : ℕ) × IsRowStill (state_of log) key ticket true)

-- a load of a word, by who has seen a front
abbrev pub LookMoves : (K V S : Type 0) → Type 0
LookMoves K V S =
    (eq : K → K → Bool) (hash : S → K → ℕ) (place : S → ℕ → K → ℕ) →
    (front : List (Note K V S)) (key : ℕ) (ask : Note K V S) → 0 < length front →
    IsPlace key front →
    Moves (Holds eq hash place) shown moved key (front, (no_nib, None)) (λ n. n)
    (Looks eq hash place (step key 0 0 ask) (front, (no_nib, None)))

-- An exchange of the door for one more, by who has read it: it draws the next ticket.
abbrev pub AnnouncingMoves : (K V S : Type 0) → Type 0
AnnouncingMoves K V S =
    (eq : K → K → Bool) (hash : S → K → ℕ) (place : S → ℕ → K → ℕ) → IsDivided eq hash place →
    (front : List (Note K V S)) (drawn ticket : ℕ) (pair : Option (K × V)) → 0 < length front →
    ticket ≡ (state_of front).segments + (drawn + 1) → ticket ≤ 2 ^ 60 →
    Moves (Holds eq hash place) shown moved 0 (front, (no_nib, None))
    (λ n. either (n == drawn) (drawn + 1) n)
    (Announces eq hash place (step 0 drawn (drawn + 1) (Announced ticket pair))
    (front, (no_nib, None)))

-- An exchange of a bucket by a call that fits after a front, with a ticket whose cell the pen writes.
abbrev pub ChangingMoves : (K V S : Type 0) → Type 0
ChangingMoves K V S =
    (eq : K → K → Bool) (hash : S → K → ℕ) (place : S → ℕ → K → ℕ) → IsDivided eq hash place →
    (segments size : ℕ) (hasher : S) (front : List (Note K V S)) →
    IsOpenedFor segments size hasher front →
    (key : K) (c : Call) (array length_is passed : ℕ) (from to : Word) →
    Comes eq (hash hasher) (place hasher segments) (state_of front) key c array length_is passed
    from to →
    IsSmall from → (bucket own ticket : ℕ) (home : Bool) →
    let index : ℕ = bucket_at length_is c.hash passed in
    slice_get ((state_of front).arrays array) index ≡ Some bucket →
    slice_get (state_of front).cells own ≡ Some (Ticket ticket home) →
    Moves (Holds eq hash place) shown moved bucket (front, (nib may_write own 0, None))
    (λ n. either (n == number_of from) (number_of to) n)
    (Changes eq hash place
    (step bucket (number_of from) (number_of to) (Changed ticket array index to))
    (front, (nib may_write own 0, None)))

-- An exchange of the door for one more, by who has read it: it draws the next ticket for an array.
abbrev pub ArrayAnnouncingMoves : (K V S : Type 0) → Type 0
ArrayAnnouncingMoves K V S =
    (eq : K → K → Bool) (hash : S → K → ℕ) (place : S → ℕ → K → ℕ) → IsDivided eq hash place →
    (front : List (Note K V S)) (drawn ticket segment size : ℕ) (grown : Option ℕ) →
    0 < length front → ticket ≡ (state_of front).segments + (drawn + 1) → ticket ≤ 2 ^ 60 →
    ((g : ℕ) → grown ≡ Some g → g ≤ (state_of front).last) →
    Moves (Holds eq hash place) shown moved 0 (front, (no_nib, None))
    (λ n. either (n == drawn) (drawn + 1) n)
    (AnnouncesArray eq hash place
    (step 0 drawn (drawn + 1) (ArrayAnnounced ticket segment size grown))
    (front, (no_nib, None)))

-- An exchange that leaves the number of a word which is home, whatever it is, adds a cell for an array
-- that is announced.
abbrev pub CellAddingMoves : (K V S : Type 0) → Type 0
CellAddingMoves K V S =
    (eq : K → K → Bool) (hash : S → K → ℕ) (place : S → ℕ → K → ℕ) → IsDivided eq hash place →
    (front : List (Note K V S)) (key left ticket : ℕ) → 0 < length front → IsHome key front →
    IsSome ((state_of front).plans ticket) →
    Moves (Holds eq hash place) shown moved key (front, (no_nib, None))
    (λ n. either (n == left) left n)
    (Adds eq hash place (step key left left (CellAdded ticket)) (front, (no_nib, None)))

-- Another one brings it home: the pen has written an unset word.
abbrev pub CellBringingMoves : (K V S : Type 0) → Type 0
CellBringingMoves K V S =
    (eq : K → K → Bool) (hash : S → K → ℕ) (place : S → ℕ → K → ℕ) → IsDivided eq hash place →
    (front : List (Note K V S)) (key left own ticket : ℕ) (home : Bool) → 0 < length front →
    IsHome key front → slice_get (state_of front).cells own ≡ Some (Row ticket home) →
    Moves (Holds eq hash place) shown moved key (front, (nib may_write own 1, None))
    (λ n. either (n == left) left n)
    (BringsHome eq hash place (step key left left (CellHome ticket own))
    (front, (nib may_write own 1, None)))

-- An exchange of a bucket for the seal of its word, by who has read the word.
abbrev pub SealingMoves : (K V S : Type 0) → Type 0
SealingMoves K V S =
    (eq : K → K → Bool) (hash : S → K → ℕ) (place : S → ℕ → K → ℕ) → IsDivided eq hash place →
    (front : List (Note K V S)) → 0 < length front → (segment array index bucket : ℕ) →
    segment < (state_of front).segments → HasBeenRoot (memory_of (state_of front) segment) array →
    slice_get ((state_of front).arrays array) index ≡ Some bucket → (word : Word) →
    IsSmall word → is_sealed word ≡ false →
    Moves (Holds eq hash place) shown moved bucket (front, (no_nib, None))
    (λ n. either (n == number_of word) (number_of (seal_of word)) n)
    (Seals eq hash place
    (step bucket (number_of word) (number_of (seal_of word)) (Sealed array index (seal_of word)))
    (front, (no_nib, None)))

-- the array of a ticket is ready to be linked after this front, if the ticket isn't home and nothing was
-- linked there
pub record MayLink {K V : Type 0} (s : State K V) (segment grown own ticket next : ℕ)
    (keys : List ℕ) (behind : ℕ) : Type 0 where
  pub home : Bool
  pub there : slice_get s.cells own ≡ Some (Array ticket home)
  pub planned : s.plans ticket
      ≡ Some (record { segment = segment; size = length keys; grown = Some grown })
  pub each : (i k : ℕ) → slice_get keys i ≡ Some k → IsRowStill s k ticket true
  pub differ : (i j k : ℕ) → slice_get keys i ≡ Some k → slice_get keys j ≡ Some k → i ≡ j
  pub last : IsRowStill s behind ticket true
  pub apart : (i k : ℕ) → slice_get keys i ≡ Some k → k ≢ behind
  pub array : ℕ
  pub free : slice_get s.cells next ≡ Some (Next grown array)

-- An exchange of the word for the array after another one, by a call that stands there after a front,
-- with a row whose ticket's cell the pen writes.
abbrev pub LinkingMoves : (K V S : Type 0) → Type 0
LinkingMoves K V S =
    (eq : K → K → Bool) (hash : S → K → ℕ) (place : S → ℕ → K → ℕ) → IsDivided eq hash place →
    (segments first : ℕ) (hasher : S) (front : List (Note K V S)) →
    IsOpenedFor segments first hasher front →
    (segment grown size : ℕ) (kept : List (ℕ × ℕ)) (key : Option K) (c : Call) →
    StandsAt eq (hash hasher) (place hasher segments) (state_of front) segment key c
    (call.Link (Some grown) size kept) →
    (own ticket next : ℕ) (keys : List ℕ) (behind : ℕ) →
    MayLink (state_of front) segment grown own ticket next keys behind →
    length keys ≡ next_size (Some grown) size (length kept) →
    let none : ℕ = no_next segment grown in
    Moves (Holds eq hash place) shown moved next (front, (nib may_write own 0, None))
    (λ n. either (n == none) ticket n)
    (Joins eq hash place
    (step next none ticket (ArrayLinked ticket segment (Some grown) keys behind))
    (front, (nib may_write own 0, None)))

-- An exchange of an unset word of an array that was linked, by a call that stands there after a front.
abbrev pub CopyingMoves : (K V S : Type 0) → Type 0
CopyingMoves K V S =
    (eq : K → K → Bool) (hash : S → K → ℕ) (place : S → ℕ → K → ℕ) → IsDivided eq hash place →
    (segments first : ℕ) (hasher : S) (front : List (Note K V S)) →
    IsOpenedFor segments first hasher front →
    (segment array index : ℕ) (from : Option ℕ) (laid : List Word) (key : Option K) (c : Call) →
    StandsAt eq (hash hasher) (place hasher segments) (state_of front) segment key c
    (call.Copy from array index laid) →
    (bucket : ℕ) → slice_get ((state_of front).arrays array) index ≡ Some bucket →
    let to : Word = word_at laid index in
    Moves (Holds eq hash place) shown moved bucket (front, (no_nib, None))
    (λ n. either (n == 1) (number_of to) n)
    (Copies eq hash place (step bucket 1 (number_of to) (Copied array index to))
    (front, (no_nib, None)))

-- An exchange of the word for a segment's root, by a call that stands there after a front.
abbrev pub SwingingMoves : (K V S : Type 0) → Type 0
SwingingMoves K V S =
    (eq : K → K → Bool) (hash : S → K → ℕ) (place : S → ℕ → K → ℕ) → IsDivided eq hash place →
    (segments first : ℕ) (hasher : S) (front : List (Note K V S)) →
    IsOpenedFor segments first hasher front →
    (segment from to : ℕ) (key : Option K) (c : Call) →
    StandsAt eq (hash hasher) (place hasher segments) (state_of front) segment key c
    (call.Swing (Some from) to) →
    (root number : ℕ) → slice_get (state_of front).cells root ≡ Some (Root segment number) →
    let was : ℕ = root_number segment from in
    Moves (Holds eq hash place) shown moved root (front, (no_nib, None))
    (λ n. either (n == was) to n)
    (Swings eq hash place (step root was to (Swung segment from to)) (front, (no_nib, None)))
