-- What a step of the book gives its caller.
use Rattle.std.specs.Prelude.{◌≡◌, ◌≢◌, ℕ, List, [], ◌∷◌, ◌++◌, Bool, false, Some}
use Rattle.std.specs.List.{slice_get}
use mathlib.Core.List.{IsPrefix}
use Rattle.logbook.specs.Pages.{Nib, Step, View, may_write, nib}
use Rattle.moka_words.specs.declared.words.Word.{Word}
use Rattle.moka_words.specs.Arrays.{bucket_at}
use Rattle.moka_growth.specs.Calls.{Call}
use Rattle.moka_history.specs.declared.note.Note.{Note}
use Rattle.moka_history.specs.Cells.{number_of}
use Rattle.moka_history.specs.Keeping.{Comes, IsSmall}
use Rattle.moka_history.specs.Entries.{Entry}
use Rattle.moka_history.specs.States.{Ticket}
use Rattle.moka_history.specs.Logs.{entries_of, entry_of, state_of}
use Rattle.moka_history.specs.Moving.{Changes, HoldsThere}
use Rattle.moka_history.specs.Rules.{IsKept, IsOpenedFor}
use Rattle.moka_shared.specs.declared.asked.Exchange.{Exchange}

module _ {K V S : Type 0} (eq : K → K → Bool) (hash : S → K → ℕ) (place : S → ℕ → K → ℕ) where
  -- the log so far was seen, in which the word of this key holds what was found
  pub record Sees (key found : ℕ) (old new : List (Note K V S)) : Type 0 where
    pub begins : IsPrefix old new
    pub kept : IsKept eq hash place new
    pub holds : HoldsThere key found new

  -- the log that was found, in which the word of this key held so much, got the note
  pub record Writes (key found : ℕ) (note : Note K V S) (old new : List (Note K V S)) : Type 0 where
    pub log : List (Note K V S)
    pub begins : IsPrefix old log
    pub was_kept : IsKept eq hash place log
    pub holds : HoldsThere key found log
    pub more : new ≡ log ++ note ∷ []
    pub kept : IsKept eq hash place new

module _ {K V S : Type 0} (eq : K → K → Bool) (hash : S → K → ℕ) (place : S → ℕ → K → ℕ) where
  -- the log that was found got the note of a change, which has one entry
  pub record Spends (key found : ℕ) (note : Note K V S) (old new : List (Note K V S)) : Type 0 where
    pub writes : Writes eq hash place key found note old new
    pub entry : Entry K V
    pub is : entry_of (state_of writes.log) note ≡ Some entry
    pub entries : entries_of new ≡ entries_of writes.log ++ entry ∷ []

-- A call that fits after this log comes to the exchange that is asked for, of a word that stands in
-- this cell, by its number, for another one.
pub record MayExchange {K V S : Type 0} (eq : K → K → Bool) (hash : S → K → ℕ)
    (place : S → ℕ → K → ℕ) (bucket from to : ℕ) (asked : Exchange) (log : List (Note K V S))
    : Type 0 where
  pub segments : ℕ
  pub size : ℕ
  pub hasher : S
  pub opened : IsOpenedFor segments size hasher log
  pub key : K
  pub call : Call
  pub length_is : ℕ
  pub passed : ℕ
  pub word : Word
  pub comes : Comes eq (hash hasher) (place hasher segments) (state_of log) key call asked.array
      length_is passed word asked.to
  pub small : IsSmall word
  pub from_is : from ≡ number_of word
  pub to_is : to ≡ number_of asked.to
  pub index_is : asked.index ≡ bucket_at length_is call.hash passed
  pub there : slice_get ((state_of log).arrays asked.array) asked.index ≡ Some bucket

-- the pen writes the cell of the ticket
pub record Pens {K V S : Type 0} (ticket : ℕ) (pen : Nib) (log : List (Note K V S)) : Type 0 where
  pub nib : pen ≡ nib may_write pen.key 0
  pub there : slice_get (state_of log).cells pen.key ≡ Some (Ticket ticket false)

-- where the word is another one by now, the ticket whose cell the pen writes isn't home
abbrev pub StaysAway : {K V S : Type 0} → Step (Note K V S) → View (Note K V S) ℕ → ℕ →
    View (Note K V S) ℕ → Type 0
StaysAway s v found w = found ≢ s.old → (ticket : ℕ) (home : Bool) →
    slice_get (state_of v.0).cells v.1.0.key ≡ Some (Ticket ticket home) →
    slice_get (state_of w.0).cells v.1.0.key ≡ Some (Ticket ticket false)

-- a word was exchanged, or is another one by now
abbrev pub ChangesOrStays : {K V S : Type 0} → (eq : K → K → Bool) → (hash : S → K → ℕ) →
    (place : S → ℕ → K → ℕ) → Step (Note K V S) → View (Note K V S) ℕ → ℕ →
    View (Note K V S) ℕ → Type 0
ChangesOrStays eq hash place s v found w = Changes eq hash place s v found w × StaysAway s v found w
