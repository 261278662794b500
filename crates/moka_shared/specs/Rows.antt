-- Rows of words for an array that is announced, and seals of words.
use Rattle.std.specs.Prelude.{◌≡◌, ◌≢◌, ℕ, ◌+◌, ◌<◌, Bool, true, false, List, length, Some}
use Rattle.std.specs.List.{slice_get}
use mathlib.Core.List.{IsPrefix}
use Rattle.logbook.specs.Pages.{Book, Named, Nib, may_write, nib}
use Rattle.moka_words.specs.declared.words.Word.{Word}
use Rattle.moka_words.specs.Words.{is_sealed, word_at}
use Rattle.moka_growth.specs.Fits.{HasBeenRoot}
use Rattle.moka_growth.specs.Growing.{seal_of}
use Rattle.moka_history.specs.declared.note.Note.{Note}
use Rattle.moka_history.specs.declared.note.Note.TheVariants.{CellAdded, CellHome}
use Rattle.moka_history.specs.Entries.{Entry}
use Rattle.moka_history.specs.States.{Array, Plan, Row, memory_of, words_in}
use Rattle.moka_history.specs.Cells.{number_of}
use Rattle.moka_history.specs.Keeping.{IsSmall}
use Rattle.moka_history.specs.Logs.{entries_of, state_of}
use Rattle.moka_history.specs.Rules.{IsRowStill}
use Rattle.moka_shared.specs.declared.asked.Planned.{Planned}
use Rattle.moka_shared.specs.declared.asked.Seal.{Seal}
use Rattle.moka_shared.specs.declared.answers.Missed.{Missed}
use Rattle.moka_shared.specs.declared.answers.Missed.TheVariants as missed
use Rattle.moka_shared.specs.declared.answers.TrySeal.{TrySeal}
use Rattle.moka_shared.specs.declared.answers.TrySeal.TheVariants as seal
use Rattle.moka_shared.specs.declared.answers.Unopened.{Unopened}
use Rattle.moka_shared.specs.declared.answers.Unopened.TheVariants as unopened
use Rattle.moka_shared.specs.Changes.{IsUndrawn}
use Rattle.moka_shared.specs.Looks.{IsSealedIn}
use Rattle.moka_shared.specs.Steps.{Writes}
use Rattle.moka_shared.specs.Tables.{word_named}

module _ {K V S : Type 0} (eq : K → K → Bool) (hash : S → K → ℕ) (place : S → ℕ → K → ℕ) where
  -- the log that was found, in which the word of this key held so much, got the note, and no entry
  pub record Leaves (key found : ℕ) (note : Note K V S) (old new : List (Note K V S)) : Type 0 where
    pub writes : Writes eq hash place key found note old new
    pub entries : entries_of new ≡ entries_of writes.log

  -- Two exchanges of the word of the key `at`, which kept its number, made a word of this key for the
  -- ticket's array: one added its cell, and one brought that home.
  pub record MakesWord (at ticket key : ℕ) (old new : List (Note K V S)) : Type 0 where
    pub added : List (Note K V S)
    pub found : ℕ
    pub left : ℕ
    pub adds : Leaves at found (CellAdded ticket) old added
    pub brings : Leaves at left (CellHome ticket key) added new

-- what is announced
abbrev pub plan_of : Planned → Plan
plan_of p = record { segment = p.segment; size = p.length; grown = p.grown }

-- an array of so many words that is to follow the segment's array of the opening
abbrev pub plan_for : (segment length : ℕ) → Plan
plan_for segment length =
    record { segment = segment; size = length; grown = Some (segment + 1) }

-- the pen writes the cell of the ticket, on which this array is announced
pub record IsAnnounced {K V S : Type 0} (ticket : ℕ) (plan : Plan) (pen : Nib)
    (log : List (Note K V S)) : Type 0 where
  pub nib : pen ≡ nib may_write pen.key 0
  pub there : slice_get (state_of log).cells pen.key ≡ Some (Array ticket false)
  pub plan_is : (state_of log).plans ticket ≡ Some plan

-- the pen has written an unset word, whose cell is one for the ticket's array
pub record IsAdded {K V S : Type 0} (ticket : ℕ) (pen : Nib) (log : List (Note K V S)) : Type 0
  where
    pub nib : pen ≡ nib may_write pen.key 1
    pub there : slice_get (state_of log).cells pen.key ≡ Some (Row ticket false)

-- the word is one of the book, and was made for the ticket's array; it is so still, or the array is
-- linked
pub record IsOfRow {K V S : Type 0} (b : Book) (ticket : ℕ) (word : Named) (log : List (Note K V S))
    : Type 0 where
  pub named : word ≡ word_named b word.key
  pub home : IsRowStill (state_of log) word.key ticket true

-- the words of a row, of which no two are one
pub record AreRow {K V S : Type 0} (b : Book) (ticket : ℕ) (words : List Named)
    (log : List (Note K V S)) : Type 0 where
  pub each : (i : ℕ) (w : Named) → slice_get words i ≡ Some w → IsOfRow b ticket w log
  pub differ : (i j : ℕ) (v w : Named) → slice_get words i ≡ Some v →
      slice_get words j ≡ Some w → v.key ≡ w.key → i ≡ j

-- the word was made for the ticket's array too, and is none of these
pub record IsBehind {K V S : Type 0} (b : Book) (ticket : ℕ) (words : List Named) (behind : Named)
    (log : List (Note K V S)) : Type 0 where
  pub one : IsOfRow b ticket behind log
  pub apart : (i : ℕ) (w : Named) → slice_get words i ≡ Some w → w.key ≢ behind.key

-- the pen writes the cell of the ticket, on which this array is announced; the ticket may be home
pub record HoldsTicket {K V S : Type 0} (ticket : ℕ) (plan : Plan) (pen : Nib)
    (log : List (Note K V S)) : Type 0 where
  pub home : Bool
  pub nib : pen ≡ nib may_write pen.key 0
  pub there : slice_get (state_of log).cells pen.key ≡ Some (Array ticket home)
  pub plan_is : (state_of log).plans ticket ≡ Some plan

-- A word of a segment's array, which isn't sealed and stands in this cell by its number, may be
-- exchanged for its seal.
pub record MaySeal {K V S : Type 0} (bucket from to : ℕ) (asked : Seal) (log : List (Note K V S))
    : Type 0 where
  pub some : 0 < length log
  pub segment : ℕ
  pub within : segment < (state_of log).segments
  pub rooted : HasBeenRoot (memory_of (state_of log) segment) asked.array
  pub there : slice_get ((state_of log).arrays asked.array) asked.index ≡ Some bucket
  pub word : Word
  pub small : IsSmall word
  pub bare : is_sealed word ≡ false
  pub from_is : from ≡ number_of word
  pub to_is : to ≡ number_of (seal_of word)
  pub asked_is : asked.to ≡ seal_of word

-- another word was met there, and past what had been seen an entry came
pub record IsMetThere {K V S : Type 0} (array index : ℕ) (old : List (Note K V S)) (word : Word)
    (new : List (Note K V S)) : Type 0 where
  pub front : List (Note K V S)
  pub begins : IsPrefix old front
  pub entry : Entry K V
  pub there : slice_get (entries_of new) (length (entries_of front)) ≡ Some entry
  pub met : word_at (words_in (state_of new) array) index ≡ word

-- why a word wasn't sealed
abbrev pub IsUnsealed : {K V S : Type 0} → (array index : ℕ) → (old new : List (Note K V S)) →
    Missed → Type 0
IsUnsealed array index old new (missed.Lost word) = IsMetThere array index old word new
IsUnsealed array index old new (missed.Sealed word a i) = ⊥
IsUnsealed array index old new (missed.NodeHidden number) = ⊥
IsUnsealed array index old new (missed.ArrayHidden a) = ⊥
IsUnsealed array index old new (missed.Ticket ticket) = ⊥
IsUnsealed array index old new (missed.NoFree count) = ⊥
IsUnsealed array index old new missed.Spent = ⊥

-- what became of a word that was to be sealed
abbrev pub SealsSo : {K V S : Type 0} → (array index : ℕ) → (old new : List (Note K V S)) →
    TrySeal → Type 0
SealsSo array index old new (seal.Sealed word) = IsSealedIn word array index new
SealsSo array index old new (seal.Again m) = IsUnsealed array index old new m

-- why no row was opened
abbrev pub IsNotOpened : {K V S : Type 0} → (old new : List (Note K V S)) → Unopened → Type 0
IsNotOpened old new (unopened.Again m) = IsUndrawn old new m
IsNotOpened old new unopened.Memory = Unit {0}
