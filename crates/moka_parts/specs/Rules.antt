-- The rule of the book, and what its steps tell.
use Rattle.std.specs.Prelude.{◌≡◌, ℕ, ◌<◌, ◌==◌, Bool, true, List, [], ◌∷◌, ◌++◌, length, MatchBool}
use mathlib.Core.List.{IsPrefix}
use Rattle.logbook.specs.Pages.{Cell, cell, Step, View, Book, Named, may_make}
use Rattle.moka_parts.specs.declared.note.Note.{Note}
use Rattle.moka_parts.specs.declared.change.Change.{Change}
use Rattle.moka_parts.specs.Changes.{IsLegal, IsUnspent, count_of}
use Rattle.moka_parts.specs.Logs.{changes_in, IsLog, IsOpenedFor, Counts}

-- the word of each change's ticket is at home
abbrev pub AreSpent : {K V : Type 0} → List Cell → List (Change K V) → Type 0
AreSpent cells [] = Unit {0}
AreSpent cells (c ∷ cs) = ((cell cells c.spent).1 ≡ true) × AreSpent cells cs

module _ {K V S : Type 0} (eq : K → K → Bool) (part : S → K → ℕ) where
  -- each of the first 64 words counts the changes of its part, by the next one tickets are drawn,
  -- the word of each ticket that was spent is at home, and the history is legal
  pub record IsKept (cells : List Cell) (log : List (Note K V S)) : Type 0 where
    pub hasher : S
    pub opened : IsOpenedFor hasher log
    pub many : 64 < length cells
    pub door : (cell cells 64).1 ≡ true
    pub counts : (n : ℕ) → n < 64
        → cell cells n ≡ (count_of (part hasher) n (changes_in log), true)
    pub spent : AreSpent cells (changes_in log)
    pub legal : IsLegal eq (changes_in log)

  -- the history so far was seen, and how many changes of the part it has
  abbrev pub Looks : Step (Note K V S) → View (Note K V S) ℕ → ℕ → View (Note K V S) ℕ → Type 0
  Looks s v found w = (hasher : S) × Counts eq part hasher s.key found w.0

  -- the history so far was seen, in which nobody has spent the ticket that was drawn
  abbrev pub Draws : Step (Note K V S) → View (Note K V S) ℕ → ℕ → View (Note K V S) ℕ → Type 0
  Draws s v found w =
      IsLog eq w.0 × (w.1.0.right ≡ may_make) × IsUnspent w.1.0.key (changes_in w.0)

  -- the change was added to a history that begins with all that had been seen, and in which nobody
  -- had spent its ticket
  abbrev pub Added : Step (Note K V S) → View (Note K V S) ℕ → View (Note K V S) ℕ → Type 0
  Added s v w =
      (log : List (Note K V S)) × IsPrefix v.0 log × (w.0 ≡ log ++ s.ask ∷ [])
      × IsUnspent v.1.0.key (changes_in log) × ((hasher : S) × Counts eq part hasher s.key s.new w.0)

  -- it was added; or the part has another count of changes, the history so far was seen, and the
  -- ticket is left
  abbrev pub Adds : Step (Note K V S) → View (Note K V S) ℕ → ℕ → View (Note K V S) ℕ → Type 0
  Adds s v found w =
      MatchBool (found == s.old) (Added s v w) (Looks s v found w × (w.1.0 ≡ v.1.0))

-- the word of this part in the book
abbrev pub word_of : Book → ℕ → Named
word_of b number = record { tracked = true; key = number; book = b }
