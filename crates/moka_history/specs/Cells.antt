-- The cells of a book, as a state has them: words stand in them by number.
use Rattle.std.specs.Prelude.{ℕ, ◌+◌, ◌-◌, ◌*◌, ◌^◌, true, cond, List, map}
use Rattle.logbook.specs.Pages.{Cell}
use Rattle.moka_words.specs.declared.words.Word.{Word}
use Rattle.moka_words.specs.declared.words.Word.TheVariants.{Unset, Empty, Live, Tomb, SealedEmpty, SealedLive, SealedTomb}
use Rattle.moka_history.specs.States.{Owner, Door, Bucket, Ticket, Array, Row, Next, Root, State}

-- the number by which a cell holds a word; a new cell holds 0
abbrev pub number_of : Word → ℕ
number_of Empty = 0
number_of Unset = 1
number_of SealedEmpty = 2
number_of (Live n) = 2 ^ 61 + n
number_of (Tomb n) = 2 * 2 ^ 61 + n
number_of (SealedLive n) = 3 * 2 ^ 61 + n
number_of (SealedTomb n) = 4 * 2 ^ 61 + n

-- the cell of an owner, where so many tickets were drawn since the table was opened
abbrev pub cell_of : (drawn : ℕ) → Owner → Cell
cell_of drawn Door = (drawn, true)
cell_of drawn (Bucket w) = (number_of w, true)
cell_of drawn (Ticket n home) = (0, home)
cell_of drawn (Array n home) = (0, home)
cell_of drawn (Row n home) = (cond home 1 0, home)
cell_of drawn (Next a to) = (to, true)
cell_of drawn (Root i to) = (to, true)

module _ {K V : Type 0} where
  abbrev pub drawn : State K V → ℕ
  drawn s = s.last - s.segments

  abbrev pub cells_of : State K V → List Cell
  cells_of s = map (cell_of (drawn s)) s.cells
