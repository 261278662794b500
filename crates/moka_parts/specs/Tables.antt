-- What a caller of a table sees of its calls.
use Rattle.std.specs.Prelude.{◌≡◌, List, [], ◌∷◌, ◌++◌, Option}
use Rattle.moka_parts.specs.declared.change.Change.{Change}
use Rattle.moka_parts.specs.Hands.{Hand, Makes, change_by}

-- what a seat has seen of the history, and what it has of its own
abbrev pub Sight : Type 0 → Type 0 → Type 0
Sight K V = List (Change K V) × Hand K V

module _ {K V : Type 0} where
  abbrev pub history : Sight K V → List (Change K V)
  history seat = seat.0

  abbrev pub own : Sight K V → Hand K V
  own seat = seat.1

  -- the seat has made this change, which was added to a history that begins with what it had seen,
  -- and ends what it has seen then
  pub record Adds (key : K) (put : Option V) (before : Option (K × V)) (old new : Sight K V) : Type 0
    where
      pub between : List (Change K V)
      pub ends : history new ≡ (history old ++ between) ++ change_by (own old) (own new) key put before ∷ []
      pub makes : Makes (change_by (own old) (own new) key put before) (own old) (own new) (history new)

  -- the seat has made no change
  abbrev pub Rests : Sight K V → Sight K V → Type 0
  Rests old new = own new ≡ own old
