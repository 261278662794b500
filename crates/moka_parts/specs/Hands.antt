-- What one caller has of its own.
use Rattle.std.specs.Prelude.{◌≡◌, ℕ, List, [], ◌∷◌, ◌++◌, Option}
use Rattle.moka_parts.specs.declared.change.Change.{Change}
use Rattle.moka_parts.specs.Changes.{change_of, made_with}

-- its first ticket, the ticket that it has, and the changes that it has made
abbrev pub Hand : Type 0 → Type 0 → Type 0
Hand K V = ℕ × (ℕ × List (Change K V))

module _ {K V : Type 0} where
  abbrev pub first_ticket : Hand K V → ℕ
  first_ticket hand = hand.0

  abbrev pub ticket : Hand K V → ℕ
  ticket hand = hand.1.0

  abbrev pub made : Hand K V → List (Change K V)
  made hand = hand.1.1

  -- the change on which the one hand spends its ticket, and the other has the next
  abbrev pub change_by : Hand K V → Hand K V → K → Option V → Option (K × V) → Change K V
  change_by old new key put before = change_of (ticket old) (ticket new) key put before

  -- the change is one more of its own, and of this history just its own were made with its tickets
  pub record Makes (c : Change K V) (old new : Hand K V) (history : List (Change K V)) : Type 0
    where
      pub first : first_ticket new ≡ first_ticket old
      pub one : made new ≡ made old ++ c ∷ []
      pub all : made_with (first_ticket new) history ≡ made new
