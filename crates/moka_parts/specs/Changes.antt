-- What a list of changes says of a table.
use Rattle.std.specs.Prelude.{◌≡◌, ℕ, ◌+◌, ◌==◌, Bool, false, cond, List, [], ◌∷◌, ◌++◌, Option, None}
use Rattle.std.specs.Option.{option_map}
use Rattle.moka_parts.specs.declared.change.Change.{Change}

module _ {K V : Type 0} where
  -- this change, whose maker spends the one ticket on it, and has the next one from then on
  abbrev pub change_of : ℕ → ℕ → K → Option V → Option (K × V) → Change K V
  change_of spent next key put before =
      record { key = key; put = put; before = before; spent = spent; next = next }

  -- the pair that stands at the key after the change
  abbrev pub pair_put : Change K V → Option (K × V)
  pair_put c = option_map (λ v. (c.key, v)) c.put

  -- the pair at the key q after these changes, where `found` stood there before them
  abbrev pub pair_after : (K → K → Bool) → K → Option (K × V) → List (Change K V) → Option (K × V)
  pair_after eq q found [] = found
  pair_after eq q found (c ∷ cs) = pair_after eq q (cond (eq c.key q) (pair_put c) found) cs

  -- the pair at each key after these changes of an empty table
  abbrev pub map_after : (K → K → Bool) → List (Change K V) → K → Option (K × V)
  map_after eq cs q = pair_after eq q None cs

  -- the pair that a change names as the former one is the one that stood there
  abbrev pub IsLegal : (K → K → Bool) → List (Change K V) → Type 0
  IsLegal eq history =
      (before : List (Change K V)) (c : Change K V) (after : List (Change K V))
      → history ≡ before ++ c ∷ after → c.before ≡ map_after eq before c.key

  -- the changes on which this ticket was spent, and then those that took its place
  abbrev pub made_with : ℕ → List (Change K V) → List (Change K V)
  made_with ticket [] = []
  made_with ticket (c ∷ cs) =
      cond (c.spent == ticket) (c ∷ made_with c.next cs) (made_with ticket cs)

  -- the ticket that has its place after these changes
  abbrev pub ticket_after : ℕ → List (Change K V) → ℕ
  ticket_after ticket [] = ticket
  ticket_after ticket (c ∷ cs) = ticket_after (cond (c.spent == ticket) c.next ticket) cs

  -- none of the changes spends this ticket
  abbrev pub IsUnspent : ℕ → List (Change K V) → Type 0
  IsUnspent ticket [] = Unit {0}
  IsUnspent ticket (c ∷ cs) = ((c.spent == ticket) ≡ false) × IsUnspent ticket cs

  -- how many of the changes are of keys of this part
  abbrev pub count_of : (K → ℕ) → ℕ → List (Change K V) → ℕ
  count_of part number [] = 0
  count_of part number (c ∷ cs) =
      cond (part c.key == number) (count_of part number cs + 1) (count_of part number cs)
