-- Which places of a wait list stand: those whose call has their ticket still.
use Rattle.std.specs.Prelude.{◌≡◌, ℕ, ◌==◌, ◌<◌, Bool, false, List, [], ◌∷◌, Option, None, Some, map}
use Rattle.std.specs.List.{filter}
use Rattle.moka_hist.specs.Finite.{times}
use Rattle.moka_sync.specs.declared.places.Place.{Place}

-- the ticket that a call has is this one
abbrev pub is_ticket : Option ℕ → ℕ → Bool
is_ticket None ticket = false
is_ticket (Some had) ticket = had == ticket

module _ (ticket_of : ℕ → Option ℕ) where
  -- the place's call has its ticket still
  abbrev pub is_standing : Place → Bool
  is_standing place = is_ticket (ticket_of place.call) place.ticket

  -- the places that stand
  abbrev pub standing_places : List Place → List Place
  standing_places places = filter is_standing places

  -- the calls of the places that stand
  abbrev pub standing : List Place → List ℕ
  standing places = map (λ p. p.call) (standing_places places)

-- how many places a call with this ticket has
abbrev pub places_of : Option ℕ → ℕ
places_of None = 0
places_of (Some ticket) = 1

-- each place has a ticket below the next
abbrev pub AreBelow : ℕ → List Place → Type 0
AreBelow next [] = Unit {0}
AreBelow next (p ∷ ps) = (p.ticket < next) × AreBelow next ps

-- a call has one standing place where it has a ticket, and none where it has not; no ticket is the
-- next
pub record AreKept (ticket_of : ℕ → Option ℕ) (places : List Place) (next : ℕ) : Type 0 where
  pub counted : (call : ℕ) → times call (standing ticket_of places) ≡ places_of (ticket_of call)
  pub below : AreBelow next places
