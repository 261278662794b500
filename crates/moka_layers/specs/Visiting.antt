-- What a visit does to the desk.
use Rattle.std.specs.Prelude.{◌≡◌, ℕ, Bool, false, List, Option, Some}
use Rattle.std.specs.Option.{option_map_or}
use Rattle.std.specs.declared.cmp.PartialEq as PartialEq
use Rattle.std.specs.declared.hash.Hash as Hash
use Rattle.std.specs.declared.hash.Hasher as Hasher
use Rattle.std.specs.declared.hash.BuildHasher as BuildHasher
use Rattle.moka_hist.specs.State.{DeskPart, Handed}
use Rattle.moka_hist.specs.Conditions.{MayVisit}
use Rattle.moka_hist.specs.Visits.{finds, makes}
use Rattle.moka_hist.specs.declared.visits.Visit.{Visit}
use Rattle.moka_hist.specs.declared.visits.Visit.TheVariants as visit
use Rattle.moka_hist.specs.declared.visits.Found.{Found}
use Rattle.moka_desk.specs.StandsFor.{StandsFor}
use Rattle.moka_desk.specs.Waits.{lock_line, settlement_line, turn_line}
use Rattle.moka_desk.specs.declared.state.Desk.{Desk}
use Rattle.moka_init.specs.Forms.{IsFoundBy}
use Rattle.moka_layers.specs.Needing.{VisitNeedsMemory}
use Rattle.moka_layers.specs.Handing.{IsHanded}

module _ {K V : Type 0} where
  -- by these answers the test of this number, if there is one, holds on the key and the value
  abbrev pub test_holds : (ℕ → K → V → Bool) → Option ℕ → K → V → Bool
  test_holds answers test key value = option_map_or (λ n. answers n key value) test false

module _ {K V E S H : Type 0} {same : PartialEq.Ghosts K} {hash : Hash.Ghosts K}
    {build : BuildHasher.Ghosts S H} {hasher : Hasher.Ghosts H} where
  -- The visit found what belongs to it: what the reference's finds, where the desk stands for one
  -- that allows it. It made what the reference's makes.
  pub record VisitIs (eq : K → K → Bool) (old : Desk K V E S H same hash build hasher)
      (visit : Visit K V E)
      (found : Found V E) (new : Desk K V E S H same hash build hasher) : Type 0 where
    pub form : IsFoundBy visit found
    pub made : (w : DeskPart K V E) → StandsFor eq old w → MayVisit w visit
        → (found ≡ finds w visit) × StandsFor eq new (makes eq w visit)

  -- The same of a visit by the tests, predicates and ids that were handed to the layers: the desk
  -- has none. That the reference's desk was handed the same is for the layers to say. Of the ids
  -- those are left then that the reference's desk has still to draw.
  pub record VisitBy (eq : K → K → Bool) (handed : Handed K V)
      (old : Desk K V E S H same hash build hasher)
      (visit : Visit K V E) (found : Found V E) (new : Desk K V E S H same hash build hasher)
      (left : Handed K V)
      : Type 0 where
    pub form : IsFoundBy visit found
    pub made : (w : DeskPart K V E) → StandsFor eq old w → IsHanded handed w → MayVisit w visit
        → (found ≡ finds w visit) × StandsFor eq new (makes eq w visit)
        × IsHanded left (makes eq w visit)

  -- the calls that are handed out once the visit was made: those that waited for what it ends or
  -- frees; and what was handed out before, where it hands nobody out
  abbrev pub handed_out : Desk K V E S H same hash build hasher → Visit K V E → Option (List ℕ) →
      Option (List ℕ)
  handed_out desk (visit.Settle call with) before = Some (settlement_line desk call)
  handed_out desk (visit.UnlockKey call wrote) before = Some (lock_line desk call)
  handed_out desk (visit.EndTurn call) before = Some (turn_line desk call)
  handed_out desk _ before = before

  -- the desk stands for what it stood for
  abbrev pub DeskStays : (K → K → Bool) → Desk K V E S H same hash build hasher →
      Desk K V E S H same hash build hasher → Type 0
  DeskStays eq old new = (w : DeskPart K V E) → StandsFor eq old w → StandsFor eq new w

  -- memory was wanting for the visit: in each state that the desk stood for, and that was handed
  -- this, it may be
  abbrev pub VisitLacks : (K → K → Bool) → Handed K V → Desk K V E S H same hash build hasher →
      Visit K V E → Type 0
  VisitLacks eq handed old visit =
      (w : DeskPart K V E) → StandsFor eq old w → IsHanded handed w → VisitNeedsMemory w visit
