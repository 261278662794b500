-- What predicates hide, and which of them leave.
use Rattle.std.specs.Prelude.{◌≡◌, ◌<◌, ◌⊎◌, ℕ, Bool, true, false, List, [], ◌∷◌, Contains, Option, Some}
use Rattle.moka_hist.specs.Plan.{Item}
use Rattle.moka_hist.specs.Plan as plan
use Rattle.moka_hist.specs.Run.{Any, Happens, IsReached, Run}
use Rattle.moka_hist.specs.State.{Call, Division, Listed, State}
use Rattle.moka_hist.specs.Step.{Step}
use Rattle.moka_hist.specs.Visits.{does_hit, is_hit, is_seen, named_of, pending_of}
use Rattle.moka_hist.specs.declared.accesses.Turn.{Turn}
use Rattle.moka_hist.specs.declared.accesses.Turn.TheVariants as turn
use Rattle.moka_hist.specs.declared.events.Event.{Event}
use Rattle.moka_hist.specs.declared.events.Event.TheVariants as event
use Rattle.moka_hist.specs.declared.events.Start.TheVariants as start
use Rattle.moka_hist.specs.declared.predicates.Registered.{Registered}
use Rattle.moka_hist.specs.declared.records.Stored.{Stored}
use Rattle.moka_hist.specs.declared.replies.Reply.{Reply}
use Rattle.moka_laws.specs.Starting.{WasStarted}
use Rattle.moka_laws.specs.Walks.{IsToJudge}

-- ---- what is hit isn't shown

-- no call sees a record that a registered predicate hits, whatever its replace test
abbrev pub HitAreUnseen : (K V E : Type 0) → (K → K → Bool) → Type 0
HitAreUnseen K V E eq =
    (s : State K V E) (replace : Option ℕ) (key : K) (stored : Stored V) →
    is_hit s.world.desk key stored ≡ true → is_seen s.world.desk replace key stored ≡ false

-- so no walk gives one: the record that its step judges and gives is hit by none in that state
abbrev pub ItemsAreNotHit : (K V E : Type 0) → (K → K → Bool) → Type 0
ItemsAreNotHit K V E eq =
    (s t : State K V E) (n : ℕ) (c : Call K V E) (key : K) (value : V) →
    s.calls n ≡ Some c → Step eq s n (turn.Item key value) t →
    (stored : Stored V) × IsToJudge c key stored × (stored.value ≡ value) ×
    (is_hit s.world.desk key stored ≡ false)

-- ---- which predicates leave

module _ {K V E : Type 0} where
  abbrev pub IsRegistered : State K V E → Registered → Type 0
  IsRegistered s r = Contains s.world.desk.registered r

  -- the call carries the predicate, by its id and moment
  abbrev pub Carries : Call K V E → Registered → Type 0
  Carries c r = (ids : List (ℕ × ℕ)) × (c.carried ≡ Some ids) × Contains ids (named_of r)

  -- The predicate hides nothing any more: its moment is past, no write is to come that isn't later,
  -- and it hits no stored record.
  pub record IsSpent (s : State K V E) (r : Registered) : Type 0 where
    pub past : r.moment < s.world.desk.clock
    pub alone : (n taken : ℕ) → pending_of s.world.desk n ≡ Some taken → r.moment < taken
    pub hides : (key there : K) (stored : Stored V) →
        s.world.table.stored key ≡ Some (there, stored) →
        does_hit s.world.desk there stored r ≡ false

-- a step after which a registered predicate is no longer so is the last one of maintenance that
-- carries it, and it hides nothing any more in that state
abbrev pub LeavingAreSpent : (K V E : Type 0) → (K → K → Bool) → Type 0
LeavingAreSpent K V E eq =
    (s t : State K V E) (n : ℕ) (c : Call K V E) (reply : Turn K V E) (r : Registered) →
    IsReached eq s → s.calls n ≡ Some c → Step eq s n reply t → IsRegistered s r →
    (IsRegistered t r → ⊥) →
    (c.plan ≡ plan.Retire ∷ []) × Carries c r × IsSpent s r

-- ---- what maintenance has still to look at

module _ {K V E : Type 0} where
  -- the plan strikes by this record next
  abbrev pub StrikesNext : List (Item K V E) → K → Stored V → Type 0
  StrikesNext p there stored = (rest : List (Item K V E)) × (p ≡ plan.Strike there stored ∷ rest)

  -- it lists the part that has the key, or looks an equal key up
  abbrev pub ComesTo : (K → K → Bool) → Division K → K → List (Item K V E) → Type 0
  ComesTo eq d key [] = ⊥
  ComesTo eq d key (plan.List_keys part ∷ rest) =
      (d.part_of key ≡ part) ⊎ ComesTo eq d key rest
  ComesTo eq d key (plan.Find other ∷ rest) = (eq other key ≡ true) ⊎ ComesTo eq d key rest
  ComesTo eq d key (_ ∷ rest) = ComesTo eq d key rest

  -- the list of that part which the call has begun, if any, will give the key
  abbrev pub WillList : State K V E → ℕ → K → Type 0
  WillList s n key =
      (l : Listed K) → s.world.table.listings n ≡ Some l →
      s.world.table.division.part_of key ≡ l.part → l.must key ≡ true

  -- the record that stands under the key is still to be found by this call, or is found
  abbrev pub IsAhead : (K → K → Bool) → State K V E → ℕ → Call K V E → K → K → Stored V → Type 0
  IsAhead eq s n c key there stored =
      StrikesNext c.plan there stored ⊎
      (ComesTo eq s.world.table.division key c.plan × WillList s n key)

-- as long as maintenance carries a registered predicate, each stored record that this hides is among
-- those that it has still to look at
abbrev pub HiddenAreAhead : (K V E : Type 0) → (K → K → Bool) → Type 0
HiddenAreAhead K V E eq =
    (s : State K V E) (n : ℕ) (c : Call K V E) (r : Registered) (key there : K)
    (stored : Stored V) → IsReached eq s → s.calls n ≡ Some c → Carries c r → IsRegistered s r →
    s.world.table.stored key ≡ Some (there, stored) →
    does_hit s.world.desk there stored r ≡ true → IsAhead eq s n c key there stored

-- ---- what happens besides steps

-- the event makes no step
abbrev pub MakesNoStep : {K V E : Type 0} → Event K V E → Type 0
MakesNoStep (event.Step call) = ⊥
MakesNoStep (event.Poll call) = ⊥
MakesNoStep (event.Drop call) = Unit {0}
MakesNoStep (event.At moment) = Unit {0}
MakesNoStep (event.Start start) = Unit {0}
MakesNoStep (event.Tell call answer) = Unit {0}

-- an event that makes none leaves the predicates as they are
abbrev pub OthersLeavePredicates : (K V E : Type 0) → (K → K → Bool) → Type 0
OthersLeavePredicates K V E eq =
    (s t : State K V E) (e : Event K V E) (r : Reply K V E) → MakesNoStep e →
    Happens eq Any s e r t → t.world.desk.registered ≡ s.world.desk.registered

-- a record that is hit stays so as long as it stands
abbrev pub HitStayHit : (K V E : Type 0) → (K → K → Bool) → Type 0
HitStayHit K V E eq =
    (s t : State K V E) (key there : K) (stored : Stored V) (events : List (Event K V E))
    (replies : List (Reply K V E)) →
    IsReached eq s → s.world.table.stored key ≡ Some (there, stored) →
    is_hit s.world.desk there stored ≡ true →
    Run eq (λ v. v.world.table.stored key ≡ Some (there, stored)) s events replies t →
    is_hit t.world.desk there stored ≡ true

-- ---- what maintenance changes

-- no step of it changes what is stored
abbrev pub MaintenanceTakesNothing : (K V E : Type 0) → (K → K → Bool) → Type 0
MaintenanceTakesNothing K V E eq =
    (s t : State K V E) (n : ℕ) (reply : Turn K V E) → WasStarted eq start.Pending n s →
    Step eq s n reply t → t.world.table.stored ≡ s.world.table.stored
