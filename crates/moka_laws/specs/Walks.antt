-- What a walk gives.
use Rattle.std.specs.Prelude.{◌≡◌, ◌≢◌, ◌↔◌, ◌<◌, ℕ, Bool, true, false, List, [], ◌∷◌, Option, Some, None, IsSome}
use Rattle.std.specs.List.{AllByRecursion, Contains, IsDistinct}
use Rattle.std.specs.Map.{keys_of}
use Rattle.moka_hist.specs.Plan.{Item, is_disabled, walks}
use Rattle.moka_hist.specs.Plan as plan
use Rattle.moka_hist.specs.Run.{Any, Happens, IsReached, Run, fresh_call}
use Rattle.moka_hist.specs.State.{Call, State, World}
use Rattle.moka_hist.specs.Step.{Gets, Step, access_of, next_of}
use Rattle.moka_hist.specs.declared.accesses.Got.{Got}
use Rattle.moka_hist.specs.declared.accesses.Turn.{Turn}
use Rattle.moka_hist.specs.declared.accesses.Turn.TheVariants as turn
use Rattle.moka_hist.specs.declared.events.Event.{Event}
use Rattle.moka_hist.specs.declared.events.Event.TheVariants as event
use Rattle.moka_hist.specs.declared.events.Start.TheVariants as start
use Rattle.moka_hist.specs.declared.records.Stored.{Stored}
use Rattle.moka_hist.specs.declared.replies.Answer.TheVariants as answer
use Rattle.moka_hist.specs.declared.replies.Reply.{Reply}
use Rattle.moka_laws.specs.Looks.{HasDecided, is_visible_in}
use Rattle.moka_laws.specs.Starting.{HasMade, Leads}

-- the call judges this record next, which its walk has found
abbrev pub IsToJudge : {K V E : Type 0} → Call K V E → K → Stored V → Type 0
IsToJudge {K} {V} {E} c there stored =
    (rest : List (Item K V E)) × (c.plan ≡ plan.Scan there stored ∷ rest)

-- the call looks this listed key up next
abbrev pub IsToFind : {K V E : Type 0} → Call K V E → K → Type 0
IsToFind {K} {V} {E} c key = (rest : List (Item K V E)) × (c.plan ≡ plan.Find key ∷ rest)

-- the step looks up a key that the walk has listed, and this stands there
pub record FindsListed {K V E : Type 0} (n : ℕ) (key : K) (found : Option (K × Stored V))
    (s : State K V E) (c : Call K V E) (reply : Turn K V E) (t : State K V E) : Type 0 where
  pub looks : IsToFind c key
  pub stood : s.world.table.stored key ≡ found
  pub decided : HasDecided n c t

-- a number that wasn't given out has begun no list
abbrev pub ListsAreStarted : (K V E : Type 0) → (K → K → Bool) → Type 0
ListsAreStarted K V E eq =
    (s : State K V E) (n : ℕ) → IsReached eq s → s.world.desk.last < n →
    s.world.table.listings n ≡ None

-- whatever the world: a step replies an item only of a walk, and the call judged that record
abbrev pub ItemsAreWalks : (K V E : Type 0) → (K → K → Bool) → Type 0
ItemsAreWalks K V E eq =
    (n : ℕ) (c : Call K V E) (w new : World K V E) (given : Got K V E) (key : K) (value : V) →
    Gets eq n w (access_of n c) given new → (next_of n c given).turn ≡ turn.Item key value →
    (walks c.plan ≡ true) ×
    ((stored : Stored V) × IsToJudge c key stored × (stored.value ≡ value))

-- a step that judges a record gives it exactly where it is visible then
abbrev pub ScansShow : (K V E : Type 0) → (K → K → Bool) → Type 0
ScansShow K V E eq =
    (s t : State K V E) (n : ℕ) (c : Call K V E) (there : K) (stored : Stored V)
    (reply : Turn K V E) → s.calls n ≡ Some c → IsToJudge c there stored → Step eq s n reply t →
    (reply ≡ turn.Item there stored.value) ↔ (is_visible_in s there stored ≡ true)

-- each item is a pair that the walk's own look found under a listed key, and is visible in the state
-- that it is judged in
abbrev pub ItemsAreFound : (K V E : Type 0) → (K → K → Bool) → Type 0
ItemsAreFound K V E eq =
    (s t : State K V E) (n : ℕ) (key : K) (value : V) → IsReached eq s →
    Step eq s n (turn.Item key value) t →
    (stored : Stored V) × (stored.value ≡ value) × (is_visible_in s key stored ≡ true) ×
    ((listed : K) × HasMade eq s n (FindsListed n listed (Some (key, stored))))

-- no two items of one walk have equal keys
abbrev pub ItemsAreApart : (K V E : Type 0) → (K → K → Bool) → Type 0
ItemsAreApart K V E eq =
    (s t u v : State K V E) (n : ℕ) (a b : K) (x y : V) → IsReached eq s →
    Step eq s n (turn.Item a x) t → Leads eq t u → Step eq u n (turn.Item b y) v → eq a b ≡ false

-- nor does it look up equal keys twice
abbrev pub LooksAreApart : (K V E : Type 0) → (K → K → Bool) → Type 0
LooksAreApart K V E eq =
    (s t u : State K V E) (n : ℕ) (c d : Call K V E) (a b : K) (found : Option (K × Stored V))
    (reply : Turn K V E) → IsReached eq s → s.calls n ≡ Some c → Step eq s n reply t →
    FindsListed n a found s c reply t → Leads eq t u → u.calls n ≡ Some d → IsToFind d b →
    eq a b ≡ false

-- the step judges the record that the walk has found, and gives it exactly where it is visible then
pub record JudgesFound {K V E : Type 0} (there : K) (stored : Stored V) (s : State K V E)
    (c : Call K V E) (reply : Turn K V E) (t : State K V E) : Type 0 where
  pub judges : IsToJudge c there stored
  pub shows : (reply ≡ turn.Item there stored.value) ↔ (is_visible_in s there stored ≡ true)

-- A key that is stored in each state from one in which a walk is fresh to the one in which it ends
-- was looked up, found there, and judged.
abbrev pub StoredAreFound : (K V E : Type 0) → (K → K → Bool) → Type 0
StoredAreFound K V E eq =
    (s t u : State K V E) (n : ℕ) (key : K) (events : List (Event K V E))
    (replies : List (Reply K V E)) →
    IsReached eq s → is_disabled s.world.desk.rules ≡ false → s.calls n ≡ Some
    (fresh_call s.world.table.division.parts s.world.desk.rules start.Iter) →
    IsSome (s.world.table.stored key) →
    Run eq (λ v. IsSome (v.world.table.stored key)) s events replies t →
    Step eq t n (turn.Answer answer.End) u →
    (listed : K) × (there : K) × (stored : Stored V) × (eq listed key ≡ true) ×
    HasMade eq u n (FindsListed n listed (Some (there, stored))) ×
    HasMade eq u n (JudgesFound there stored)

-- the event is none of a step of any call, doesn't move the clock, and doesn't drop this call
abbrev pub IsQuiet : {K V E : Type 0} → ℕ → Event K V E → Type 0
IsQuiet n (event.Step call) = ⊥
IsQuiet n (event.Poll call) = ⊥
IsQuiet n (event.At moment) = ⊥
IsQuiet n (event.Start start) = Unit {0}
IsQuiet n (event.Tell call answer) = Unit {0}
IsQuiet n (event.Drop call) = call ≢ n

-- The call of this number walks to its end: no other call makes a step between its own, and the
-- clock stands still. These are the records that it gives, in their order.
pub data WalksAlone {K V E : Type 0} (eq : K → K → Bool) (n : ℕ) :
    State K V E → List (K × V) → State K V E → Type 0 where
  Ends : (s t : State K V E) → Step eq s n (turn.Answer answer.End) t → WalksAlone eq n s [] t
  Goes : (s t u : State K V E) (items : List (K × V)) → Step eq s n turn.Going t →
      WalksAlone eq n t items u → WalksAlone eq n s items u
  Gives : (s t u : State K V E) (key : K) (value : V) (items : List (K × V)) →
      Step eq s n (turn.Item key value) t → WalksAlone eq n t items u →
      WalksAlone eq n s ((key, value) ∷ items) u
  Others : (s t u : State K V E) (e : Event K V E) (r : Reply K V E) (items : List (K × V)) →
      IsQuiet n e → Happens eq Any s e r t → WalksAlone eq n t items u →
      WalksAlone eq n s items u

-- the records are those that are visible in this state, each of them once
pub record AreVisible {K V E : Type 0} (eq : K → K → Bool) (s : State K V E)
    (items : List (K × V)) : Type 0 where
  pub once : IsDistinct eq (keys_of items)
  pub all : (key there : K) (stored : Stored V) →
      s.world.table.stored key ≡ Some (there, stored) → is_visible_in s there stored ≡ true →
      Contains items (there, stored.value)
  pub only : AllByRecursion
      (λ item. (stored : Stored V) × (s.world.table.stored item.0 ≡ Some (item.0, stored)) ×
      (stored.value ≡ item.1) × (is_visible_in s item.0 stored ≡ true)) items

-- a walk with no step of another call in between, and the clock still, gives each visible record
-- once, and nothing else
abbrev pub UndisturbedShow : (K V E : Type 0) → (K → K → Bool) → Type 0
UndisturbedShow K V E eq =
    (s t : State K V E) (n : ℕ) (items : List (K × V)) →
    IsReached eq s → is_disabled s.world.desk.rules ≡ false → s.calls n ≡ Some
    (fresh_call s.world.table.division.parts s.world.desk.rules start.Iter) →
    WalksAlone eq n s items t → AreVisible eq s items
