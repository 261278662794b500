-- What was given to a cache whose calls are polled whole, and that it answers nothing else.
use Rattle.std.specs.Prelude.{◌≡◌, ℕ, Bool, true, List, ◌∷◌, Option, Some, None, Contains}
use Rattle.std.specs.Option.{option_and_then, option_map}
use Rattle.moka_hist.specs.State.{State}
use Rattle.moka_hist.specs.declared.events.Start.{Start}
use Rattle.moka_hist.specs.declared.loads.Load.{Load}
use Rattle.moka_laws.specs.Starts.{brought, key_started}
use Rattle.moka_small.specs.declared.outcome.Outcome.{Outcome}
use Rattle.moka_small.specs.declared.outcome.Outcome.TheVariants as outcome
use Rattle.moka_small.specs.Small.{End, With_value, With_nothing, With_error, Stand, Begun, Asks, Was_told, Waits, Small, empty, started, with_stand}
use Rattle.moka_small.specs.Polled.{gone_waiter, polled}
use Rattle.moka_small.specs.Seen.{IsSeenAs}

-- one of the pairs has the value, under a key equal to this
abbrev pub IsGivenFor : {K V : Type 0} → (K → K → Bool) → List (K × V) → K → V → Type 0
IsGivenFor {K} eq given key value =
    (own : K) × Contains given (own, value) × (eq own key ≡ true)

-- the pairs, and this one if there is one
abbrev pub with_pair : {K V : Type 0} → Option (K × V) → List (K × V) → List (K × V)
with_pair None given = given
with_pair (Some pair) given = pair ∷ given

-- the value that a load ended with, if it did with one
abbrev pub value_of : {V E : Type 0} → End V E → Option V
value_of (With_value value) = Some value
value_of With_nothing = None
value_of (With_error error) = None

-- the value that a poll answers, if it does
abbrev pub value_in : {V E : Type 0} → Outcome V E → Option V
value_in outcome.Waits = None
value_in outcome.Asks = None
value_in (outcome.Loaded value fresh) = Some value
value_in outcome.Nothing = None
value_in (outcome.Failed error) = None
value_in (outcome.Found found) = found
value_in outcome.Done = None
value_in outcome.Evicted = None
value_in outcome.Kept = None

-- the pair of a load that ended so: its key, and the value
abbrev pub ended_with : {K V E : Type 0} → Load K → Option (End V E) → Option (K × V)
ended_with load end = option_map (λ value. (load.key, value)) (option_and_then value_of end)

module _ {K V E : Type 0} where
  -- the key of the call that stands there, if it is for one
  abbrev pub key_at : Stand K V E → Option K
  key_at (Begun start) = key_started start
  key_at (Asks load) = Some load.key
  key_at (Was_told load end) = Some load.key
  key_at (Waits owner load) = Some load.key

  -- the pair that the call has with it, where owners ended so: what it was started to store, what
  -- its load was told, or for the key of its load what the owner ended with for which it waits
  abbrev pub pair_at : (ℕ → Option (End V E)) → Stand K V E → Option (K × V)
  pair_at ends (Begun start) = brought start
  pair_at ends (Asks load) = None
  pair_at ends (Was_told load end) = ended_with load (Some end)
  pair_at ends (Waits owner load) = ended_with load (ends owner)

-- Each value that is stored, and each that a live call has with it, is of one of the pairs, under an
-- equal key.
pub record HasOnly {K V E : Type 0} (eq : K → K → Bool) (given : List (K × V)) (m : Small K V E)
    : Type 0 where
  pub stored : (key : K) (value : V) (stamp : ℕ) → m.stored key ≡ Some (value, stamp) →
      IsGivenFor eq given key value
  pub live : (n : ℕ) (stand : Stand K V E) (pair : K × V) → m.stands n ≡ Some stand →
      pair_at m.ends stand ≡ Some pair → IsGivenFor eq given pair.0 pair.1

-- a value that the call answers is of one of the pairs, under a key equal to its own
abbrev pub AnswersOnly : {K V E : Type 0} → (K → K → Bool) → List (K × V) → Stand K V E →
    Outcome V E → Type 0
AnswersOnly {K} {V} eq given stand outcome =
    (key : K) (value : V) → key_at stand ≡ Some key → value_in outcome ≡ Some value →
    IsGivenFor eq given key value

-- ---- what gives

-- nothing was given to an empty cache
abbrev pub EmptyHasNone : (K V E : Type 0) → (K → K → Bool) → Type 0
EmptyHasNone K V E eq =
    (capacity : Option ℕ) (given : List (K × V)) → HasOnly {E = E} eq given (empty capacity)

-- a start gives the pair that the call is to store
abbrev pub StartGives : (K V E : Type 0) → (K → K → Bool) → Type 0
StartGives K V E eq =
    (m : Small K V E) (begin : Start K V) (given : List (K × V)) → HasOnly eq given m →
    HasOnly eq (with_pair (brought begin) given) (started m begin)

-- an answer gives the value that a load ended with, for the key of the load
abbrev pub TellGives : (K V E : Type 0) → (K → K → Bool) → Type 0
TellGives K V E eq =
    (m : Small K V E) (n : ℕ) (load : Load K) (end : End V E) (given : List (K × V)) →
    HasOnly eq given m →
    HasOnly eq (with_pair (ended_with load (Some end)) given)
    (with_stand m n (Some (Was_told load end)))

-- ---- what doesn't

-- a poll answers only what was given, and gives nothing
abbrev pub PollAnswersGiven : (K V E : Type 0) → (K → K → Bool) → Type 0
PollAnswersGiven K V E eq =
    (s : State K V E) (m : Small K V E) (n : ℕ) (stand : Stand K V E) (given : List (K × V)) →
    IsSeenAs eq s m → m.stands n ≡ Some stand → HasOnly eq given m →
    AnswersOnly eq given stand (polled eq m n stand).0 × HasOnly eq given (polled eq m n stand).1

-- dropping a call gives nothing
abbrev pub DropGivesNone : (K V E : Type 0) → (K → K → Bool) → Type 0
DropGivesNone K V E eq =
    (m : Small K V E) (n : ℕ) (given : List (K × V)) → HasOnly eq given m →
    HasOnly eq given (gone_waiter m n)
