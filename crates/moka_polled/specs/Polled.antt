-- Which small states a polled machine stands for.
use Rattle.std.specs.Prelude.{◌≡◌, ℕ, Bool, true, false, List, map, Option, Some, IsSome}
use Rattle.std.specs.Option.{option_map}
use Rattle.std.specs.declared.cmp.PartialEq as PartialEq
use Rattle.std.specs.declared.hash.Hash as Hash
use Rattle.moka_hist.specs.Finite.{Lists}
use Rattle.moka_hist.specs.State.{State}
use Rattle.moka_hist.specs.Run.{Any, Happens}
use Rattle.moka_hist.specs.declared.events.Event.{Event}
use Rattle.moka_hist.specs.declared.events.Event.TheVariants as event
use Rattle.moka_hist.specs.declared.events.Told.{Told}
use Rattle.moka_hist.specs.declared.events.Told.TheVariants as told
use Rattle.moka_hist.specs.declared.loads.Load.{Load}
use Rattle.moka_hist.specs.declared.records.Stored.{Stored}
use Rattle.moka_hist.specs.declared.replies.Reply.{Reply}
use Rattle.moka_table.specs.Map.{ListsPairs}
use Rattle.moka_machine.specs.Machine.{MachineIs}
use Rattle.moka_small.specs.declared.outcome.Outcome.{Outcome}
use Rattle.moka_small.specs.Given.{AnswersOnly, HasOnly}
use Rattle.moka_small.specs.Laws.{may_end}
use Rattle.moka_small.specs.Polled.{polled}
use Rattle.moka_small.specs.Seen.{IsSeenAs, answer_of, small_record}
use Rattle.moka_small.specs.Small.{Asks, End, Small, Stand, waiting}
use Rattle.moka_polled.specs.Outcomes.{says_told}
use Rattle.moka_polled.specs.Tests.{no_tests}
use Rattle.moka_polled.specs.declared.machine.PolledMachine.{PolledMachine}

-- The polled machine stands for the small state: memory was never wanting, and some reached calm
-- state that its machine stands for is seen so.
pub record IsPolled {K V E : Type 0} {same : PartialEq.Ghosts K} {hash : Hash.Ghosts K}
    (eq : K → K → Bool) (polled : PolledMachine K V E same hash) (m : Small K V E) : Type 0 where
  pub unspent : polled.spent ≡ false
  pub state : State K V E
  pub stands : MachineIs eq no_tests polled.machine state
  pub seen : IsSeenAs eq state m

module _ {K V E : Type 0} {same : PartialEq.Ghosts K} {hash : Hash.Ghosts K} where
  -- memory was wanting: the value answers that from then on
  abbrev pub IsSpent : PolledMachine K V E same hash → Type 0
  IsSpent polled = polled.spent ≡ true

  -- unless it is spent it stands for a small state of which P holds
  abbrev pub IsUsable : (K → K → Bool) → PolledMachine K V E same hash →
      (Small K V E → Type 0) → Type 0
  IsUsable eq polled P = polled.spent ≡ false → (m : Small K V E) × IsPolled eq polled m × P m

-- whatever holds of a small state
abbrev pub AnySmall : {K V E : Type 0} → Small K V E → Type 0
AnySmall m = Unit {0}

-- the call of this number is live
abbrev pub IsLive : {K V E : Type 0} → ℕ → Small K V E → Type 0
IsLive n m = IsSome (m.stands n)

-- it is live, and no call waits for it
pub record MayDrop {K V E : Type 0} (n : ℕ) (m : Small K V E) : Type 0 where
  pub live : IsSome (m.stands n)
  pub alone : waiting m n ≡ 0

-- the call asks what the load gives, and takes the answer: the load ends so
pub record Takes {K V E : Type 0} (n : ℕ) (answer : Told V E) (load : Load K) (end : End V E)
    (m : Small K V E) : Type 0 where
  pub asks : m.stands n ≡ Some (Asks load)
  pub is : answer ≡ answer_of end
  pub fits : may_end load end ≡ true

-- it asks, and takes the answer
abbrev pub TakesAnswer : {K V E : Type 0} → ℕ → Told V E → Small K V E → Type 0
TakesAnswer {K} {V} {E} n answer m = (load : Load K) × (end : End V E) × Takes n answer load end m

-- a poll of the call that stands there answers no value but those that were given for an equal key,
-- whatever pairs were given so far, and gives none
abbrev pub AnswersGiven : {K V E : Type 0} → (K → K → Bool) → Small K V E → ℕ → Stand K V E →
    Outcome V E → Type 0
AnswersGiven {K} {V} eq m call stand outcome =
    (given : List (K × V)) → HasOnly eq given m →
    AnswersOnly eq given stand outcome × HasOnly eq given (polled eq m call stand).1

-- the answer says how a load ended: it is neither what a compute is to do nor a listener's
abbrev pub is_end : {V E : Type 0} → Told V E → Bool
is_end (told.Value value) = true
is_end told.Nothing = true
is_end (told.Err error) = true
is_end (told.Op op) = false
is_end told.Done = false
is_end told.Off = false

-- the pairs list the small state's records: each key once, under it its value and stamp
abbrev pub ListsStored : {K V : Type 0} → (K → K → Bool) → List (K × Stored V) →
    (K → Option (V × ℕ)) → Type 0
ListsStored eq pairs stored = Lists eq (map (λ pair. (pair.0, small_record pair)) pairs) stored

-- the pairs are those whose values and stamps the small state has, each once
pub record AreEntries {K V : Type 0} (eq : K → K → Bool) (pairs : List (K × Stored V))
    (stored : K → Option (V × ℕ)) : Type 0 where
  pub map : K → Option (K × Stored V)
  pub lists : ListsPairs eq pairs map
  pub same : (key : K) → option_map small_record (map key) ≡ stored key

-- the event was carried out with this reply, on a state that is seen as the small one
pub record IsServed {K V E : Type 0} {same : PartialEq.Ghosts K} {hash : Hash.Ghosts K}
    (eq : K → K → Bool) (m : Small K V E) (e : Event K V E) (r : Reply K V E)
    (new : PolledMachine K V E same hash) : Type 0 where
  pub before : State K V E
  pub seen : IsSeenAs eq before m
  pub after : State K V E
  pub happens : Happens eq Any before e r after
  pub stands : MachineIs eq no_tests new.machine after
  pub unspent : new.spent ≡ false

-- the answer was given to the call, which took it or didn't
pub record IsTold {K V E : Type 0} {same : PartialEq.Ghosts K} {hash : Hash.Ghosts K}
    (eq : K → K → Bool) (m : Small K V E) (n : ℕ) (answer : Told V E) (took : Bool)
    (new : PolledMachine K V E same hash) : Type 0 where
  pub reply : Reply K V E
  pub served : IsServed eq m (event.Tell n answer) reply new
  pub says : took ≡ says_told reply
