-- What a call is to store and hand out, and that this is fair: it stores only pairs of P, it hands
-- out only values of R for its own key, and it looks for no other key. So of a table: each pair
-- that it stores is one of P.
use Rattle.std.specs.Prelude.{◌≡◌, ℕ, Bool, true, List, [], ◌∷◌, Option, Some, None}
use Rattle.moka_hist.specs.Finite.{load_eq, put_at, put_key}
use Rattle.moka_hist.specs.Next.{Next}
use Rattle.moka_hist.specs.Plan.{Aim, Item}
use Rattle.moka_hist.specs.Plan as plan
use Rattle.moka_hist.specs.State.{Call, DeskPart}
use Rattle.moka_hist.specs.Visits.{owners_without, settled_with, settled_without, settlement_for}
use Rattle.moka_hist.specs.declared.accesses.Turn.{Turn}
use Rattle.moka_hist.specs.declared.accesses.Turn.TheVariants as turn
use Rattle.moka_hist.specs.declared.events.Told.{Told}
use Rattle.moka_hist.specs.declared.loads.Load.{Load}
use Rattle.moka_hist.specs.declared.loads.Sought.{Sought}
use Rattle.moka_hist.specs.declared.records.Stored.{Stored}
use Rattle.moka_hist.specs.declared.replies.Ask.TheVariants as ask
use Rattle.moka_hist.specs.declared.visits.Settled.{Settled}
use Rattle.moka_hist.specs.declared.visits.Settled.TheVariants as settled
use Rattle.moka_laws.specs.Given.{value_in, value_of}

-- the value of an end, if any
abbrev pub ready : {V E : Type 0} → Settled V E → Option V
ready settled.NotYet = None
ready (settled.Ready value) = Some value
ready (settled.Err error) = None
ready settled.Nothing = None
ready settled.Aborted = None

-- the value, if any, is one of R for the key
abbrev pub ValueFair : {K V : Type 0} → (K → V → Type 0) → K → Option V → Type 0
ValueFair {K} {V} R q o = (value : V) → o ≡ Some value → R q value

-- the pair, if any, is one of P, and its value one of R for the key q
abbrev pub PairFair : {K V : Type 0} → (K → V → Type 0) → (K → V → Type 0) → K → Option (K × V) →
    Type 0
PairFair {K} {V} P R q o = (pair : K × V) → o ≡ Some pair → P pair.0 pair.1 × R q pair.1

-- what was told, if anything, is a value of P for the key
abbrev pub ToldFair : {K V E : Type 0} → (K → V → Type 0) → K → Option (Told V E) → Type 0
ToldFair {K} {V} {E} P key told =
    (given : Told V E) (value : V) → told ≡ Some given → value_in given ≡ Some value → P key value

-- a look for this is for the key q, and what it is to store is a pair of P
abbrev pub AimFair : {K V : Type 0} → (K → V → Type 0) → K → Aim K V → Type 0
AimFair P q (plan.To_show form) = Unit {0}
AimFair P q (plan.To_load sought) = sought.load.key ≡ q
AimFair P q (plan.To_own sought) = sought.load.key ≡ q
AimFair P q (plan.To_insert key value) = P key value × (key ≡ q)
AimFair P q (plan.To_compute compute) = compute.key ≡ q
AimFair P q (plan.To_evict key stamp cause) = key ≡ q

-- each stored pair is one of P, under its own key
abbrev pub TableFair : {K V : Type 0} → (K → V → Type 0) → (K → K → Bool) →
    (K → Option (K × Stored V)) → Type 0
TableFair {K} {V} P eq stored =
    (q : K) (p : K × Stored V) → stored q ≡ Some p → P p.0 p.1.value × (eq p.0 q ≡ true)

-- a value of P for a key may be handed out for that key, and for each that is equal to it
pub record Leads {K V : Type 0} (P R : K → V → Type 0) (eq : K → K → Bool) : Type 0 where
  pub own : (k : K) (value : V) → P k value → R k value
  pub near : (k q : K) (value : V) → P k value → eq k q ≡ true → R q value

module _ {K V E : Type 0} (P R : K → V → Type 0) (q : K) where
  -- The item is for the key q: what it is to store is a pair of P, what it hands out or ends with
  -- is a value of R, what it has found is a pair of P as well, and it takes no answer to an ask.
  abbrev pub ItemFair : Item K V E → Type 0
  ItemFair plan.Drain = Unit {0}
  ItemFair (plan.Ended notice) = Unit {0}
  ItemFair (plan.Post held) = Unit {0}
  ItemFair plan.Turn = Unit {0}
  ItemFair plan.Apply = Unit {0}
  ItemFair plan.End = Unit {0}
  ItemFair (plan.Get aim key) = (key ≡ q) × AimFair P q aim
  ItemFair (plan.Judge aim key found) =
      (P key found.value × R q found.value) × AimFair P q aim
  ItemFair (plan.Own sought) = sought.load.key ≡ q
  ItemFair (plan.Read sought) = sought.load.key ≡ q
  ItemFair (plan.Settle with) = ValueFair R q (ready with)
  ItemFair (plan.Ask load) = load.key ≡ q
  ItemFair (plan.Told load) = ⊥
  ItemFair (plan.Own_key compute) = compute.key ≡ q
  ItemFair (plan.Own_alone key) = key ≡ q
  ItemFair (plan.Read_key compute) = compute.key ≡ q
  ItemFair (plan.Ask_op compute found) = (compute.key ≡ q) × PairFair P R q found
  ItemFair (plan.Told_op compute found) = ⊥
  ItemFair (plan.Holds key stamp cause there found) = key ≡ q
  ItemFair (plan.Lock key) = Unit {0}
  ItemFair (plan.Unlock wrote) = Unit {0}
  ItemFair (plan.Notice key old cause upsert) = (key ≡ q) × R q old.value
  ItemFair plan.Heard = Unit {0}
  ItemFair (plan.Moment (plan.To_store key value)) = P key value × (key ≡ q)
  ItemFair (plan.Moment (plan.To_take_out removal key)) = key ≡ q
  ItemFair (plan.Write key value moment) = P key value × (key ≡ q)
  ItemFair (plan.Out removal key) = key ≡ q
  ItemFair plan.Idle = Unit {0}
  ItemFair plan.Invalidate_all = Unit {0}
  ItemFair (plan.Register test) = Unit {0}
  ItemFair (plan.List_keys part) = Unit {0}
  ItemFair (plan.Find key) = Unit {0}
  ItemFair (plan.Scan there found) = Unit {0}
  ItemFair (plan.Candidates parts) = Unit {0}
  ItemFair (plan.Strike there found) = Unit {0}
  ItemFair plan.Retire = Unit {0}
  ItemFair (plan.Reply a) = ValueFair R q (value_of a)

  abbrev pub RestFair : List (Item K V E) → Type 0
  RestFair [] = Unit {0}
  RestFair (item ∷ rest) = ItemFair item × RestFair rest

  -- so of a plan, whose first item may take what was told
  abbrev pub PlanFair : Option (Told V E) → List (Item K V E) → Type 0
  PlanFair told (plan.Told load ∷ rest) =
      ((load.key ≡ q) × ToldFair P load.key told) × RestFair rest
  PlanFair told (plan.Told_op compute found ∷ rest) =
      ((compute.key ≡ q) × PairFair P R q found × ToldFair P compute.key told) × RestFair rest
  PlanFair told rest = RestFair rest

  abbrev pub CallFair : Option (Told V E) → Option (Call K V E) → Type 0
  CallFair told None = Unit {0}
  CallFair told (Some c) = PlanFair told c.plan

  -- What the turn hands out, if anything, is a value of R for the key q: what it answers, and what
  -- it tells the listener, with that key. What it tells a compute is a pair of P as well.
  abbrev pub TurnFair : Turn K V E → Type 0
  TurnFair turn.Going = ValueFair R q None
  TurnFair turn.Wait = ValueFair R q None
  TurnFair (turn.Ask ask.Init) = ValueFair R q None
  TurnFair (turn.Ask (ask.Compute found)) = PairFair P R q found
  TurnFair (turn.Ask (ask.Listener key value cause)) = (key ≡ q) × R q value
  TurnFair (turn.Answer answer) = ValueFair R q (value_of answer)
  TurnFair (turn.Item key value) = ValueFair R q None

  -- the call is left so, and hands out such values
  abbrev pub NextFair : Option (Told V E) → Next K V E → Type 0
  NextFair told next = CallFair told next.left × TurnFair next.turn

-- D is so of the loads of the desk, and of what each visit to loads by the call c of this number
-- makes of them, where that is for the key q. What the call reads of an owner's end, if it reads one
-- next, is a value of R.
pub record KeepsLoads {K V E : Type 0} (R : K → V → Type 0) (q : K) (eq : K → K → Bool)
    (D : (Load K → Option ℕ) → (ℕ → Option ℕ) → (ℕ → Option (Settled V E)) → Type 0)
    (d : DeskPart K V E) (n : ℕ) (c : Call K V E) : Type 0 where
  pub now : D d.owners d.joined d.settled
  pub owned : (load : Load K) → load.key ≡ q →
      D (put_key (load_eq eq) d.owners load (Some n)) d.joined d.settled
  pub joins : (load : Load K) (owner : ℕ) → load.key ≡ q → d.owners load ≡ Some owner →
      D d.owners (put_at d.joined n (Some owner)) d.settled
  pub was_read : D d.owners (put_at d.joined n None) (settled_without d n)
  pub reads : (sought : Sought K) (rest : List (Item K V E)) → c.plan ≡ plan.Read sought ∷ rest →
      (with : Settled V E) → settlement_for d n ≡ Some with → ValueFair R q (ready with)
  pub settles : (with : Settled V E) (rest : List (Item K V E)) →
      c.plan ≡ plan.Settle with ∷ rest → ValueFair R q (ready with) →
      D (owners_without d n) d.joined (settled_with d n with d.settled)
