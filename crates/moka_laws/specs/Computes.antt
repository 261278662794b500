-- Computes: one at a time on a key, asked with what its own look found, and answering what it did.
use Rattle.std.specs.Prelude.{◌≡◌, ◌≢◌, ◌⊎◌, ℕ, Bool, true, false, List, [], ◌∷◌, Option, Some, None, IsSome}
use Rattle.moka_hist.specs.State.{Call, State}
use Rattle.moka_hist.specs.Plan.{Aim, Item, look, is_disabled}
use Rattle.moka_hist.specs.Plan as plan
use Rattle.moka_hist.specs.Entries.{put_answer, removed_value, unchanged}
use Rattle.moka_hist.specs.Tables.{by_pair, removed}
use Rattle.moka_hist.specs.Step.{Step}
use Rattle.moka_hist.specs.Run.{IsReached}
use Rattle.moka_laws.specs.Starts.{computed_key}
use Rattle.moka_hist.specs.declared.accesses.Turn.{Turn}
use Rattle.moka_hist.specs.declared.accesses.Turn.TheVariants as turn
use Rattle.moka_hist.specs.declared.events.Op.TheVariants as op
use Rattle.moka_hist.specs.declared.events.Start.{Start}
use Rattle.moka_hist.specs.declared.events.Start.TheVariants as start
use Rattle.moka_hist.specs.declared.events.Told.{Told}
use Rattle.moka_hist.specs.declared.events.Told.TheVariants as told
use Rattle.moka_hist.specs.declared.loads.Compute.{Compute}
use Rattle.moka_hist.specs.declared.loads.Kind.TheVariants as kind
use Rattle.moka_hist.specs.declared.loads.Load.{Load}
use Rattle.moka_hist.specs.declared.loads.Sought.{Sought}
use Rattle.moka_hist.specs.declared.records.Stored.{Stored}
use Rattle.moka_hist.specs.declared.replies.Answer.{Answer}
use Rattle.moka_hist.specs.declared.replies.Answer.TheVariants as answer
use Rattle.moka_hist.specs.declared.replies.Ask.TheVariants as ask
use Rattle.moka_laws.specs.Looks.{HasDecided, HasShown, LooksUp}
use Rattle.moka_laws.specs.Starting.{HasMade, Leads, WasStarted}

-- ---- one at a time

module _ {K V E : Type 0} where
  -- the call owns the computes of the key: it stands between its owning and its settling
  abbrev pub OwnsComputes : State K V E → ℕ → K → Type 0
  OwnsComputes s n key =
      s.world.desk.owning n ≡ Some (record { key = key; kind = kind.Compute })

  -- a step with this reply asks what is to be done with a key, or changes the map
  abbrev pub Acts : State K V E → Turn K V E → State K V E → Type 0
  Acts s reply t =
      ((found : Option (K × V)) × (reply ≡ turn.Ask (ask.Compute found))) ⊎
      (t.world.table ≢ s.world.table)

-- in every reached state one call owns the computes of equal keys
abbrev pub ComputesAreOne : (K V E : Type 0) → (K → K → Bool) → Type 0
ComputesAreOne K V E eq =
    (s : State K V E) (n m : ℕ) (a b : K) → IsReached eq s → OwnsComputes s n a →
    OwnsComputes s m b → eq a b ≡ true → n ≡ m

-- a compute asks, puts and takes out only while it owns the computes of its key: so no other does
-- meanwhile
abbrev pub ActingComputesOwn : (K V E : Type 0) → (K → K → Bool) → Type 0
ActingComputesOwn K V E eq =
    (s t : State K V E) (begin : Start K V) (key : K) (n : ℕ) (reply : Turn K V E) →
    WasStarted eq begin n s → computed_key begin ≡ Some key → Step eq s n reply t →
    Acts s reply t → OwnsComputes s n key

-- so while a call owns the computes of a key, no other asks, puts or takes out as a compute of an
-- equal key
abbrev pub OneComputeActs : (K V E : Type 0) → (K → K → Bool) → Type 0
OneComputeActs K V E eq =
    (s t : State K V E) (begin : Start K V) (a b : K) (n m : ℕ) (reply : Turn K V E) →
    OwnsComputes s n a → WasStarted eq begin m s → computed_key begin ≡ Some b → eq a b ≡ true →
    Step eq s m reply t → Acts s reply t → m ≡ n

module _ {K V E : Type 0} where
  -- the plan settles next: that item alone does
  abbrev pub IsSettling : List (Item K V E) → Type 0
  IsSettling (plan.Settle with ∷ rest) = Unit {0}
  IsSettling _ = ⊥

-- and it owns them until it settles, whatever calls go on meanwhile
abbrev pub OwnedUntilSettled : (K V E : Type 0) → (K → K → Bool) → Type 0
OwnedUntilSettled K V E eq =
    (s t : State K V E) (key : K) (n m : ℕ) (reply : Turn K V E) → IsReached eq s →
    OwnsComputes s n key → (step : Step eq s m reply t) →
    OwnsComputes t n key ⊎ ((m ≡ n) × IsSettling step.call.plan)

-- ---- waiting

-- The call waits for an owner, and that still owns this load: where it is a compute the other is
-- one, and where it is a load the other is none.
pub record WaitsAlike {K V E : Type 0} (c : Call K V E) (load : Load K) : Type 0 where
  pub computes : (compute : Compute K) (rest : List (Item K V E)) →
      c.plan ≡ plan.Read_key compute ∷ rest → load.kind ≡ kind.Compute
  pub loads : (sought : Sought K) (rest : List (Item K V E)) →
      c.plan ≡ plan.Read sought ∷ rest → load.kind ≢ kind.Compute

-- no compute waits for the owner of a load, and no load for the owner of a key's computes
abbrev pub WaitsAreApart : (K V E : Type 0) → (K → K → Bool) → Type 0
WaitsAreApart K V E eq =
    (s : State K V E) (n owner : ℕ) (c : Call K V E) (load : Load K) → IsReached eq s →
    s.calls n ≡ Some c → s.world.desk.joined n ≡ Some owner →
    s.world.desk.owning owner ≡ Some load → WaitsAlike c load

-- a call that computes alone waits for no owner, whatever happens
abbrev pub AloneWaitsForNobody : (K V E : Type 0) → (K → K → Bool) → Type 0
AloneWaitsForNobody K V E eq =
    (s : State K V E) (key : K) (n : ℕ) → WasStarted eq (start.ComputeAlone key) n s →
    s.world.desk.joined n ≡ None

-- ---- what it is asked with

-- The step looks up what the compute's key has, as the owner of its computes.
pub record LooksAsOwner {K V E : Type 0} (n : ℕ) (compute : Compute K) (key : K)
    (found : Option (K × Stored V)) (s : State K V E) (c : Call K V E) (reply : Turn K V E)
    (t : State K V E) : Type 0 where
  pub look : LooksUp n (plan.To_compute compute) key found s c reply t
  pub owns : OwnsComputes s n key

-- What a compute is asked with: what its own look as the owner has shown, or none where the cache is
-- disabled.
pub data AskedWith {K V E : Type 0} (eq : K → K → Bool) (s : State K V E) (n : ℕ) (key : K) :
    Option (K × V) → Type 0 where
  Disabled : is_disabled s.world.desk.rules ≡ true → AskedWith eq s n key None
  Looked : (compute : Compute K) (pair : Option (K × V)) →
      HasShown eq s n (plan.To_compute compute) (LooksAsOwner n compute key) pair →
      AskedWith eq s n key pair

-- a compute asks with what its own look has shown
abbrev pub AsksCarryFound : (K V E : Type 0) → (K → K → Bool) → Type 0
AsksCarryFound K V E eq =
    (s t : State K V E) (begin : Start K V) (key : K) (n : ℕ) (pair : Option (K × V)) →
    WasStarted eq begin n s → computed_key begin ≡ Some key →
    Step eq s n (turn.Ask (ask.Compute pair)) t → AskedWith eq s n key pair

-- ---- what it does and answers

module _ {K V E : Type 0} (n : ℕ) where
  -- the step asks with the pair
  pub record AsksWith (compute : Compute K) (pair : Option (K × V)) (s : State K V E)
      (c : Call K V E) (reply : Turn K V E) (t : State K V E) : Type 0 where
    pub asking : c.plan ≡ plan.Ask_op compute pair ∷ []
    pub asks : reply ≡ turn.Ask (ask.Compute pair)

  -- the step takes this answer to the ask that was made with the pair
  pub record TakesOp (compute : Compute K) (pair : Option (K × V)) (given : Told V E)
      (s : State K V E) (c : Call K V E) (reply : Turn K V E) (t : State K V E) : Type 0 where
    pub telling : c.plan ≡ plan.Told_op compute pair ∷ []
    pub told : s.world.desk.told n ≡ Some given

  -- the step takes out what stood under the compute's key, if anything did
  pub record TakesOut (eq : K → K → Bool) (key : K) (out : Option (K × Stored V)) (s : State K V E)
      (c : Call K V E) (reply : Turn K V E) (t : State K V E) : Type 0 where
    pub removing : c.plan ≡ plan.Out (plan.To_remove_as_told key) key ∷ []
    pub stood : s.world.table.stored key ≡ out
    pub left : t.world.table ≡ by_pair out (removed eq n s.world.table key) s.world.table
    pub decided : HasDecided n c t

-- a compute that was told this is to leave the map as it is
abbrev pub leaves_map : {V E : Type 0} → Told V E → Bool
leaves_map (told.Op op.Nop) = true
leaves_map (told.Err error) = true
leaves_map (told.Op (op.Put value)) = false
leaves_map (told.Op op.Remove) = false
leaves_map (told.Value value) = false
leaves_map told.Nothing = false
leaves_map told.Done = false
leaves_map told.Off = false

-- from a told nop or error on no step of the call changes the map: neither that which takes it, nor
-- a later one
abbrev pub NopsChangeNothing : (K V E : Type 0) → (K → K → Bool) → Type 0
NopsChangeNothing K V E eq =
    (s t u v : State K V E) (n : ℕ) (c : Call K V E) (compute : Compute K) (pair : Option (K × V))
    (given : Told V E) (reply last : Turn K V E) →
    IsReached eq s → s.calls n ≡ Some c → Step eq s n reply t →
    TakesOp n compute pair given s c reply t → leaves_map given ≡ true →
    Leads eq t u → Step eq u n last v →
    (t.world.table ≡ s.world.table) × (v.world.table ≡ u.world.table)

-- and a compute that was told nop answers the value that it was asked with
abbrev pub NopsAnswerAsked : (K V E : Type 0) → (K → K → Bool) → Type 0
NopsAnswerAsked K V E eq =
    (s t u v : State K V E) (begin : Start K V) (key : K) (n : ℕ) (c : Call K V E)
    (compute : Compute K) (pair : Option (K × V)) (reply : Turn K V E) (a : Answer K V E) →
    WasStarted eq begin n s → computed_key begin ≡ Some key → s.calls n ≡ Some c →
    Step eq s n reply t → TakesOp n compute pair (told.Op op.Nop) s c reply t →
    Leads eq t u → Step eq u n (turn.Answer a) v →
    HasMade eq s n (AsksWith n compute pair) × (a ≡ unchanged key pair)

-- what a compute answers that took this out, if anything
abbrev pub out_answer : {K V E : Type 0} → K → Option (K × Stored V) → Answer K V E
out_answer key None = unchanged key None
out_answer key (Some pair) = removed_value key pair.1.value

-- What a compute answers that asked with the pair and was told this. A nop answers what it was
-- asked with; whether a put replaced goes by that too; and a remove answers what the table had. No
-- ask of a compute takes any other answer.
abbrev pub SaysTold : {K V E : Type 0} → (K → K → Bool) → State K V E → ℕ → K → Option (K × V) →
    Told V E → Answer K V E → Type 0
SaysTold eq s n key pair (told.Op op.Nop) a = a ≡ unchanged key pair
SaysTold eq s n key pair (told.Op (op.Put value)) a = a ≡ put_answer key pair value
SaysTold eq s n key pair (told.Value value) a = a ≡ put_answer key pair value
SaysTold {K = K} {V = V} eq s n key pair (told.Op op.Remove) a =
    (out : Option (K × Stored V)) × HasMade eq s n (TakesOut n eq key out) ×
    (a ≡ out_answer key out)
SaysTold eq s n key pair (told.Err error) a = a ≡ answer.ComputeErr error
SaysTold eq s n key pair _ a = ⊥

-- the step finds that another call owns the computes of the key, and leaves them to that
pub record StandsAside {K V E : Type 0} (key : K) (s : State K V E) (c : Call K V E)
    (reply : Turn K V E) (t : State K V E) : Type 0 where
  pub alone : c.plan ≡ plan.Own_alone key ∷ []
  pub owned : IsSome (s.world.desk.owners (record { key = key; kind = kind.Compute }))

-- what the look of a compute that leaves the key as it is has shown
abbrev pub HasShownAlone : {K V E : Type 0} → (K → K → Bool) → State K V E → ℕ → K →
    Option (K × V) → Type 0
HasShownAlone eq s n key pair =
    HasShown eq s n (plan.To_show (plan.As_report key))
    (LooksUp n (plan.To_show (plan.As_report key)) key) pair

-- Where the answer of a compute of the key comes from: from what it was told when it had asked; or,
-- where it computes alone beside an owner, from what its look has shown.
pub data ComputeSays {K V E : Type 0} (eq : K → K → Bool) (begin : Start K V) (s : State K V E)
    (n : ℕ) (key : K) (a : Answer K V E) : Type 0 where
  Was_told : (compute : Compute K) (pair : Option (K × V)) (given : Told V E) → compute.key ≡ key →
      HasMade eq s n (AsksWith n compute pair) → HasMade eq s n (TakesOp n compute pair given) →
      SaysTold eq s n key pair given a → ComputeSays eq begin s n key a
  Was_disabled : begin ≡ start.ComputeAlone key → HasMade eq s n (StandsAside key) →
      is_disabled s.world.desk.rules ≡ true → a ≡ unchanged key None →
      ComputeSays eq begin s n key a
  Reports : (pair : Option (K × V)) → begin ≡ start.ComputeAlone key →
      HasMade eq s n (StandsAside key) → HasShownAlone eq s n key pair →
      a ≡ unchanged key pair → ComputeSays eq begin s n key a

-- a compute answers by what it was told, never what another compute settled
abbrev pub ComputesAnswerTold : (K V E : Type 0) → (K → K → Bool) → Type 0
ComputesAnswerTold K V E eq =
    (s t : State K V E) (begin : Start K V) (key : K) (n : ℕ) (a : Answer K V E) →
    WasStarted eq begin n s → computed_key begin ≡ Some key → Step eq s n (turn.Answer a) t →
    ComputeSays eq begin t n key a
