-- Loads that fail, find nothing or load again: what an owner and those that wait for it answer.
use Rattle.std.specs.Prelude.{◌≡◌, ◌≤◌, ◌↔◌, ◌⊎◌, ℕ, ◌+◌, Bool, true, false, cond, ◌&&◌, List, [], ◌∷◌, Option, Some, None, is_some}
use Rattle.std.specs.Option.{option_map_or}
use Rattle.moka_hist.specs.State.{Call, State}
use Rattle.moka_hist.specs.Conditions.{may_end}
use Rattle.moka_hist.specs.Loading.{retries}
use Rattle.moka_hist.specs.Plan.{Item, end_load, look, is_disabled}
use Rattle.moka_hist.specs.Plan as plan
use Rattle.moka_hist.specs.Visits.{is_seen, settlement_for}
use Rattle.moka_hist.specs.Step.{Step, replace_of}
use Rattle.moka_hist.specs.Run.{Happens, Any, IsReached}
use Rattle.moka_laws.specs.Starts.{may_answer}
use Rattle.moka_hist.specs.declared.accesses.Turn.{Turn}
use Rattle.moka_hist.specs.declared.accesses.Turn.TheVariants as turn
use Rattle.moka_hist.specs.declared.events.Event.TheVariants as event
use Rattle.moka_hist.specs.declared.events.Start.{Start}
use Rattle.moka_hist.specs.declared.events.Told.{Told}
use Rattle.moka_hist.specs.declared.events.Told.TheVariants as told
use Rattle.moka_hist.specs.declared.loads.Kind.{Kind}
use Rattle.moka_hist.specs.declared.loads.Kind.TheVariants as kind
use Rattle.moka_hist.specs.declared.loads.Load.{Load}
use Rattle.moka_hist.specs.declared.loads.Sought.{Sought}
use Rattle.moka_hist.specs.declared.records.Stored.{Stored}
use Rattle.moka_hist.specs.declared.replies.Ask.TheVariants as ask
use Rattle.moka_hist.specs.declared.replies.Answer.{Answer}
use Rattle.moka_hist.specs.declared.replies.Answer.TheVariants as answer
use Rattle.moka_hist.specs.declared.replies.Reply.TheVariants as reply
use Rattle.moka_hist.specs.declared.visits.Settled.{Settled}
use Rattle.moka_hist.specs.declared.visits.Settled.TheVariants as settled
use Rattle.moka_laws.specs.Missing.{waits_for}
use Rattle.moka_laws.specs.Starting.{Leads, Way, WasStarted}

-- what is answered where an owner ended its load so: the value, the error, or that there is none;
-- the value as `fresh` by the owner whose own initializer gave it
abbrev pub said_of : {K V E : Type 0} → Settled V E → Bool → Option (Answer K V E)
said_of settled.NotYet fresh = None
said_of (settled.Ready value) fresh = Some (answer.Loaded value fresh)
said_of (settled.Err error) fresh = Some (answer.InitErr error)
said_of settled.Nothing fresh = Some answer.Nothing
said_of settled.Aborted fresh = None

-- the reply answers what a load came to that ended so
pub record Says {K V E : Type 0} (with : Settled V E) (reply : Turn K V E) : Type 0 where
  pub fresh : Bool
  pub answer : Answer K V E
  pub said : said_of with fresh ≡ Some answer
  pub answers : reply ≡ turn.Answer answer

-- the answer is what a compute did, or the error that it was told
abbrev pub is_computed : {K V E : Type 0} → Answer K V E → Bool
is_computed (answer.Computed done) = true
is_computed (answer.ComputeErr error) = true
is_computed answer.Done = false
is_computed (answer.Found found) = false
is_computed (answer.Loaded value fresh) = false
is_computed answer.Nothing = false
is_computed (answer.InitErr error) = false
is_computed answer.RetriesExhausted = false
is_computed answer.Evicted = false
is_computed answer.Kept = false
is_computed answer.End = false
is_computed (answer.Id id) = false
is_computed answer.ClosuresDisabled = false
is_computed answer.NoId = false

-- the reply answers as a compute does that ended so: for those that wait, with nothing
pub record SaysComputed {K V E : Type 0} (with : Settled V E) (reply : Turn K V E) : Type 0 where
  pub answer : Answer K V E
  pub ended : with ≡ settled.Nothing
  pub computed : is_computed answer ≡ true
  pub answers : reply ≡ turn.Answer answer

-- the reply answers as the owner of a load of this kind does, or of a compute, that ended so
abbrev pub SaysAs : {K V E : Type 0} → Kind → Settled V E → Turn K V E → Type 0
SaysAs kind.GetWith with reply = Says with reply
SaysAs kind.Optional with reply = Says with reply
SaysAs kind.Try with reply = Says with reply
SaysAs kind.Compute with reply = SaysComputed with reply

-- the owner of a load answers what it settles, with the step by which it does: it ends that with a
-- value, with an error, or with nothing; and the owner of a compute ends it with nothing, and
-- answers what it did
abbrev pub OwnersAnswerSettled : (K V E : Type 0) → (K → K → Bool) → Type 0
OwnersAnswerSettled K V E eq =
    (s t : State K V E) (n : ℕ) (c : Call K V E) (load : Load K) (with : Settled V E)
    (rest : List (Item K V E)) (reply : Turn K V E) →
    IsReached eq s → s.calls n ≡ Some c → s.world.desk.owning n ≡ Some load →
    c.plan ≡ plan.Settle with ∷ rest → Step eq s n reply t → SaysAs load.kind with reply

-- ---- what an answer comes from

module _ {K V E : Type 0} where
  -- The live call waits for an owner that has ended so, which it reads with its next step.
  pub record Reads (s : State K V E) (n : ℕ) (c : Call K V E) (with : Settled V E) : Type 0 where
    pub sought : Sought K
    pub reading : c.plan ≡ plan.Read sought ∷ []
    pub ended : settlement_for s.world.desk n ≡ Some with

  -- The live call takes this answer to its own ask with its next step.
  pub record TakesTold (s : State K V E) (n : ℕ) (c : Call K V E) (given : Told V E) : Type 0 where
    pub load : Load K
    pub telling : c.plan ≡ plan.Told load ∷ []
    pub told : s.world.desk.told n ≡ Some given

-- what an initializer was told to have given, where a load ended so without a value
abbrev pub told_as : {V E : Type 0} → Settled V E → Option (Told V E)
told_as settled.NotYet = None
told_as (settled.Ready value) = None
told_as (settled.Err error) = Some (told.Err error)
told_as settled.Nothing = Some told.Nothing
told_as settled.Aborted = None

-- a step answers nothing exactly where the call's owner has ended its load so, or the call ends its
-- own so
abbrev pub NothingByCause : (K V E : Type 0) → (K → K → Bool) → Type 0
NothingByCause K V E eq =
    (s t : State K V E) (n : ℕ) (c : Call K V E) (reply : Turn K V E) →
    IsReached eq s → s.calls n ≡ Some c → Step eq s n reply t →
    (reply ≡ turn.Answer answer.Nothing) ↔
    (Reads s n c settled.Nothing ⊎ (c.plan ≡ end_load settled.Nothing answer.Nothing))

-- and an error exactly where the owner has ended its load with that, or the call ends its own with
-- it
abbrev pub ErrorByCause : (K V E : Type 0) → (K → K → Bool) → Type 0
ErrorByCause K V E eq =
    (s t : State K V E) (n : ℕ) (c : Call K V E) (error : E) (reply : Turn K V E) →
    IsReached eq s → s.calls n ≡ Some c → Step eq s n reply t →
    (reply ≡ turn.Answer (answer.InitErr error)) ↔
    (Reads s n c (settled.Err error) ⊎
    (c.plan ≡ end_load (settled.Err error) (answer.InitErr error)))

-- a step answers that the call gave up exactly where it reads that its owner was dropped, and has
-- read that 199 times before
abbrev pub ExhaustedAtLast : (K V E : Type 0) → (K → K → Bool) → Type 0
ExhaustedAtLast K V E eq =
    (s t : State K V E) (n : ℕ) (c : Call K V E) (reply : Turn K V E) →
    IsReached eq s → s.calls n ≡ Some c → Step eq s n reply t →
    (reply ≡ turn.Answer answer.RetriesExhausted) ↔
    (Reads s n c settled.Aborted × (c.aborts + 1 ≡ retries))

-- ---- where a call comes from

-- The last step that made the call of this number what it is, on the way to this state, and why
-- that step did.
pub record CameBy {K V E : Type 0} (eq : K → K → Bool) (s : State K V E) (n : ℕ) (c : Call K V E)
    (Cause : State K V E → Call K V E → Type 0) : Type 0 where
  pub before : State K V E
  pub reached : IsReached eq before
  pub call : Call K V E
  pub live : before.calls n ≡ Some call
  pub cause : Cause before call
  pub after : State K V E
  pub turn : Turn K V E
  pub step : Step eq before n turn after
  pub left : after.calls n ≡ Some c
  pub led : Leads eq after s

-- in every reached state a call that is to end its own load with nothing or an error, and to answer
-- that, came to that by the step that took it as the answer to its own ask
abbrev pub OwnEndsAreTold : (K V E : Type 0) → (K → K → Bool) → Type 0
OwnEndsAreTold K V E eq =
    (s : State K V E) (n : ℕ) (c : Call K V E) (with : Settled V E) (said : Answer K V E)
    (given : Told V E) →
    IsReached eq s → s.calls n ≡ Some c → told_as with ≡ Some given →
    said_of with false ≡ Some said → c.plan ≡ end_load with said →
    CameBy eq s n c (λ u b. TakesTold u n b given)

module _ {K V E : Type 0} where
  -- the call looks up, as the owner of its load, and sees nothing: nothing is there, or its replace
  -- test holds on what is, or that isn't visible
  abbrev pub LooksInVain : State K V E → Call K V E → Sought K → Type 0
  LooksInVain s c sought =
      ((c.plan ≡ look (plan.To_own sought) sought.load.key) ×
      (s.world.table.stored sought.load.key ≡ None)) ⊎
      ((key : K) × (stored : Stored V) ×
      (c.plan ≡ plan.Judge (plan.To_own sought) key stored ∷ []) ×
      (is_seen s.world.desk sought.replace key stored ≡ false))

  -- The call is to ask what the load gives once it has made this step: as its owner it has looked
  -- again in vain, or the cache is disabled and it has become the owner.
  pub record AsksNext (s : State K V E) (c : Call K V E) (load : Load K) : Type 0 where
    pub sought : Sought K
    pub seeks : sought.load ≡ load
    pub why : LooksInVain s c sought ⊎
        ((is_disabled c.rules ≡ true) × (c.plan ≡ plan.Own sought ∷ []) ×
        (s.world.desk.owners load ≡ None))

-- The live call opens the initializer of a load as the owner of that, right after it has looked
-- again in vain, unless the cache is disabled.
pub record OpensAsOwner {K V E : Type 0} (eq : K → K → Bool) (s : State K V E) (n : ℕ)
    (c : Call K V E) : Type 0 where
  pub load : Load K
  pub asking : c.plan ≡ plan.Ask load ∷ []
  pub owner : s.world.desk.owners load ≡ Some n
  pub came : CameBy eq s n c (λ u b. AsksNext u b load)

-- an initializer is opened by the owner of its load alone
abbrev pub OpenedByOwners : (K V E : Type 0) → (K → K → Bool) → Type 0
OpenedByOwners K V E eq =
    (s t : State K V E) (n : ℕ) (c : Call K V E) →
    IsReached eq s → s.calls n ≡ Some c → Step eq s n (turn.Ask ask.Init) t → OpensAsOwner eq s n c

-- ---- how often

-- how an owner ended that was dropped
abbrev pub is_aborted : {V E : Type 0} → Settled V E → Bool
is_aborted settled.NotYet = false
is_aborted (settled.Ready value) = false
is_aborted (settled.Err error) = false
is_aborted settled.Nothing = false
is_aborted settled.Aborted = true

module _ {K V E : Type 0} where
  -- the plan reads first how its owner ended
  abbrev pub is_reading : List (Item K V E) → Bool
  is_reading [] = false
  is_reading (plan.Drain ∷ rest) = false
  is_reading (plan.Ended notice ∷ rest) = false
  is_reading (plan.Post held ∷ rest) = false
  is_reading (plan.Turn ∷ rest) = false
  is_reading (plan.Apply ∷ rest) = false
  is_reading (plan.End ∷ rest) = false
  is_reading (plan.Get aim key ∷ rest) = false
  is_reading (plan.Judge aim key stored ∷ rest) = false
  is_reading (plan.Own sought ∷ rest) = false
  is_reading (plan.Read sought ∷ rest) = true
  is_reading (plan.Settle with ∷ rest) = false
  is_reading (plan.Ask load ∷ rest) = false
  is_reading (plan.Told load ∷ rest) = false
  is_reading (plan.Own_key compute ∷ rest) = false
  is_reading (plan.Own_alone key ∷ rest) = false
  is_reading (plan.Read_key compute ∷ rest) = false
  is_reading (plan.Ask_op compute found ∷ rest) = false
  is_reading (plan.Told_op compute found ∷ rest) = false
  is_reading (plan.Holds key stamp cause there found ∷ rest) = false
  is_reading (plan.Lock key ∷ rest) = false
  is_reading (plan.Unlock wrote ∷ rest) = false
  is_reading (plan.Notice key old cause upsert ∷ rest) = false
  is_reading (plan.Heard ∷ rest) = false
  is_reading (plan.Moment change ∷ rest) = false
  is_reading (plan.Write key value moment ∷ rest) = false
  is_reading (plan.Out removal key ∷ rest) = false
  is_reading (plan.Idle ∷ rest) = false
  is_reading (plan.Invalidate_all ∷ rest) = false
  is_reading (plan.Register test ∷ rest) = false
  is_reading (plan.List_keys part ∷ rest) = false
  is_reading (plan.Find key ∷ rest) = false
  is_reading (plan.Scan there found ∷ rest) = false
  is_reading (plan.Candidates parts ∷ rest) = false
  is_reading (plan.Strike there found ∷ rest) = false
  is_reading (plan.Retire ∷ rest) = false
  is_reading (plan.Reply answer ∷ rest) = false

  -- 1 where the call of this number reads with its next step that its owner was dropped
  abbrev pub reads_aborted : ℕ → State K V E → Call K V E → ℕ
  reads_aborted n s c =
      cond (is_reading c.plan && option_map_or is_aborted (settlement_for s.world.desk n) false) 1 0

  -- 1 where the plan asks its replace test first: where it has one, and judges a record
  abbrev pub test_asked : List (Item K V E) → ℕ
  test_asked [] = 0
  test_asked (plan.Drain ∷ rest) = 0
  test_asked (plan.Ended notice ∷ rest) = 0
  test_asked (plan.Post held ∷ rest) = 0
  test_asked (plan.Turn ∷ rest) = 0
  test_asked (plan.Apply ∷ rest) = 0
  test_asked (plan.End ∷ rest) = 0
  test_asked (plan.Get aim key ∷ rest) = 0
  test_asked (plan.Judge aim key stored ∷ rest) = cond (is_some (replace_of aim)) 1 0
  test_asked (plan.Own sought ∷ rest) = 0
  test_asked (plan.Read sought ∷ rest) = 0
  test_asked (plan.Settle with ∷ rest) = 0
  test_asked (plan.Ask load ∷ rest) = 0
  test_asked (plan.Told load ∷ rest) = 0
  test_asked (plan.Own_key compute ∷ rest) = 0
  test_asked (plan.Own_alone key ∷ rest) = 0
  test_asked (plan.Read_key compute ∷ rest) = 0
  test_asked (plan.Ask_op compute found ∷ rest) = 0
  test_asked (plan.Told_op compute found ∷ rest) = 0
  test_asked (plan.Holds key stamp cause there found ∷ rest) = 0
  test_asked (plan.Lock key ∷ rest) = 0
  test_asked (plan.Unlock wrote ∷ rest) = 0
  test_asked (plan.Notice key old cause upsert ∷ rest) = 0
  test_asked (plan.Heard ∷ rest) = 0
  test_asked (plan.Moment change ∷ rest) = 0
  test_asked (plan.Write key value moment ∷ rest) = 0
  test_asked (plan.Out removal key ∷ rest) = 0
  test_asked (plan.Idle ∷ rest) = 0
  test_asked (plan.Invalidate_all ∷ rest) = 0
  test_asked (plan.Register test ∷ rest) = 0
  test_asked (plan.List_keys part ∷ rest) = 0
  test_asked (plan.Find key ∷ rest) = 0
  test_asked (plan.Scan there found ∷ rest) = 0
  test_asked (plan.Candidates parts ∷ rest) = 0
  test_asked (plan.Strike there found ∷ rest) = 0
  test_asked (plan.Retire ∷ rest) = 0
  test_asked (plan.Reply answer ∷ rest) = 0

  -- 1 where the call asks its replace test with its next step
  abbrev pub asks_test : State K V E → Call K V E → ℕ
  asks_test s c = test_asked c.plan

-- a live call's `aborts` is how often it has read that its owner was dropped, since it was started
abbrev pub AbortsAreCounted : (K V E : Type 0) → (K → K → Bool) → Type 0
AbortsAreCounted K V E eq =
    (s begun t : State K V E) (start : Start K V) (n k : ℕ) (c : Call K V E) →
    IsReached eq s → Happens eq Any s (event.Start start) (reply.Call n) begun →
    Way eq n (reads_aborted n) k begun t → t.calls n ≡ Some c → c.aborts ≡ k

-- over all its steps a call asks its replace test at most twice
abbrev pub TestsAreTwo : (K V E : Type 0) → (K → K → Bool) → Type 0
TestsAreTwo K V E eq =
    (s begun t : State K V E) (start : Start K V) (n k : ℕ) →
    IsReached eq s → Happens eq Any s (event.Start start) (reply.Call n) begun →
    Way eq n asks_test k begun t → k ≤ 2

-- ---- what fits a kind

-- how an owner ended that a call reads on a reached state is how an owner of what the call waits
-- for may end: of a `get_with` neither with nothing nor with an error, of an `optional` with no
-- error, of a `try` not with nothing, and of a compute neither with a value nor with an error
abbrev pub SettlementsFit : (K V E : Type 0) → (K → K → Bool) → Type 0
SettlementsFit K V E eq =
    (s : State K V E) (n : ℕ) (c : Call K V E) (item : Item K V E) (rest : List (Item K V E))
    (load : Load K) (with : Settled V E) →
    IsReached eq s → s.calls n ≡ Some c → c.plan ≡ item ∷ rest → waits_for item ≡ Some load →
    settlement_for s.world.desk n ≡ Some with → may_end load.kind with ≡ true

-- a call answers as what it was started for may: a `get_with` neither nothing nor an error, an
-- `optional` no error, a `try` not nothing, and no compute gives up
abbrev pub AnswersFit : (K V E : Type 0) → (K → K → Bool) → Type 0
AnswersFit K V E eq =
    (s t : State K V E) (start : Start K V) (n : ℕ) (a : Answer K V E) → WasStarted eq start n s →
    Step eq s n (turn.Answer a) t → may_answer start a ≡ true
