-- What a call has still to do.
use Rattle.std.specs.Prelude.{ℕ, zero, suc, ◌+◌, ◌==◌, Bool, true, false, List, [], ◌∷◌, Option, Some, None}
use Rattle.std.specs.Option.{option_map_or}
use Rattle.moka_hist.specs.declared.loads.Load.{Load}
use Rattle.moka_hist.specs.declared.loads.Sought.{Sought}
use Rattle.moka_hist.specs.declared.loads.Kind.{Kind}
use Rattle.moka_hist.specs.declared.loads.Compute.{Compute}
use Rattle.moka_hist.specs.declared.visits.Takes.TheVariants as takes
use Rattle.moka_hist.specs.declared.loads.Kind.TheVariants as kind
use Rattle.moka_hist.specs.declared.records.Stored.{Stored}
use Rattle.moka_hist.specs.declared.events.Start as event
use Rattle.moka_hist.specs.declared.events.Start.TheVariants as start
use Rattle.moka_hist.specs.declared.replies.Answer as reply
use Rattle.moka_hist.specs.declared.replies.Answer.TheVariants as answer
use Rattle.moka_hist.specs.declared.visits.Settled as visit
use Rattle.moka_hist.specs.declared.visits.Settled.TheVariants as settled
use Rattle.moka_hist.specs.declared.rules.Cause.{Cause}
use Rattle.moka_hist.specs.declared.rules.Rules.{Rules}
use Rattle.moka_hist.specs.declared.writes.Write as write

-- how a look that only answers shows what it found: as a get's value, or as the report of a compute
-- that leaves it as it is
pub data Shown (K : Type 0) : Type 0 where
  As_value : Shown K
  As_report : (key : K) → Shown K

-- what a look is for: to answer what was found, to load what wasn't, to own a load, to store a
-- value where nothing was found, to compute, or to evict
pub data Aim (K V : Type 0) : Type 0 where
  To_show : (form : Shown K) → Aim K V
  To_load : (sought : Sought K) → Aim K V
  To_own : (sought : Sought K) → Aim K V
  To_insert : (key : K) → (value : V) → Aim K V
  -- to ask what is to be done with what was found
  To_compute : (compute : Compute K) → Aim K V
  -- to take out the record of this stamp, which was chosen for this cause
  To_evict : (key : K) → (stamp : ℕ) → (cause : Cause) → Aim K V

-- what a removal is for
pub data Removal (K : Type 0) : Type 0 where
  To_invalidate : Removal K
  To_remove : Removal K
  To_evict_chosen : (stamp : ℕ) → (cause : Cause) → Removal K
  -- as a compute of this key was told
  To_remove_as_told : (key : K) → Removal K

-- what a moment is taken for
pub data Change (K V : Type 0) : Type 0 where
  To_store : (key : K) → (value : V) → Change K V
  To_take_out : (removal : Removal K) → (key : K) → Change K V

-- One thing to do, in one step.
pub data Item (K V E : Type 0) : Type 0 where
  -- take up the writes that dropped calls left
  Drain : Item K V E
  -- hear how the notice of an owed write ended, which still ran as its call was dropped
  Ended : (notice : ℕ) → Item K V E
  -- append the write to the log; where that is full, take the turn, apply the log, end the turn
  Post : (held : write.Write) → Item K V E
  Turn : Item K V E
  Apply : Item K V E
  End : Item K V E
  -- look a key up, and judge the record that was found
  Get : (aim : Aim K V) → (key : K) → Item K V E
  Judge : (aim : Aim K V) → (key : K) → (found : Stored V) → Item K V E
  -- own a load or wait for its owner, read how that one ended, and end one's own
  Own : (sought : Sought K) → Item K V E
  Read : (sought : Sought K) → Item K V E
  Settle : (with : visit.Settled V E) → Item K V E
  -- ask what the load gives, and take the answer
  Ask : (load : Load K) → Item K V E
  Told : (load : Load K) → Item K V E
  -- own the computes of a key or wait for their owner, and read that it has ended; ask what is to
  -- be done with what was found, and take the answer
  Own_key : (compute : Compute K) → Item K V E
  Own_alone : (key : K) → Item K V E
  Read_key : (compute : Compute K) → Item K V E
  Ask_op : (compute : Compute K) → (found : Option (K × V)) → Item K V E
  Told_op : (compute : Compute K) → (found : Option (K × V)) → Item K V E
  -- judge whether a chosen record has still to leave
  Holds : (key : K) → (stamp : ℕ) → (cause : Cause) → (there : K) → (found : Stored V) → Item K V E
  -- hold the key's lock around a write and its notice; `wrote` says whether something was written
  -- under it
  Lock : (key : K) → Item K V E
  Unlock : (wrote : Bool) → Item K V E
  -- tell the listener of the record that left, by a write in its place (`upsert`) or a removal, and
  -- hear its answer
  Notice : (key : K) → (old : Stored V) → (cause : Option Cause) → (upsert : Bool) → Item K V E
  Heard : Item K V E
  -- take the moment of a change; write, or take out
  Moment : (change : Change K V) → Item K V E
  Write : (key : K) → (value : V) → (moment : ℕ) → Item K V E
  Out : (removal : Removal K) → (key : K) → Item K V E
  -- read the clock, where a removal found nothing
  Idle : Item K V E
  -- hide all records that were written before now
  Invalidate_all : Item K V E
  -- register the predicate of this number
  Register : (test : ℕ) → Item K V E
  -- list the keys of a part, look one of them up, and judge whether the record that was found is
  -- visible
  List_keys : (part : ℕ) → Item K V E
  Find : (key : K) → Item K V E
  Scan : (there : K) → (found : Stored V) → Item K V E
  -- choose the predicates that may leave, of a table with so many parts; strike those that hide the
  -- record that was found; and let the others leave
  Candidates : (parts : ℕ) → Item K V E
  Strike : (there : K) → (found : Stored V) → Item K V E
  Retire : Item K V E
  -- answer, together with the step before
  Reply : (answer : reply.Answer K V E) → Item K V E

-- look a key up
abbrev pub look : {K V E : Type 0} → Aim K V → K → List (Item K V E)
look aim key = Get aim key ∷ []

-- go on under the key's lock, where a listener is set
abbrev pub under_lock : {K V E : Type 0} → Bool → K → List (Item K V E) → List (Item K V E)
under_lock false key rest = rest
under_lock true key rest = Lock key ∷ rest

-- store a value, and then go on
abbrev pub put : {K V E : Type 0} → Rules → K → V → List (Item K V E) → List (Item K V E)
put rules key value rest =
    Drain ∷ under_lock rules.listener key (Moment (To_store key value) ∷ rest)

-- take out what stands under the key, and answer
abbrev pub take_out : {K V E : Type 0} → Rules → Removal K → K → List (Item K V E)
take_out rules removal key =
    Drain ∷ under_lock rules.listener key (Moment (To_take_out removal key) ∷ [])

-- a cache of capacity 0 is disabled: it stores nothing
abbrev pub is_disabled : Rules → Bool
is_disabled rules = option_map_or (λ most. most == 0) rules.max_capacity false

-- tell those that wait how the load ended, and answer
abbrev pub end_load : {K V E : Type 0} → visit.Settled V E → reply.Answer K V E → List (Item K V E)
end_load with said = Settle with ∷ Reply said ∷ []

-- tell those that wait the value that an initializer gave, and answer it
abbrev pub told_on : {K V E : Type 0} → V → List (Item K V E)
told_on value = end_load (settled.Ready value) (answer.Loaded value true)

-- store what an initializer gave, unless the cache is disabled, and tell those that wait
abbrev pub load_rest : {K V E : Type 0} → Bool → Rules → K → V → List (Item K V E)
load_rest true rules key value = told_on value
load_rest false rules key value = put rules key value (told_on value)

abbrev pub loaded : {K V E : Type 0} → Rules → Load K → V → List (Item K V E)
loaded rules load value = load_rest (is_disabled rules) rules load.key value

-- a load of this kind, with this replace test, if any
abbrev pub seek : {K : Type 0} → Kind → K → Option ℕ → Sought K
seek kind key replace = record { load = record { key = key; kind = kind }; replace = replace }

-- the plan of a call that looks up, stores or loads: a disabled cache neither looks nor stores
abbrev pub get_plan : {K V E : Type 0} → Bool → K → List (Item K V E)
get_plan true key = Reply (answer.Found None) ∷ []
get_plan false key = Drain ∷ look (To_show As_value) key

abbrev pub insert_plan : {K V E : Type 0} → Bool → Rules → K → V → List (Item K V E)
insert_plan true rules key value = Reply answer.Done ∷ []
insert_plan false rules key value = put rules key value (Reply answer.Done ∷ [])

abbrev pub load_plan : {K V E : Type 0} → Bool → Sought K → List (Item K V E)
load_plan true sought = Drain ∷ Own sought ∷ []
load_plan false sought = Drain ∷ look (To_load sought) sought.load.key

abbrev pub or_insert_plan : {K V E : Type 0} → Bool → K → V → List (Item K V E)
or_insert_plan true key value = Drain ∷ Reply (answer.Loaded value true) ∷ []
or_insert_plan false key value = Drain ∷ look (To_insert key value) key

-- list so many parts, from this one on, and go on so
abbrev pub lists_from : {K V E : Type 0} → ℕ → ℕ → List (Item K V E) → List (Item K V E)
lists_from part zero rest = rest
lists_from part (suc left) rest = List_keys part ∷ lists_from (part + 1) left rest

-- list them, and end
abbrev pub walk_from : {K V E : Type 0} → ℕ → ℕ → List (Item K V E)
walk_from part left = lists_from part left (Reply answer.End ∷ [])

-- the plan of a walk over so many parts
abbrev pub iter_plan : {K V E : Type 0} → Bool → ℕ → List (Item K V E)
iter_plan true parts = Reply answer.End ∷ []
iter_plan false parts = walk_from 0 parts

-- the plan of maintenance: take up and post what is owed, apply the log, and let predicates go that
-- hide nothing any more
abbrev pub pending_plan : {K V E : Type 0} → Bool → ℕ → List (Item K V E)
pending_plan true parts = Reply answer.Done ∷ []
pending_plan false parts = Drain ∷ Turn ∷ Apply ∷ End ∷ Candidates parts ∷ []

-- the whole plan of a fresh call, where the table has so many parts
abbrev pub plan_of : {K V E : Type 0} → ℕ → Rules → event.Start K V → List (Item K V E)
plan_of parts rules (start.Get key) = get_plan (is_disabled rules) key
plan_of parts rules (start.Insert key value) = insert_plan (is_disabled rules) rules key value
plan_of parts rules (start.GetWith key replace) =
    load_plan (is_disabled rules) (seek kind.GetWith key replace)
plan_of parts rules (start.Optional key) = load_plan (is_disabled rules) (seek kind.Optional key None)
plan_of parts rules (start.Try key) = load_plan (is_disabled rules) (seek kind.Try key None)
plan_of parts rules (start.OrInsert key value) = or_insert_plan (is_disabled rules) key value
plan_of parts rules (start.Compute key) = Own_key (record { key = key; takes = takes.Op }) ∷ []
plan_of parts rules (start.TryCompute key) = Own_key (record { key = key; takes = takes.TryOp }) ∷ []
plan_of parts rules (start.Upsert key) = Own_key (record { key = key; takes = takes.Value }) ∷ []
plan_of parts rules (start.ComputeAlone key) = Own_alone key ∷ []
plan_of parts rules (start.Invalidate key) = take_out rules To_invalidate key
plan_of parts rules (start.Remove key) = take_out rules To_remove key
plan_of parts rules (start.Evict key stamp cause) =
    under_lock rules.listener key (look (To_evict key stamp cause) key)
plan_of parts rules start.InvalidateAll = Invalidate_all ∷ Reply answer.Done ∷ []
plan_of parts rules (start.InvalidateIf test) = Register test ∷ []
plan_of parts rules start.Iter = iter_plan (is_disabled rules) parts
plan_of parts rules start.Pending = pending_plan (is_disabled rules) parts

-- A list is to be made, a key to be looked up, or a record to be judged or struck by. Maintenance
-- walks from its start to its end.
abbrev pub walks : {K V E : Type 0} → List (Item K V E) → Bool
walks (List_keys part ∷ rest) = true
walks (Find key ∷ rest) = true
walks (Scan there found ∷ rest) = true
walks (Candidates parts ∷ rest) = true
walks (Strike there found ∷ rest) = true
walks (Retire ∷ rest) = true
walks (Drain ∷ rest) = walks rest
walks (Ended notice ∷ rest) = walks rest
walks (Post held ∷ rest) = walks rest
walks (Turn ∷ rest) = walks rest
walks (Apply ∷ rest) = walks rest
walks (End ∷ rest) = walks rest
walks _ = false

-- the write that a call holds
abbrev pub held_by : {K V E : Type 0} → List (Item K V E) → Option write.Write
held_by [] = None
held_by (Drain ∷ rest) = held_by rest
held_by (Ended notice ∷ rest) = held_by rest
held_by (Post held ∷ rest) = Some held
held_by (Turn ∷ rest) = held_by rest
held_by (Apply ∷ rest) = held_by rest
held_by (End ∷ rest) = held_by rest
held_by (Get aim key ∷ rest) = held_by rest
held_by (Judge aim key found ∷ rest) = held_by rest
held_by (Own sought ∷ rest) = held_by rest
held_by (Read sought ∷ rest) = held_by rest
held_by (Settle with ∷ rest) = held_by rest
held_by (Ask load ∷ rest) = held_by rest
held_by (Told load ∷ rest) = held_by rest
held_by (Own_key compute ∷ rest) = held_by rest
held_by (Own_alone key ∷ rest) = held_by rest
held_by (Read_key compute ∷ rest) = held_by rest
held_by (Ask_op compute found ∷ rest) = held_by rest
held_by (Told_op compute found ∷ rest) = held_by rest
held_by (Lock key ∷ rest) = held_by rest
held_by (Unlock wrote ∷ rest) = held_by rest
held_by (Notice key old cause upsert ∷ rest) = held_by rest
held_by (Heard ∷ rest) = held_by rest
held_by (Holds key stamp cause there found ∷ rest) = held_by rest
held_by (Moment change ∷ rest) = held_by rest
held_by (Write key value moment ∷ rest) = held_by rest
held_by (Out removal key ∷ rest) = held_by rest
held_by (Idle ∷ rest) = held_by rest
held_by (Invalidate_all ∷ rest) = held_by rest
held_by (Register test ∷ rest) = held_by rest
held_by (List_keys part ∷ rest) = held_by rest
held_by (Find key ∷ rest) = held_by rest
held_by (Scan there found ∷ rest) = held_by rest
held_by (Candidates parts ∷ rest) = held_by rest
held_by (Strike there found ∷ rest) = held_by rest
held_by (Retire ∷ rest) = held_by rest
held_by (Reply answer ∷ rest) = held_by rest

-- the key whose lock the plan takes next
abbrev pub locking : {K V E : Type 0} → List (Item K V E) → Option K
locking (Lock key ∷ rest) = Some key
locking _ = None

-- the notice that the call of this number is hearing: its own, or that of an owed write
abbrev pub hearing : {K V E : Type 0} → ℕ → List (Item K V E) → Option ℕ
hearing n [] = None
hearing n (Drain ∷ rest) = None
hearing n (Ended notice ∷ rest) = Some notice
hearing n (Post held ∷ rest) = None
hearing n (Turn ∷ rest) = None
hearing n (Apply ∷ rest) = None
hearing n (End ∷ rest) = None
hearing n (Get aim key ∷ rest) = None
hearing n (Judge aim key stored ∷ rest) = None
hearing n (Own sought ∷ rest) = None
hearing n (Read sought ∷ rest) = None
hearing n (Settle with ∷ rest) = None
hearing n (Ask load ∷ rest) = None
hearing n (Told load ∷ rest) = None
hearing n (Own_key compute ∷ rest) = None
hearing n (Own_alone key ∷ rest) = None
hearing n (Read_key compute ∷ rest) = None
hearing n (Ask_op compute found ∷ rest) = None
hearing n (Told_op compute found ∷ rest) = None
hearing n (Holds key stamp cause there found ∷ rest) = None
hearing n (Lock key ∷ rest) = None
hearing n (Unlock wrote ∷ rest) = None
hearing n (Notice key old cause upsert ∷ rest) = None
hearing n (Heard ∷ rest) = Some n
hearing n (Moment change ∷ rest) = None
hearing n (Write key value moment ∷ rest) = None
hearing n (Out removal key ∷ rest) = None
hearing n (Idle ∷ rest) = None
hearing n (Invalidate_all ∷ rest) = None
hearing n (Register test ∷ rest) = None
hearing n (List_keys part ∷ rest) = None
hearing n (Find key ∷ rest) = None
hearing n (Scan there found ∷ rest) = None
hearing n (Candidates parts ∷ rest) = None
hearing n (Strike there found ∷ rest) = None
hearing n (Retire ∷ rest) = None
hearing n (Reply answer ∷ rest) = None
