-- What a call has still to do, by where it stands.
use Rattle.std.specs.Prelude.{ℕ, ◌+◌, ◌-◌, Bool, true, false, List, [], ◌∷◌, ◌++◌, map, Option, Some, None}
use Rattle.moka_hist.specs.Plan.{Item, Aim, end_load, lists_from, walk_from}
use Rattle.moka_hist.specs.Plan as plan
use Rattle.moka_hist.specs.Writing.{nothing_answer, said}
use Rattle.moka_hist.specs.Entries.{entry, unchanged}
use Rattle.moka_hist.specs.Computing.{end_compute}
use Rattle.moka_hist.specs.declared.entries.CompResult.{CompResult}
use Rattle.moka_hist.specs.declared.entries.CompResult.TheVariants as done
use Rattle.moka_hist.specs.declared.replies.Answer.TheVariants as answer
use Rattle.moka_hist.specs.declared.replies.Answer.{Answer}
use Rattle.moka_hist.specs.declared.loads.Compute.{Compute}
use Rattle.moka_hist.specs.declared.visits.Takes.{Takes}
use Rattle.moka_hist.specs.declared.visits.Takes.TheVariants as takes
use Rattle.moka_hist.specs.declared.visits.Settled.{Settled}
use Rattle.moka_hist.specs.declared.visits.Settled.TheVariants as settled
use Rattle.moka_init.specs.declared.points.Asks.{Asks}
use Rattle.moka_init.specs.declared.points.Asks.TheVariants as asks
use Rattle.moka_init.specs.declared.points.KeyCompute.{KeyCompute}
use Rattle.moka_init.specs.declared.points.Look as looks
use Rattle.moka_init.specs.declared.points.Look.TheVariants as look
use Rattle.moka_init.specs.declared.points.Chosen.{Chosen}
use Rattle.moka_init.specs.declared.points.Put.{Put}
use Rattle.moka_init.specs.declared.points.Then.{Then}
use Rattle.moka_init.specs.declared.points.Then.TheVariants as thens
use Rattle.moka_init.specs.declared.points.Ending.{Ending}
use Rattle.moka_init.specs.declared.points.Ending.TheVariants as ending
use Rattle.moka_init.specs.declared.points.Removal.{Removal}
use Rattle.moka_init.specs.declared.points.Removal.TheVariants as removal
use Rattle.moka_init.specs.declared.points.TakeOut.{TakeOut}
use Rattle.moka_init.specs.declared.points.Locked.{Locked}
use Rattle.moka_init.specs.declared.points.Locked.TheVariants as locked
use Rattle.moka_init.specs.declared.points.Drained.{Drained}
use Rattle.moka_init.specs.declared.points.Drained.TheVariants as drained
use Rattle.moka_init.specs.declared.points.Posted.{Posted}
use Rattle.moka_init.specs.declared.points.Posted.TheVariants as posted
use Rattle.moka_init.specs.declared.points.PostStep.TheVariants as step
use Rattle.moka_init.specs.declared.points.Posting.{Posting}
use Rattle.moka_init.specs.declared.points.Posting.TheVariants as posting
use Rattle.moka_init.specs.declared.points.Looking.{Looking}
use Rattle.moka_init.specs.declared.points.Looking.TheVariants as looking
use Rattle.moka_init.specs.declared.points.Loading.{Loading}
use Rattle.moka_init.specs.declared.points.Loading.TheVariants as loading
use Rattle.moka_init.specs.declared.points.Computing.{Computing}
use Rattle.moka_init.specs.declared.points.Computing.TheVariants as computing
use Rattle.moka_init.specs.declared.points.Uncopied.{Uncopied}
use Rattle.moka_init.specs.declared.points.Uncopied.TheVariants as uncopied
use Rattle.moka_init.specs.declared.points.Writing.{Writing}
use Rattle.moka_init.specs.declared.points.Writing.TheVariants as writing
use Rattle.moka_init.specs.declared.points.Removing.{Removing}
use Rattle.moka_init.specs.declared.points.Removing.TheVariants as removing
use Rattle.moka_init.specs.declared.points.Listening.{Listening}
use Rattle.moka_init.specs.declared.points.Listening.TheVariants as listening
use Rattle.moka_init.specs.declared.points.Maintenance.{Maintenance}
use Rattle.moka_init.specs.declared.points.Maintenance.TheVariants as maintenance
use Rattle.moka_init.specs.declared.points.Part.{Part}
use Rattle.moka_init.specs.declared.points.PartKeys.{PartKeys}
use Rattle.moka_init.specs.declared.points.Walk.{Walk}
use Rattle.moka_init.specs.declared.points.Walk.TheVariants as walk
use Rattle.moka_init.specs.declared.points.Point.{Point}
use Rattle.moka_init.specs.declared.points.Point.TheVariants as point

-- which answers such an ask of a compute takes
abbrev pub takes_by : Asks → Takes
takes_by asks.Op = takes.Op
takes_by asks.TryOp = takes.TryOp
takes_by asks.Value = takes.Value

abbrev pub compute_of : {K : Type 0} → KeyCompute K → Compute K
compute_of c = record { key = c.key; takes = takes_by c.asks }

module _ {K V : Type 0} where
  abbrev pub aim_of : looks.Look K V → Aim K V
  aim_of (look.Answer key) = plan.To_show plan.As_value
  aim_of (look.Load sought) = plan.To_load sought
  aim_of (look.Own sought) = plan.To_own sought
  aim_of (look.Insert key value) = plan.To_insert key value
  aim_of (look.Compute compute) = plan.To_compute (compute_of compute)
  aim_of (look.Report key) = plan.To_show (plan.As_report key)

  -- the key that is looked up
  abbrev pub key_sought : looks.Look K V → K
  key_sought (look.Answer key) = key
  key_sought (look.Load sought) = sought.load.key
  key_sought (look.Own sought) = sought.load.key
  key_sought (look.Insert key value) = key
  key_sought (look.Compute compute) = compute.key
  key_sought (look.Report key) = key

  abbrev pub aim_at : Chosen K → Aim K V
  aim_at c = plan.To_evict c.key c.stamp c.cause

  -- the key whose lock is taken
  abbrev pub key_locked : Locked K V → K
  key_locked (locked.Put p) = p.key
  key_locked (locked.TakeOut t) = t.key
  key_locked (locked.Find c) = c.key

  -- what a compute has done that stored a value, in the place of another where its look had found
  -- one, and one that took a value out
  abbrev pub stored_as : K → V → Bool → CompResult K V
  stored_as key value false = done.Inserted (entry key value true false)
  stored_as key value true = done.ReplacedWith (entry key value true true)

  abbrev pub removed_as : K → V → CompResult K V
  removed_as key value = done.Removed (entry key value false false)

  -- what follows once the write of the value is posted
  abbrev pub posted_after : Put K V → Posted K V
  posted_after p = by p.then
    where
      by : Then → Posted K V
      by thens.Done = posted.Done
      by thens.Settle = posted.Settle p.value
      by thens.Loaded = posted.Loaded p.value
      by (thens.Compute replaced) = posted.Compute (stored_as p.key p.value replaced)

  -- what follows once the write is posted that took this value's place, or took it out, where the
  -- key or the value is answered
  abbrev pub posted_with : Uncopied V → K → V → Posted K V
  posted_with uncopied.Found key value = posted.Found value
  posted_with uncopied.Removed key value = posted.Compute (removed_as key value)
  posted_with (uncopied.Put own replaced) key value = posted.Compute (stored_as key own replaced)

-- a write has taken the record's place
abbrev pub is_upsert : {V : Type 0} → Uncopied V → Bool
is_upsert uncopied.Found = false
is_upsert uncopied.Removed = false
is_upsert (uncopied.Put value replaced) = true

-- what the key's record is taken out for
abbrev pub removal_at : {K : Type 0} → K → Removal → plan.Removal K
removal_at key removal.Invalidate = plan.To_invalidate
removal_at key removal.Remove = plan.To_remove
removal_at key (removal.Evict stamp cause) = plan.To_evict_chosen stamp cause
removal_at key removal.Compute = plan.To_remove_as_told key

abbrev pub removal_of : {K : Type 0} → TakeOut K → plan.Removal K
removal_of t = removal_at t.key t.removal

module _ {V E : Type 0} where
  -- what an owner that ends so tells those that wait
  abbrev pub settled_of : Ending V E → Settled V E
  settled_of (ending.Ready value fresh) = settled.Ready value
  settled_of (ending.Err error) = settled.Err error
  settled_of ending.Nothing = settled.Nothing

module _ {K V E : Type 0} where
  -- and what it answers then
  abbrev pub answer_ending : Ending V E → Answer K V E
  answer_ending (ending.Ready value fresh) = answer.Loaded value fresh
  answer_ending (ending.Err error) = answer.InitErr error
  answer_ending ending.Nothing = answer.Nothing

  -- how the owner ends is told to those that wait, and then answered
  abbrev pub settles : Ending V E → List (Item K V E)
  settles e = end_load (settled_of e) (answer_ending e)

  -- what follows once the value is stored and the write posted
  abbrev pub put_rest : Put K V → List (Item K V E)
  put_rest p = by p.then
    where
      by : Then → List (Item K V E)
      by thens.Done = plan.Reply answer.Done ∷ []
      by thens.Settle = settles (ending.Ready p.value true)
      by thens.Loaded = plan.Reply (answer.Loaded p.value true) ∷ []
      by (thens.Compute replaced) = end_compute (answer.Computed (stored_as p.key p.value replaced))

  -- a write at its moment
  abbrev pub stores : Put K V → List (Item K V E)
  stores p = plan.Moment (plan.To_store p.key p.value) ∷ put_rest p

  -- a removal at its moment
  abbrev pub takes_out : TakeOut K → List (Item K V E)
  takes_out t = plan.Moment (plan.To_take_out (removal_of t) t.key) ∷ []

  -- nothing was found, which is answered
  abbrev pub says_nothing : TakeOut K → List (Item K V E)
  says_nothing t = said (removal_of t) (nothing_answer (removal_of t))

  -- the chosen record is looked up
  abbrev pub finds : Chosen K → List (Item K V E)
  finds c = plan.Get (aim_at c) c.key ∷ []

  -- what is done under a key's lock
  abbrev pub locked_rest : Locked K V → List (Item K V E)
  locked_rest (locked.Put p) = stores p
  locked_rest (locked.TakeOut t) = takes_out t
  locked_rest (locked.Find c) = finds c

  abbrev pub drained_rest : Drained K V → List (Item K V E)
  drained_rest (drained.Look l) = plan.Get (aim_of l) (key_sought l) ∷ []
  drained_rest (drained.Own sought) = plan.Own sought ∷ []
  drained_rest (drained.Put p) = stores p
  drained_rest (drained.TakeOut t) = takes_out t
  drained_rest (drained.Lock l) = plan.Lock (key_locked l) ∷ locked_rest l
  drained_rest (drained.Loaded value) = plan.Reply (answer.Loaded value true) ∷ []
  drained_rest (drained.Ask compute) = plan.Ask_op (compute_of compute) None ∷ []
  drained_rest (drained.StillNone key) = plan.Reply (unchanged key None) ∷ []
  drained_rest (drained.Maintain parts) =
      plan.Turn ∷ plan.Apply ∷ plan.End ∷ plan.Candidates parts ∷ []

  abbrev pub posted_rest : Posted K V → List (Item K V E)
  posted_rest (posted.Drain then) = plan.Drain ∷ drained_rest then
  posted_rest posted.Done = plan.Reply answer.Done ∷ []
  posted_rest (posted.Settle value) = settles (ending.Ready value true)
  posted_rest (posted.Loaded value) = plan.Reply (answer.Loaded value true) ∷ []
  posted_rest (posted.Found value) = plan.Reply (answer.Found (Some value)) ∷ []
  posted_rest posted.Evicted = plan.Reply answer.Evicted ∷ []
  posted_rest (posted.Compute done) = end_compute (answer.Computed done)

  -- ---- what a call that stands there has still to do, by what it is about

  abbrev pub posting_plan : Posting K V → List (Item K V E)
  posting_plan (posting.Drain then) = plan.Drain ∷ drained_rest then
  posting_plan (posting.Held step.Hear write then) =
      plan.Heard ∷ plan.Unlock true ∷ plan.Post write ∷ posted_rest then
  posting_plan (posting.Held step.Unlock write then) =
      plan.Unlock true ∷ plan.Post write ∷ posted_rest then
  posting_plan (posting.Held step.Post write then) = plan.Post write ∷ posted_rest then
  posting_plan (posting.Held step.Turn write then) =
      plan.Turn ∷ plan.Apply ∷ plan.End ∷ plan.Post write ∷ posted_rest then
  posting_plan (posting.Held step.Apply write then) =
      plan.Apply ∷ plan.End ∷ plan.Post write ∷ posted_rest then
  posting_plan (posting.Held step.End write then) =
      plan.End ∷ plan.Post write ∷ posted_rest then

  abbrev pub looking_plan : Looking K V → List (Item K V E)
  looking_plan (looking.Get l) = plan.Get (aim_of l) (key_sought l) ∷ []
  looking_plan (looking.Judge l key stored) = plan.Judge (aim_of l) key stored ∷ []

  abbrev pub loading_plan : Loading K V E → List (Item K V E)
  loading_plan (loading.Own sought) = plan.Own sought ∷ []
  loading_plan (loading.Read sought) = plan.Read sought ∷ []
  loading_plan (loading.Settle e) = settles e
  loading_plan (loading.Ask load) = plan.Ask load ∷ []
  loading_plan (loading.Told load) = plan.Told load ∷ []

  abbrev pub computing_plan : Computing K V E → List (Item K V E)
  computing_plan (computing.Own compute) = plan.Own_key (compute_of compute) ∷ []
  computing_plan (computing.OwnAlone key) = plan.Own_alone key ∷ []
  computing_plan (computing.Read compute) = plan.Read_key (compute_of compute) ∷ []
  computing_plan (computing.Ask compute found copy) = plan.Ask_op (compute_of compute) found ∷ []
  computing_plan (computing.Told compute found) = plan.Told_op (compute_of compute) found ∷ []
  computing_plan (computing.Settle answer) = end_compute answer

  abbrev pub writing_plan : Writing K V → List (Item K V E)
  writing_plan (writing.Moment p) = stores p
  writing_plan (writing.Write p moment) = plan.Write p.key p.value moment ∷ put_rest p

  abbrev pub removing_plan : Removing K V → List (Item K V E)
  removing_plan (removing.Find c) = finds c
  removing_plan (removing.Holds c key stored) =
      plan.Holds c.key c.stamp c.cause key stored ∷ []
  removing_plan (removing.Moment t) = takes_out t
  removing_plan (removing.Out t) = plan.Out (removal_of t) t.key ∷ []
  removing_plan (removing.Idle t) = plan.Idle ∷ says_nothing t

  abbrev pub listening_plan : Listening K V → List (Item K V E)
  listening_plan (listening.Ended number write then) =
      plan.Ended number ∷ plan.Post write ∷ plan.Drain ∷ drained_rest then
  listening_plan (listening.Lock l) = plan.Lock (key_locked l) ∷ locked_rest l
  listening_plan (listening.Notice key old cause upsert write then) =
      plan.Notice key old cause upsert ∷ plan.Unlock true ∷ plan.Post write ∷ posted_rest then
  listening_plan (listening.Uncopied key old write then) =
      plan.Notice key old None (is_upsert then) ∷ plan.Unlock true ∷ plan.Post write ∷
      posted_rest (posted_with then key old.value)
  listening_plan (listening.Release t) = plan.Unlock false ∷ says_nothing t

  -- the parts after this one are listed
  abbrev pub later_parts : Part → List (Item K V E)
  later_parts part = walk_from (part.number + 1) (part.last - part.number)

  -- the keys that are left are looked up, and then the later parts are listed
  abbrev pub keys_rest : PartKeys K → List (Item K V E)
  keys_rest rest = map plan.Find rest.keys ++ later_parts rest.part

  abbrev pub walking_plan : Walk K V → List (Item K V E)
  walking_plan (walk.List part) = plan.List_keys part.number ∷ later_parts part
  walking_plan (walk.Find key rest) = plan.Find key ∷ keys_rest rest
  walking_plan (walk.Scan key stored rest) = plan.Scan key stored ∷ keys_rest rest

  -- the parts after this one are listed, and then predicates leave
  abbrev pub later_to_retire : Part → List (Item K V E)
  later_to_retire part =
      lists_from (part.number + 1) (part.last - part.number) (plan.Retire ∷ [])

  -- the keys that are left are looked up before that
  abbrev pub keys_to_retire : PartKeys K → List (Item K V E)
  keys_to_retire rest = map plan.Find rest.keys ++ later_to_retire rest.part

  abbrev pub maintaining_plan : Maintenance K V → List (Item K V E)
  maintaining_plan (maintenance.Turn parts) =
      plan.Turn ∷ plan.Apply ∷ plan.End ∷ plan.Candidates parts ∷ []
  maintaining_plan (maintenance.Apply parts) =
      plan.Apply ∷ plan.End ∷ plan.Candidates parts ∷ []
  maintaining_plan (maintenance.End parts) = plan.End ∷ plan.Candidates parts ∷ []
  maintaining_plan (maintenance.Candidates parts) = plan.Candidates parts ∷ []
  maintaining_plan (maintenance.List part ids) =
      plan.List_keys part.number ∷ later_to_retire part
  maintaining_plan (maintenance.Find key rest ids) = plan.Find key ∷ keys_to_retire rest
  maintaining_plan (maintenance.Strike key stored rest ids) =
      plan.Strike key stored ∷ keys_to_retire rest
  maintaining_plan (maintenance.Retire ids) = plan.Retire ∷ []

  -- what a call that stands there has still to do
  abbrev pub plan_at : Point K V E → List (Item K V E)
  plan_at (point.Posting p) = posting_plan p
  plan_at (point.Looking p) = looking_plan p
  plan_at (point.Loading p) = loading_plan p
  plan_at (point.Computing p) = computing_plan p
  plan_at (point.Writing p) = writing_plan p
  plan_at (point.Removing p) = removing_plan p
  plan_at (point.Listening p) = listening_plan p
  plan_at (point.Walking p) = walking_plan p
  plan_at (point.Maintaining p) = maintaining_plan p
  plan_at point.InvalidatingAll = plan.Invalidate_all ∷ plan.Reply answer.Done ∷ []
  plan_at (point.Registering test) = plan.Register test ∷ []
  plan_at (point.Answering answer) = plan.Reply answer ∷ []
  plan_at point.Spent = []

-- ---- what it carries

module _ {K V : Type 0} where
  -- the predicates that maintenance carries there, by id and moment, once some were chosen
  abbrev pub carried_in : Maintenance K V → Option (List (ℕ × ℕ))
  carried_in (maintenance.Turn parts) = None
  carried_in (maintenance.Apply parts) = None
  carried_in (maintenance.End parts) = None
  carried_in (maintenance.Candidates parts) = None
  carried_in (maintenance.List part ids) = Some ids
  carried_in (maintenance.Find key rest ids) = Some ids
  carried_in (maintenance.Strike key stored rest ids) = Some ids
  carried_in (maintenance.Retire ids) = Some ids

module _ {K V E : Type 0} where
  -- no other call carries any
  abbrev pub carried_at : Point K V E → Option (List (ℕ × ℕ))
  carried_at (point.Maintaining p) = carried_in p
  carried_at _ = None

-- ---- whether what is needed twice was copied

module _ {K V : Type 0} where
  abbrev pub is_copied_in : Listening K V → Bool
  is_copied_in (listening.Ended number write then) = true
  is_copied_in (listening.Lock l) = true
  is_copied_in (listening.Notice key old cause upsert write then) = true
  is_copied_in (listening.Uncopied key old write then) = false
  is_copied_in (listening.Release t) = true

module _ {K V E : Type 0} where
  -- for all that can be seen: of the pair that a compute asks with a copy is made where its ask is
  -- to open
  abbrev pub is_ask_copied : Computing K V E → Bool
  is_ask_copied (computing.Own compute) = true
  is_ask_copied (computing.OwnAlone key) = true
  is_ask_copied (computing.Read compute) = true
  is_ask_copied (computing.Ask compute found copy) = false
  is_ask_copied (computing.Told compute found) = true
  is_ask_copied (computing.Settle answer) = true

  abbrev pub is_copied : Point K V E → Bool
  is_copied (point.Posting p) = true
  is_copied (point.Looking p) = true
  is_copied (point.Loading p) = true
  is_copied (point.Computing p) = is_ask_copied p
  is_copied (point.Writing p) = true
  is_copied (point.Removing p) = true
  is_copied (point.Listening p) = is_copied_in p
  is_copied (point.Walking p) = true
  is_copied (point.Maintaining p) = true
  is_copied point.InvalidatingAll = true
  is_copied (point.Registering test) = true
  is_copied (point.Answering answer) = true
  is_copied point.Spent = true
