-- What is said of a call by what it was started for: a row for each start.
use Rattle.std.specs.Prelude.{Bool, true, false, Option, Some, None}
use Rattle.moka_hist.specs.Plan.{Removal}
use Rattle.moka_hist.specs.Plan as plan
use Rattle.moka_hist.specs.declared.entries.CompResult.{CompResult}
use Rattle.moka_hist.specs.declared.entries.CompResult.TheVariants as done
use Rattle.moka_hist.specs.declared.events.Start.{Start}
use Rattle.moka_hist.specs.declared.events.Start.TheVariants as start
use Rattle.moka_hist.specs.declared.loads.Kind.{Kind}
use Rattle.moka_hist.specs.declared.loads.Kind.TheVariants as kind
use Rattle.moka_hist.specs.declared.replies.Answer.{Answer}
use Rattle.moka_hist.specs.declared.replies.Answer.TheVariants as answer

-- the key that a call is started for, if it is for one
abbrev pub key_started : {K V : Type 0} → Start K V → Option K
key_started (start.Get key) = Some key
key_started (start.Insert key value) = Some key
key_started (start.GetWith key replace) = Some key
key_started (start.Optional key) = Some key
key_started (start.Try key) = Some key
key_started (start.OrInsert key value) = Some key
key_started (start.Compute key) = Some key
key_started (start.TryCompute key) = Some key
key_started (start.Upsert key) = Some key
key_started (start.ComputeAlone key) = Some key
key_started (start.Invalidate key) = Some key
key_started (start.Remove key) = Some key
key_started (start.Evict key stamp cause) = Some key
key_started start.InvalidateAll = None
key_started (start.InvalidateIf test) = None
key_started start.Iter = None
key_started start.Pending = None

-- the pair that a call is started with, to store it
abbrev pub brought : {K V : Type 0} → Start K V → Option (K × V)
brought (start.Insert key value) = Some (key, value)
brought (start.OrInsert key value) = Some (key, value)
brought (start.Get key) = None
brought (start.GetWith key replace) = None
brought (start.Optional key) = None
brought (start.Try key) = None
brought (start.Compute key) = None
brought (start.TryCompute key) = None
brought (start.Upsert key) = None
brought (start.ComputeAlone key) = None
brought (start.Invalidate key) = None
brought (start.Remove key) = None
brought (start.Evict key stamp cause) = None
brought start.InvalidateAll = None
brought (start.InvalidateIf test) = None
brought start.Iter = None
brought start.Pending = None

-- the kind of load that a call is started for, if it is one
abbrev pub kind_loaded : {K V : Type 0} → Start K V → Option Kind
kind_loaded (start.GetWith key replace) = Some kind.GetWith
kind_loaded (start.Optional key) = Some kind.Optional
kind_loaded (start.Try key) = Some kind.Try
kind_loaded (start.Get key) = None
kind_loaded (start.Insert key value) = None
kind_loaded (start.OrInsert key value) = None
kind_loaded (start.Compute key) = None
kind_loaded (start.TryCompute key) = None
kind_loaded (start.Upsert key) = None
kind_loaded (start.ComputeAlone key) = None
kind_loaded (start.Invalidate key) = None
kind_loaded (start.Remove key) = None
kind_loaded (start.Evict key stamp cause) = None
kind_loaded start.InvalidateAll = None
kind_loaded (start.InvalidateIf test) = None
kind_loaded start.Iter = None
kind_loaded start.Pending = None

-- the key that a call is started to compute
abbrev pub computed_key : {K V : Type 0} → Start K V → Option K
computed_key (start.Compute key) = Some key
computed_key (start.TryCompute key) = Some key
computed_key (start.ComputeAlone key) = Some key
computed_key (start.Upsert key) = Some key
computed_key (start.Get key) = None
computed_key (start.Insert key value) = None
computed_key (start.GetWith key replace) = None
computed_key (start.Optional key) = None
computed_key (start.Try key) = None
computed_key (start.OrInsert key value) = None
computed_key (start.Invalidate key) = None
computed_key (start.Remove key) = None
computed_key (start.Evict key stamp cause) = None
computed_key start.InvalidateAll = None
computed_key (start.InvalidateIf test) = None
computed_key start.Iter = None
computed_key start.Pending = None

-- a call that is started for this asks nothing where another compute of the key goes: that is of one
-- start alone
abbrev pub is_alone : {K V : Type 0} → Start K V → Bool
is_alone (start.ComputeAlone key) = true
is_alone _ = false

-- what a call is started to take out, and from under which key
abbrev pub removal_started : {K V : Type 0} → Start K V → Option (Removal K × K)
removal_started (start.Get key) = None
removal_started (start.Insert key value) = None
removal_started (start.GetWith key replace) = None
removal_started (start.Optional key) = None
removal_started (start.Try key) = None
removal_started (start.OrInsert key value) = None
removal_started (start.Compute key) = None
removal_started (start.TryCompute key) = None
removal_started (start.ComputeAlone key) = None
removal_started (start.Upsert key) = None
removal_started (start.Invalidate key) = Some (plan.To_invalidate, key)
removal_started (start.Remove key) = Some (plan.To_remove, key)
removal_started (start.Evict key stamp cause) = Some (plan.To_evict_chosen stamp cause, key)
removal_started start.InvalidateAll = None
removal_started (start.InvalidateIf test) = None
removal_started start.Iter = None
removal_started start.Pending = None

-- a call that is started for this asks its caller for nothing, and waits for no load and no compute
abbrev pub asks_nobody : {K V : Type 0} → Start K V → Bool
asks_nobody (start.Get key) = true
asks_nobody (start.Insert key value) = true
asks_nobody (start.OrInsert key value) = true
asks_nobody (start.Invalidate key) = true
asks_nobody (start.Remove key) = true
asks_nobody (start.Evict key stamp cause) = true
asks_nobody start.InvalidateAll = true
asks_nobody (start.InvalidateIf test) = true
asks_nobody start.Iter = true
asks_nobody start.Pending = true
asks_nobody (start.GetWith key replace) = false
asks_nobody (start.Optional key) = false
asks_nobody (start.Try key) = false
asks_nobody (start.Compute key) = false
asks_nobody (start.TryCompute key) = false
asks_nobody (start.ComputeAlone key) = false
asks_nobody (start.Upsert key) = false

-- a call that was started for this may answer so
abbrev pub may_answer : {K V E : Type 0} → Start K V → Answer K V E → Bool
may_answer (start.Get key) (answer.Found value) = true
may_answer (start.Insert key value) answer.Done = true
may_answer (start.GetWith key replace) (answer.Loaded value fresh) = true
may_answer (start.GetWith key replace) answer.RetriesExhausted = true
may_answer (start.Optional key) (answer.Loaded value fresh) = true
may_answer (start.Optional key) answer.Nothing = true
may_answer (start.Optional key) answer.RetriesExhausted = true
may_answer (start.Try key) (answer.Loaded value fresh) = true
may_answer (start.Try key) (answer.InitErr error) = true
may_answer (start.Try key) answer.RetriesExhausted = true
may_answer (start.OrInsert key own) (answer.Loaded value fresh) = true
may_answer (start.Compute key) (answer.Computed done) = true
may_answer (start.TryCompute key) (answer.Computed done) = true
may_answer (start.TryCompute key) (answer.ComputeErr error) = true
may_answer (start.ComputeAlone key) (answer.Computed done) = true
may_answer (start.ComputeAlone key) (answer.ComputeErr error) = true
may_answer (start.Upsert key) (answer.Computed done) = true
may_answer (start.Invalidate key) answer.Done = true
may_answer (start.Remove key) (answer.Found value) = true
may_answer (start.Evict key stamp cause) answer.Evicted = true
may_answer (start.Evict key stamp cause) answer.Kept = true
may_answer start.InvalidateAll answer.Done = true
may_answer (start.InvalidateIf test) (answer.Id id) = true
may_answer (start.InvalidateIf test) answer.ClosuresDisabled = true
may_answer (start.InvalidateIf test) answer.NoId = true
may_answer start.Iter answer.End = true
may_answer start.Pending answer.Done = true
may_answer _ _ = false

-- the compute has stored a value
abbrev pub has_stored : {K V : Type 0} → CompResult K V → Bool
has_stored (done.Inserted entry) = true
has_stored (done.ReplacedWith entry) = true
has_stored (done.Removed entry) = false
has_stored (done.Unchanged entry) = false
has_stored (done.StillNone key) = false

module _ {K V E : Type 0} where
  -- the answer says that the call is done; that its own initializer, or it itself, gave the value;
  -- that the compute has stored one
  abbrev pub is_done : Answer K V E → Bool
  is_done answer.Done = true
  is_done (answer.Found found) = false
  is_done (answer.Loaded value fresh) = false
  is_done answer.Nothing = false
  is_done (answer.InitErr error) = false
  is_done (answer.Computed done) = false
  is_done (answer.ComputeErr error) = false
  is_done answer.RetriesExhausted = false
  is_done answer.Evicted = false
  is_done answer.Kept = false
  is_done answer.End = false
  is_done (answer.Id id) = false
  is_done answer.ClosuresDisabled = false
  is_done answer.NoId = false

  abbrev pub is_fresh : Answer K V E → Bool
  is_fresh answer.Done = false
  is_fresh (answer.Found found) = false
  is_fresh (answer.Loaded value fresh) = fresh
  is_fresh answer.Nothing = false
  is_fresh (answer.InitErr error) = false
  is_fresh (answer.Computed done) = false
  is_fresh (answer.ComputeErr error) = false
  is_fresh answer.RetriesExhausted = false
  is_fresh answer.Evicted = false
  is_fresh answer.Kept = false
  is_fresh answer.End = false
  is_fresh (answer.Id id) = false
  is_fresh answer.ClosuresDisabled = false
  is_fresh answer.NoId = false

  abbrev pub has_put : Answer K V E → Bool
  has_put answer.Done = false
  has_put (answer.Found found) = false
  has_put (answer.Loaded value fresh) = false
  has_put answer.Nothing = false
  has_put (answer.InitErr error) = false
  has_put (answer.Computed done) = has_stored done
  has_put (answer.ComputeErr error) = false
  has_put answer.RetriesExhausted = false
  has_put answer.Evicted = false
  has_put answer.Kept = false
  has_put answer.End = false
  has_put (answer.Id id) = false
  has_put answer.ClosuresDisabled = false
  has_put answer.NoId = false

  -- The answer of a call that was started for this says that it has stored a value: an insert's that
  -- is done, a load's whose own initializer gave the value, an or_insert's that found none, and a
  -- compute's that stored. That a call is done says so of an insert alone.
  abbrev pub says_stored : Start K V → Answer K V E → Bool
  says_stored (start.Get key) a = false
  says_stored (start.Insert key value) a = is_done a
  says_stored (start.GetWith key replace) a = is_fresh a
  says_stored (start.Optional key) a = is_fresh a
  says_stored (start.Try key) a = is_fresh a
  says_stored (start.OrInsert key value) a = is_fresh a
  says_stored (start.Compute key) a = has_put a
  says_stored (start.TryCompute key) a = has_put a
  says_stored (start.Upsert key) a = has_put a
  says_stored (start.ComputeAlone key) a = has_put a
  says_stored (start.Invalidate key) a = false
  says_stored (start.Remove key) a = false
  says_stored (start.Evict key stamp cause) a = false
  says_stored start.InvalidateAll a = false
  says_stored (start.InvalidateIf test) a = false
  says_stored start.Iter a = false
  says_stored start.Pending a = false
