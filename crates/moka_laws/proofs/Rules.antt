-- How plans depend on the rules of the cache.
use Rattle.std.proofs.Common.{◌≡◌, ℕ, ◌+◌, ◌==◌, refl, Bool, true, false, cond, List, [], ◌∷◌, Option, Some, None, Result, Ok, Err}
use Rattle.std.specs.Option.{option_map}
use Rattle.std.proofs.lemmas.Bool.{eqb-true}
use Rattle.moka_hist.specs.Invalidating.{registering_answer}
use Rattle.moka_hist.specs.State.{Call}
use Rattle.moka_hist.specs.Next.{Next, goes, answers, waits}
use Rattle.moka_hist.specs.Entries.{put_answer, unchanged}
use Rattle.moka_hist.specs.Writing.{said}
use Rattle.moka_hist.specs.Loading.{after_abort, retries}
use Rattle.moka_hist.specs.Computing.{after_read_key, after_told_op, end_compute, put_told}
use Rattle.moka_hist.specs.Looking.{shown, keeps, kept_rest, finds_pair, chosen_or_not}
use Rattle.moka_hist.specs.Plan.{Item, Aim, Shown, Removal, put, under_lock, take_out, is_disabled, told_on, load_rest, loaded, get_plan, insert_plan, load_plan, or_insert_plan, iter_plan, pending_plan, seek, plan_of, walk_from}
use Rattle.moka_hist.specs.Plan as plan
use Rattle.moka_hist.specs.declared.predicates.PredicateError.{PredicateError}
use Rattle.moka_hist.specs.declared.predicates.PredicateError.TheVariants as refused
use Rattle.moka_hist.specs.declared.events.Start.{Start}
use Rattle.moka_hist.specs.declared.events.Start.TheVariants as start
use Rattle.moka_hist.specs.declared.events.Op.TheVariants as op
use Rattle.moka_hist.specs.declared.events.Told.{Told}
use Rattle.moka_hist.specs.declared.events.Told.TheVariants as told
use Rattle.moka_hist.specs.declared.loads.Compute.{Compute}
use Rattle.moka_hist.specs.declared.loads.Load.{Load}
use Rattle.moka_hist.specs.declared.loads.Sought.{Sought}
use Rattle.moka_hist.specs.declared.loads.Kind.{Kind}
use Rattle.moka_hist.specs.declared.loads.Kind.TheVariants as kind
use Rattle.moka_hist.specs.declared.records.Stored.{Stored}
use Rattle.moka_hist.specs.declared.replies.Answer.{Answer}
use Rattle.moka_hist.specs.declared.replies.Answer.TheVariants as answer
use Rattle.moka_hist.specs.declared.visits.Found.TheVariants as found
use Rattle.moka_hist.specs.declared.visits.Settled.{Settled}
use Rattle.moka_hist.specs.declared.visits.Settled.TheVariants as settled
use Rattle.moka_hist.specs.declared.visits.Takes.{Takes}
use Rattle.moka_hist.specs.declared.visits.Takes.TheVariants as takes
use Rattle.moka_hist.specs.declared.rules.Cause.{Cause}
use Rattle.moka_hist.specs.declared.rules.Rules.{Rules}

module _ {K V E : Type 0} (P : List (Item K V E) → Type 0) where
  -- what holds of a plan under the key's lock and of one without holds of each, where the rules say
  -- which
  locked_by : (listener : Bool) (key : K) (rest : List (Item K V E)) →
      (listener ≡ false → P (plan.Drain ∷ rest)) →
      (listener ≡ true → P (plan.Drain ∷ plan.Lock key ∷ rest)) →
      P (plan.Drain ∷ under_lock listener key rest)
  locked_by false key rest free locked = free refl
  locked_by true key rest free locked = locked refl

  -- so of a put
  pub put_plans_by : (rules : Rules) (key : K) (value : V) (rest : List (Item K V E)) →
      (rules.listener ≡ false → P (plan.Drain ∷ plan.Moment (plan.To_store key value) ∷ rest)) →
      (rules.listener ≡ true →
      P (plan.Drain ∷ plan.Lock key ∷ plan.Moment (plan.To_store key value) ∷ rest)) →
      P (put rules key value rest)
  put_plans_by rules key value rest free locked =
      locked_by rules.listener key (plan.Moment (plan.To_store key value) ∷ rest) free locked

  pub put_plans : (rules : Rules) (key : K) (value : V) (rest : List (Item K V E)) →
      P (plan.Drain ∷ plan.Moment (plan.To_store key value) ∷ rest) →
      P (plan.Drain ∷ plan.Lock key ∷ plan.Moment (plan.To_store key value) ∷ rest) →
      P (put rules key value rest)
  put_plans rules key value rest free locked =
      put_plans_by rules key value rest (λ off. free) (λ on. locked)

  -- so of what follows a told value, which a disabled cache does not store
  pub loaded_plans_by : (rules : Rules) (load : Load K) (value : V) →
      (is_disabled rules ≡ true → P (told_on value)) →
      (is_disabled rules ≡ false → rules.listener ≡ false →
      P (plan.Drain ∷ plan.Moment (plan.To_store load.key value) ∷ told_on value)) →
      (is_disabled rules ≡ false → rules.listener ≡ true →
      P (plan.Drain ∷ plan.Lock load.key ∷ plan.Moment (plan.To_store load.key value)
      ∷ told_on value)) →
      P (loaded rules load value)
  loaded_plans_by rules load value told free locked = by (is_disabled rules) refl
    where
      by : (b : Bool) → is_disabled rules ≡ b → P (load_rest b rules load.key value)
      by true e = told e
      by false e = put_plans_by rules load.key value (told_on value) (free e) (locked e)

  pub loaded_plans : (rules : Rules) (load : Load K) (value : V) → P (told_on value) →
      P (plan.Drain ∷ plan.Moment (plan.To_store load.key value) ∷ told_on value) →
      P (plan.Drain ∷ plan.Lock load.key ∷ plan.Moment (plan.To_store load.key value)
      ∷ told_on value) →
      P (loaded rules load value)
  loaded_plans rules load value told free locked =
      loaded_plans_by rules load value (λ e. told) (λ e off. free) (λ e on. locked)

module _ {K V E : Type 0} (P : Answer K V E → Type 0) where
  -- what holds of a get's answer and of each report holds of what a look shows
  pub shown_next : (form : Shown K) (pair : Option (K × V)) →
      P (answer.Found (option_map (λ p. p.1) pair)) → ((key : K) → P (unchanged key pair)) →
      P (shown form pair)
  shown_next plan.As_value pair found reports = found
  shown_next (plan.As_report key) pair found reports = reports key

module _ {K V E : Type 0} (P : Next K V E → Type 0) (c : Call K V E) where
  -- what holds of a call whose chosen record stays, where the rules say whether it frees a lock
  pub kept_next : (c.rules.listener ≡ false → P (answers answer.Kept)) →
      (c.rules.listener ≡ true → P (goes c (plan.Unlock false ∷ plan.Reply answer.Kept ∷ []))) →
      P (keeps c)
  kept_next free locked = by c.rules.listener refl
    where
      by : (listener : Bool) → c.rules.listener ≡ listener → P (goes c (kept_rest listener))
      by false e = free e
      by true e = locked e

  -- what holds of a load that gives up, and of one that begins anew, as its owner was dropped
  pub abort_next : (sought : Sought K) → P (answers answer.RetriesExhausted) →
      P (goes (record c { aborts = c.aborts + 1 }) (plan.Own sought ∷ [])) →
      P (after_abort c sought)
  abort_next sought ends anew = by (c.aborts + 1 == retries)
    where
      by : (b : Bool) → P (cond b (answers answer.RetriesExhausted)
          (goes (record c { aborts = c.aborts + 1 }) (plan.Own sought ∷ [])))
      by true = ends
      by false = anew

  -- what holds of it as it finds a pair under the key of a chosen record
  pub chosen_by : (key : K) (stamp : _) (cause : Cause) (there : K) (stored : Stored V) →
      ((stored.stamp == stamp) ≡ false → P (keeps c)) →
      (stored.stamp ≡ stamp → P (goes c (plan.Holds key stamp cause there stored ∷ []))) →
      P (finds_pair c (plan.To_evict key stamp cause) there stored)
  chosen_by key stamp cause there stored other same = by (stored.stamp == stamp) refl
    where
      by : (b : Bool) → (stored.stamp == stamp) ≡ b →
          P (chosen_or_not c b key stamp cause there stored)
      by false e = other e
      by true e = same (eqb-true stored.stamp stamp e)

  pub chosen_next : (key : K) (stamp : _) (cause : Cause) (there : K) (stored : Stored V) →
      (c.rules.listener ≡ false → P (answers answer.Kept)) →
      (c.rules.listener ≡ true → P (goes c (plan.Unlock false ∷ plan.Reply answer.Kept ∷ []))) →
      P (goes c (plan.Holds key stamp cause there stored ∷ [])) →
      P (finds_pair c (plan.To_evict key stamp cause) there stored)
  chosen_next key stamp cause there stored free locked same =
      chosen_by key stamp cause there stored (λ e. kept_next free locked) (λ e. same)

-- no ask of a compute takes such an answer
abbrev pub IsLost : {V E : Type 0} → Told V E → Type 0
IsLost told.Nothing = Unit {0}
IsLost told.Done = Unit {0}
IsLost told.Off = Unit {0}
IsLost _ = ⊥

module _ {K V E : Type 0} (P : Next K V E → Type 0) (c : Call K V E) where
  -- what holds of a compute that has read how its owner ended: it begins anew, or waits on
  pub read_key_next : (compute : Compute K) (with : Settled V E) → P (waits c) →
      P (goes c (plan.Own_key compute ∷ [])) →
      P (after_read_key c compute (found.ReadSettled with))
  read_key_next compute settled.NotYet waits anew = waits
  read_key_next compute _ waits anew = anew

  -- what holds of one that stores what it was told, unless the cache is disabled
  puts_next : (compute : Compute K) (pair : Option (K × V)) (value : V) →
      (is_disabled c.rules ≡ true → P (goes c (end_compute (put_answer compute.key pair value)))) →
      (is_disabled c.rules ≡ false → c.rules.listener ≡ false →
      P (goes c (plan.Drain ∷ plan.Moment (plan.To_store compute.key value)
      ∷ end_compute (put_answer compute.key pair value)))) →
      (is_disabled c.rules ≡ false → c.rules.listener ≡ true →
      P (goes c (plan.Drain ∷ plan.Lock compute.key ∷ plan.Moment (plan.To_store compute.key value)
      ∷ end_compute (put_answer compute.key pair value)))) →
      P (goes c (put_told (is_disabled c.rules) c compute.key pair value))
  puts_next compute pair value ends free locked = by (is_disabled c.rules) refl
    where
      by : (b : Bool) → is_disabled c.rules ≡ b → P (goes c (put_told b c compute.key pair value))
      by true e = ends e
      by false e = put_plans_by (λ p. P (goes c p)) c.rules compute.key value
          (end_compute (put_answer compute.key pair value)) (free e) (locked e)

  -- what holds of a plan that answers, and of one that first settles, holds of what is left of a
  -- removal
  pub said_next : (before : List (Item K V E) → List (Item K V E)) (removal : Removal K)
      (a : Answer K V E) →
      P (goes c (before (plan.Reply a ∷ []))) → P (goes c (before (end_compute a))) →
      P (goes c (before (said removal a)))
  said_next before (plan.To_remove_as_told key) a answers settles = settles
  said_next before _ a answers settles = answers

  -- what holds of one that was told what to do: it ends, stores, takes out, or waits on where it was
  -- told what no compute takes
  pub told_op_next_by : (compute : Compute K) (pair : Option (K × V)) (given : Told V E) →
      P (goes c (end_compute (unchanged compute.key pair))) →
      ((error : E) → given ≡ told.Err error → P (goes c (end_compute (answer.ComputeErr error)))) →
      ((value : V) → is_disabled c.rules ≡ true →
      P (goes c (end_compute (put_answer compute.key pair value)))) →
      ((value : V) → is_disabled c.rules ≡ false → c.rules.listener ≡ false →
      P (goes c (plan.Drain ∷ plan.Moment (plan.To_store compute.key value)
      ∷ end_compute (put_answer compute.key pair value)))) →
      ((value : V) → is_disabled c.rules ≡ false → c.rules.listener ≡ true →
      P (goes c (plan.Drain ∷ plan.Lock compute.key ∷ plan.Moment (plan.To_store compute.key value)
      ∷ end_compute (put_answer compute.key pair value)))) →
      (c.rules.listener ≡ false →
      P (goes c (plan.Drain ∷ plan.Moment
      (plan.To_take_out (plan.To_remove_as_told compute.key) compute.key) ∷ []))) →
      (c.rules.listener ≡ true →
      P (goes c (plan.Drain ∷ plan.Lock compute.key ∷ plan.Moment
      (plan.To_take_out (plan.To_remove_as_told compute.key) compute.key) ∷ []))) →
      (IsLost given → P (waits c)) →
      P (after_told_op c compute pair (found.TakeTold (Some given)))
  told_op_next_by compute pair (told.Op op.Nop) keeps fails none free locked out locked_out waits =
      keeps
  told_op_next_by compute pair (told.Op (op.Put value)) keeps fails none free locked out locked_out
      waits =
      puts_next compute pair value (none value) (free value) (locked value)
  told_op_next_by compute pair (told.Value value) keeps fails none free locked out locked_out waits =
      puts_next compute pair value (none value) (free value) (locked value)
  told_op_next_by compute pair (told.Op op.Remove) keeps fails none free locked out locked_out waits =
      locked_by (λ p. P (goes c p)) c.rules.listener compute.key
      (plan.Moment (plan.To_take_out (plan.To_remove_as_told compute.key) compute.key) ∷ [])
      out locked_out
  told_op_next_by compute pair (told.Err error) keeps fails none free locked out locked_out waits =
      fails error refl
  told_op_next_by compute pair _ keeps fails none free locked out locked_out waits =
      waits tt

  -- so where whatever the compute answers does for the end
  pub told_op_next : (compute : Compute K) (pair : Option (K × V)) (given : Told V E) →
      ((a : Answer K V E) → P (goes c (end_compute a))) →
      ((value : V) → is_disabled c.rules ≡ false → c.rules.listener ≡ false →
      P (goes c (plan.Drain ∷ plan.Moment (plan.To_store compute.key value)
      ∷ end_compute (put_answer compute.key pair value)))) →
      ((value : V) → is_disabled c.rules ≡ false → c.rules.listener ≡ true →
      P (goes c (plan.Drain ∷ plan.Lock compute.key ∷ plan.Moment (plan.To_store compute.key value)
      ∷ end_compute (put_answer compute.key pair value)))) →
      (c.rules.listener ≡ false →
      P (goes c (plan.Drain ∷ plan.Moment
      (plan.To_take_out (plan.To_remove_as_told compute.key) compute.key) ∷ []))) →
      (c.rules.listener ≡ true →
      P (goes c (plan.Drain ∷ plan.Lock compute.key ∷ plan.Moment
      (plan.To_take_out (plan.To_remove_as_told compute.key) compute.key) ∷ []))) →
      P (waits c) →
      P (after_told_op c compute pair (found.TakeTold (Some given)))
  told_op_next compute pair given ends free locked out locked_out waits =
      told_op_next_by compute pair given (ends (unchanged compute.key pair))
      (λ error e. ends (answer.ComputeErr error))
      (λ value off. ends (put_answer compute.key pair value)) free locked out locked_out
      (λ lost. waits)

-- the kind is a load's, and no compute's
abbrev pub IsLoad : Kind → Type 0
IsLoad kind.Compute = ⊥
IsLoad _ = Unit {0}

-- the asks of a compute take this: it is told what to do, or an error, or a value
abbrev pub IsComputes : Takes → Type 0
IsComputes takes.Optional = ⊥
IsComputes takes.Try = ⊥
IsComputes _ = Unit {0}

-- a call was started for this removal, and not told to do it
abbrev pub IsNamed : {K : Type 0} → Removal K → Type 0
IsNamed (plan.To_remove_as_told key) = ⊥
IsNamed _ = Unit {0}

-- the answer is a compute's: what it did, or the error that it was told
abbrev pub IsComputed : {K V E : Type 0} → Answer K V E → Type 0
IsComputed (answer.Computed done) = Unit {0}
IsComputed (answer.ComputeErr error) = Unit {0}
IsComputed _ = ⊥

pub unchanged_computed : {K V : Type 0} (E : Type 0) (key : K) (pair : Option (K × V)) →
    IsComputed (unchanged {E = E} key pair)
unchanged_computed E key None = tt
unchanged_computed E key (Some pair) = tt

pub put_computed : {K V : Type 0} (E : Type 0) (key : K) (pair : Option (K × V)) (value : V) →
    IsComputed (put_answer {E = E} key pair value)
put_computed E key None value = tt
put_computed E key (Some pair) value = tt

-- a call that was started for its removal answers at once
pub said_named : {K V E : Type 0} (removal : Removal K) (a : Answer K V E) → IsNamed removal →
    said removal a ≡ plan.Reply a ∷ []
said_named (plan.To_remove_as_told key) a named = absurd named
said_named _ a named = refl

-- the answer is not how a load ended without a value: neither nothing, nor an error, nor that the
-- call gave up
abbrev pub IsPlain : {K V E : Type 0} → Answer K V E → Type 0
IsPlain answer.Nothing = ⊥
IsPlain (answer.InitErr error) = ⊥
IsPlain answer.RetriesExhausted = ⊥
IsPlain _ = Unit {0}

-- the answer is one that a disabled cache gives at once: that nothing was found, as if stored, or
-- that the walk has ended
abbrev pub IsAtOnce : {K V E : Type 0} → Answer K V E → Type 0
IsAtOnce (answer.Found value) = Unit {0}
IsAtOnce answer.Done = Unit {0}
IsAtOnce answer.End = Unit {0}
IsAtOnce (answer.Loaded value fresh) = Unit {0}
IsAtOnce _ = ⊥

pub registering_plain : (K V E : Type 0) (registering : Result ℕ PredicateError) →
    IsPlain (registering_answer {K = K} {V = V} {E = E} registering)
registering_plain K V E (Ok id) = tt
registering_plain K V E (Err refused.InvalidationClosuresDisabled) = tt
registering_plain K V E (Err refused.NoId) = tt
registering_plain K V E (Err refused.Memory) = tt

pub once_plain : {K V E : Type 0} (a : Answer K V E) → IsAtOnce a → IsPlain a
once_plain answer.Nothing once = absurd once
once_plain (answer.InitErr error) once = absurd once
once_plain answer.RetriesExhausted once = absurd once
once_plain _ once = tt

-- a start names this removal
abbrev pub IsStarted : {K : Type 0} → Removal K → Type 0
IsStarted plan.To_invalidate = Unit {0}
IsStarted plan.To_remove = Unit {0}
IsStarted _ = ⊥

module _ {K V E : Type 0} where
  -- the plans that fresh calls have by these rules
  pub data IsFresh (rules : Rules) : List (Item K V E) → Type 0 where
    Disabled : (a : Answer K V E) → is_disabled rules ≡ true → IsAtOnce a →
        IsFresh rules (plan.Reply a ∷ [])
    Gets : (form : Shown K) (key : K) → is_disabled rules ≡ false →
        IsFresh rules (plan.Drain ∷ plan.Get (plan.To_show form) key ∷ [])
    Loads : (sought : Sought K) → is_disabled rules ≡ false → IsLoad sought.load.kind →
        IsFresh rules (plan.Drain ∷ plan.Get (plan.To_load sought) sought.load.key ∷ [])
    Owns : (sought : Sought K) → is_disabled rules ≡ true → IsLoad sought.load.kind →
        IsFresh rules (plan.Drain ∷ plan.Own sought ∷ [])
    Computes : (compute : Compute K) → IsComputes compute.takes →
        IsFresh rules (plan.Own_key compute ∷ [])
    Computes_alone : (key : K) → IsFresh rules (plan.Own_alone key ∷ [])
    Finds_or_puts : (key : K) (value : V) → is_disabled rules ≡ false →
        IsFresh rules (plan.Drain ∷ plan.Get (plan.To_insert key value) key ∷ [])
    Gives_back : (a : Answer K V E) → is_disabled rules ≡ true → IsAtOnce a →
        IsFresh rules (plan.Drain ∷ plan.Reply a ∷ [])
    Puts : (key : K) (value : V) → is_disabled rules ≡ false → rules.listener ≡ false →
        IsFresh rules (plan.Drain ∷ plan.Moment (plan.To_store key value)
        ∷ plan.Reply answer.Done ∷ [])
    Locks_and_puts : (key : K) (value : V) → is_disabled rules ≡ false → rules.listener ≡ true →
        IsFresh rules
        (plan.Drain ∷ plan.Lock key ∷ plan.Moment (plan.To_store key value)
        ∷ plan.Reply answer.Done ∷ [])
    Takes_out : (removal : Removal K) (key : K) → rules.listener ≡ false → IsStarted removal →
        IsFresh rules (plan.Drain ∷ plan.Moment (plan.To_take_out removal key) ∷ [])
    Locks_and_takes_out : (removal : Removal K) (key : K) → rules.listener ≡ true →
        IsStarted removal →
        IsFresh rules (plan.Drain ∷ plan.Lock key ∷ plan.Moment (plan.To_take_out removal key) ∷ [])
    Invalidates_all : IsFresh rules (plan.Invalidate_all ∷ plan.Reply answer.Done ∷ [])
    Registers : (test : ℕ) → IsFresh rules (plan.Register test ∷ [])
    Walks_over : (parts : ℕ) → is_disabled rules ≡ false → IsFresh rules (walk_from 0 parts)
    Maintains : (parts : ℕ) → is_disabled rules ≡ false → IsFresh rules (pending_plan false parts)
    Evicts : (key : K) (stamp : _) (cause : Cause) → rules.listener ≡ false →
        IsFresh rules (plan.Get (plan.To_evict key stamp cause) key ∷ [])
    Locks_and_evicts : (key : K) (stamp : _) (cause : Cause) → rules.listener ≡ true →
        IsFresh rules (plan.Lock key ∷ plan.Get (plan.To_evict key stamp cause) key ∷ [])

  takes_out : (rules : Rules) (removal : Removal K) (key : K) → IsStarted removal →
      IsFresh rules (take_out rules removal key)
  takes_out rules removal key named =
      locked_by (IsFresh rules) rules.listener key (plan.Moment (plan.To_take_out removal key) ∷ [])
      (λ off. Takes_out removal key off named) (λ on. Locks_and_takes_out removal key on named)

  loads : (rules : Rules) (sought : Sought K) → IsLoad sought.load.kind →
      IsFresh rules (load_plan {V = V} {E = E} (is_disabled rules) sought)
  loads rules sought one = by (is_disabled rules) refl
    where
      by : (b : Bool) → is_disabled rules ≡ b → IsFresh rules (load_plan {V = V} {E = E} b sought)
      by true e = Owns sought e one
      by false e = Loads sought e one

  pub fresh_plan : (parts : ℕ) (rules : Rules) (s : Start K V) → IsFresh rules (plan_of parts rules s)
  fresh_plan parts rules (start.Get key) = by (is_disabled rules) refl
    where
      by : (b : Bool) → is_disabled rules ≡ b → IsFresh rules (get_plan b key)
      by true e = Disabled (answer.Found _) e tt
      by false e = Gets plan.As_value key e
  fresh_plan parts rules (start.Insert key value) = by (is_disabled rules) refl
    where
      by : (b : Bool) → is_disabled rules ≡ b → IsFresh rules (insert_plan b rules key value)
      by true e = Disabled answer.Done e tt
      by false e = put_plans_by (IsFresh rules) rules key value _ (λ off. Puts key value e off)
          (λ on. Locks_and_puts key value e on)
  fresh_plan parts rules (start.GetWith key replace) = loads rules (seek kind.GetWith key replace) tt
  fresh_plan parts rules (start.Optional key) = loads rules (seek kind.Optional key None) tt
  fresh_plan parts rules (start.Try key) = loads rules (seek kind.Try key None) tt
  fresh_plan parts rules (start.OrInsert key value) = by (is_disabled rules) refl
    where
      by : (b : Bool) → is_disabled rules ≡ b → IsFresh rules (or_insert_plan b key value)
      by true e = Gives_back _ e tt
      by false e = Finds_or_puts key value e
  fresh_plan parts rules (start.ComputeAlone key) = Computes_alone key
  fresh_plan parts rules (start.Invalidate key) = takes_out rules plan.To_invalidate key tt
  fresh_plan parts rules (start.Remove key) = takes_out rules plan.To_remove key tt
  fresh_plan parts rules start.InvalidateAll = Invalidates_all
  fresh_plan parts rules (start.InvalidateIf test) = Registers test
  fresh_plan parts rules start.Iter = by (is_disabled rules) refl
    where
      by : (b : Bool) → is_disabled rules ≡ b → IsFresh rules (iter_plan b parts)
      by true e = Disabled answer.End e tt
      by false e = Walks_over parts e
  fresh_plan parts rules start.Pending = by (is_disabled rules) refl
    where
      by : (b : Bool) → is_disabled rules ≡ b → IsFresh rules (pending_plan b parts)
      by true e = Disabled answer.Done e tt
      by false e = Maintains parts e
  fresh_plan parts rules (start.Evict key stamp cause) = by rules.listener refl
    where
      by : (listener : Bool) → rules.listener ≡ listener →
          IsFresh rules (under_lock listener key
          (plan.Get (plan.To_evict key stamp cause) key ∷ []))
      by false e = Evicts key stamp cause e
      by true e = Locks_and_evicts key stamp cause e
  fresh_plan parts rules _ = Computes _ tt
