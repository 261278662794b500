-- The forms that the plan of a live call has.
use Rattle.std.proofs.Common.{◌≡◌, ℕ, ◌+◌, ◌<◌, ◌==◌, Bool, true, false, List, [], ◌∷◌, Option, Some, None, refl, subst, arith}
use Rattle.std.proofs.lemmas.Bool.Decides.{nat_tests}
use Rattle.moka_hist.specs.State.{State, Call, World}
use Rattle.moka_hist.specs.Maintenance.{carrying}
use Rattle.moka_hist.specs.Plan.{Item, Aim, Removal, plan_of, is_disabled}
use Rattle.moka_hist.specs.Plan as plan
use Rattle.moka_hist.specs.Next.{Next, goes}
use Rattle.moka_hist.specs.Looking.{hits, misses, keeps, finds_pair}
use Rattle.moka_hist.specs.Loading.{after_read, after_abort, after_told, retries}
use Rattle.moka_hist.specs.Computing.{after_told_op}
use Rattle.moka_hist.specs.Writing.{said}
use Rattle.moka_hist.specs.Run.{IsReached, fresh_call}
use Rattle.moka_hist.specs.Step.{Step, state_after}
use Rattle.moka_hist.specs.declared.events.Start.{Start}
use Rattle.moka_hist.specs.declared.events.Told.{Told}
use Rattle.moka_hist.specs.declared.events.Told.TheVariants as told
use Rattle.moka_hist.specs.declared.loads.Compute.{Compute}
use Rattle.moka_hist.specs.declared.loads.Load.{Load}
use Rattle.moka_hist.specs.declared.loads.Sought.{Sought}
use Rattle.moka_hist.specs.declared.rules.Cause.{Cause}
use Rattle.moka_hist.specs.declared.rules.Rules.{Rules}
use Rattle.moka_hist.specs.declared.records.Stored.{Stored}
use Rattle.moka_hist.specs.declared.replies.Answer.{Answer}
use Rattle.moka_hist.specs.declared.replies.Answer.TheVariants as answer
use Rattle.moka_hist.specs.declared.accesses.Turn.{Turn}
use Rattle.moka_hist.specs.declared.visits.Settled.{Settled}
use Rattle.moka_hist.specs.declared.visits.Settled.TheVariants as settled
use Rattle.moka_hist.specs.declared.visits.Found.TheVariants as found
use Rattle.moka_hist.specs.declared.writes.Write as write
use Rattle.moka_laws.proofs.Rules.{put_plans, loaded_plans, kept_next, chosen_next, read_key_next, told_op_next, IsFresh, Disabled, Gets, Loads, Owns, Computes, Computes_alone, Finds_or_puts, Gives_back, Puts, Locks_and_puts, Takes_out, Locks_and_takes_out, Evicts, Invalidates_all, Registers, Walks_over, Maintains, Locks_and_evicts, fresh_plan}
use Rattle.moka_laws.proofs.StepCases.{OnStep, step_cases}
use Rattle.moka_laws.proofs.Outcomes.{alone_of, outcomes, OwnsKey}
use Rattle.moka_laws.proofs.Walks.{Chooses, IsWalk, Walks, Walks_carrying, Walks_free, Walks_giving, Walks_on, Walks_still, on_walk, walk_is_walk}
use Rattle.moka_laws.proofs.Kept.{IsInvariant, in_reached}
use Rattle.moka_laws.proofs.Counting.{none_some, put_cases}

-- what is looked for may be seen: it isn't a record that was chosen to leave
abbrev pub IsLook : {K V : Type 0} → Aim K V → Type 0
IsLook (plan.To_evict key stamp cause) = ⊥
IsLook _ = Unit {0}

module _ {K V E : Type 0} where
  -- what is left once a call has written and posted its write: it settles, and answers
  pub data IsTail : List (Item K V E) → Type 0 where
    Answering : (answer : Answer K V E) → IsTail (plan.Reply answer ∷ [])
    Settling : (with : Settled V E) (answer : Answer K V E) →
        IsTail (plan.Settle with ∷ plan.Reply answer ∷ [])

  -- what is left once it has taken up what was owed: it looks, owns, writes, or takes out
  pub data IsDrained : List (Item K V E) → Type 0 where
    Looking : (aim : Aim K V) (key : K) → IsLook aim → IsDrained (plan.Get aim key ∷ [])
    Owning : (sought : Sought K) → IsDrained (plan.Own sought ∷ [])
    -- the owner of a key's computes asks, right away where the cache is disabled
    Asking_op : (compute : Compute K) (found : Option (K × V)) →
        IsDrained (plan.Ask_op compute found ∷ [])
    -- a disabled cache's or_insert answers
    Giving : (answer : Answer K V E) → IsDrained (plan.Reply answer ∷ [])
    Putting : (key : K) (value : V) (rest : List (Item K V E)) → IsTail rest →
        IsDrained (plan.Moment (plan.To_store key value) ∷ rest)
    Locking : (key : K) (value : V) (rest : List (Item K V E)) → IsTail rest →
        IsDrained (plan.Lock key ∷ plan.Moment (plan.To_store key value) ∷ rest)
    Removing : (removal : Removal K) (key : K) →
        IsDrained (plan.Moment (plan.To_take_out removal key) ∷ [])
    Locking_out : (removal : Removal K) (key : K) →
        IsDrained (plan.Lock key ∷ plan.Moment (plan.To_take_out removal key) ∷ [])
    -- maintenance applies the log
    Maintaining : (parts : ℕ) →
        IsDrained (plan.Turn ∷ plan.Apply ∷ plan.End ∷ plan.Candidates parts ∷ [])

  -- what is left once a write is posted: more may be owed, or it was the call's own
  pub data IsPosted : List (Item K V E) → Type 0 where
    Draining : (rest : List (Item K V E)) → IsDrained rest → IsPosted (plan.Drain ∷ rest)
    Ended : (rest : List (Item K V E)) → IsTail rest → IsPosted rest

  pub data IsPlan : List (Item K V E) → Type 0 where
    Posted : (rest : List (Item K V E)) → IsPosted rest → IsPlan rest
    Drained : (rest : List (Item K V E)) → IsDrained rest → IsPlan rest
    Posting : (held : write.Write) (rest : List (Item K V E)) → IsPosted rest → IsPlan (plan.Post held ∷ rest)
    -- the notice of an owed write is heard, or the call's own is opened and heard; and the lock is freed
    Hearing : (number : ℕ) (held : write.Write) (rest : List (Item K V E)) → IsPosted rest → IsPlan (plan.Ended number ∷ plan.Post held ∷ rest)
    Noticing : (key : K) (old : Stored V) (cause : Option Cause) (upsert : Bool)
        (held : write.Write)
        (rest : List (Item K V E)) → IsTail rest →
        IsPlan (plan.Notice key old cause upsert ∷ plan.Unlock true ∷ plan.Post held ∷ rest)
    Listening : (held : write.Write) (rest : List (Item K V E)) → IsTail rest →
        IsPlan (plan.Heard ∷ plan.Unlock true ∷ plan.Post held ∷ rest)
    Unlocking : (held : write.Write) (rest : List (Item K V E)) → IsTail rest →
        IsPlan (plan.Unlock true ∷ plan.Post held ∷ rest)
    Turning : (held : write.Write) (rest : List (Item K V E)) → IsPosted rest → IsPlan (plan.Turn ∷ plan.Apply ∷ plan.End ∷ plan.Post held ∷ rest)
    Applying : (held : write.Write) (rest : List (Item K V E)) → IsPosted rest → IsPlan (plan.Apply ∷ plan.End ∷ plan.Post held ∷ rest)
    Ending : (held : write.Write) (rest : List (Item K V E)) → IsPosted rest → IsPlan (plan.End ∷ plan.Post held ∷ rest)
    Judging : (aim : Aim K V) (key : K) (stored : Stored V) → IsLook aim →
        IsPlan (plan.Judge aim key stored ∷ [])
    Reading : (sought : Sought K) → IsPlan (plan.Read sought ∷ [])
    Asking : (load : Load K) → IsPlan (plan.Ask load ∷ [])
    Telling : (load : Load K) → IsPlan (plan.Told load ∷ [])
    -- a compute owns its key, waits for the owner, and takes what it was told
    Owning_key : (compute : Compute K) → IsPlan (plan.Own_key compute ∷ [])
    Owning_alone : (key : K) → IsPlan (plan.Own_alone key ∷ [])
    Reading_key : (compute : Compute K) → IsPlan (plan.Read_key compute ∷ [])
    Telling_op : (compute : Compute K) (found : Option (K × V)) →
        IsPlan (plan.Told_op compute found ∷ [])
    Writing : (key : K) (value : V) (moment : ℕ) (rest : List (Item K V E)) → IsTail rest → IsPlan (plan.Write key value moment ∷ rest)
    -- a chosen record is looked up, under its key's lock where a listener is set, and judged
    Choosing : (key : K) (stamp : ℕ) (cause : Cause) →
        IsPlan (plan.Lock key ∷ plan.Get (plan.To_evict key stamp cause) key ∷ [])
    Finding : (key : K) (stamp : ℕ) (cause : Cause) →
        IsPlan (plan.Get (plan.To_evict key stamp cause) key ∷ [])
    Chosen : (key : K) (stamp : ℕ) (cause : Cause) (there : K) (stored : Stored V) →
        IsPlan (plan.Holds key stamp cause there stored ∷ [])
    -- a record is taken out; and where nothing was, the lock is freed or the clock is read
    Taking : (removal : Removal K) (key : K) → IsPlan (plan.Out removal key ∷ [])
    Freeing : (rest : List (Item K V E)) → IsTail rest → IsPlan (plan.Unlock false ∷ rest)
    Idling : (rest : List (Item K V E)) → IsTail rest → IsPlan (plan.Idle ∷ rest)
    Hiding : IsPlan (plan.Invalidate_all ∷ plan.Reply answer.Done ∷ [])
    Registering : (test : ℕ) → IsPlan (plan.Register test ∷ [])
    Walking : (rest : List (Item K V E)) → IsWalk rest → IsPlan rest
    -- maintenance applies the log, and ends its turn
    Applying_all : (parts : ℕ) → IsPlan (plan.Apply ∷ plan.End ∷ plan.Candidates parts ∷ [])
    Ending_all : (parts : ℕ) → IsPlan (plan.End ∷ plan.Candidates parts ∷ [])

  -- the call's plan has one of these forms, and it has not given up yet
  pub record IsKnown (c : Call K V E) : Type 0 where
    pub plan : IsPlan c.plan
    pub young : c.aborts < retries

  -- so is a call that may have ended
  abbrev KnownIf : Option (Call K V E) → Type 0
  KnownIf None = Unit {0}
  KnownIf (Some c) = IsKnown c

  goes_known : (c : Call K V E) (rest : List (Item K V E)) → c.aborts < retries → IsPlan rest → KnownIf (goes c rest).left
  goes_known c [] y p = record { plan = p; young = y }
  goes_known c (plan.Reply a ∷ []) y p = tt
  goes_known c _ y p = record { plan = p; young = y }

  keeps_known : (c : Call K V E) → c.aborts < retries → KnownIf (keeps c).left
  keeps_known c y = kept_next (λ v. KnownIf v.left) c (λ off. tt)
      (λ on. record { plan = Freeing _ (Answering _); young = y })

  misses_known : (c : Call K V E) (aim : Aim K V) → c.aborts < retries → KnownIf (misses c aim).left
  misses_known c (plan.To_show form) y = tt
  misses_known c (plan.To_load sought) y = record { plan = Drained _ (Owning sought); young = y }
  misses_known c (plan.To_own sought) y = record { plan = Asking sought.load; young = y }
  misses_known c (plan.To_compute compute) y =
      record { plan = Drained _ (Asking_op compute None); young = y }
  misses_known c (plan.To_insert key value) y =
      put_plans (λ p. KnownIf (goes c p).left) c.rules key value
      (plan.Reply (answer.Loaded value true) ∷ [])
      (record { plan = Posted _ (Draining _ (Putting _ _ _ (Answering _))); young = y })
      (record { plan = Posted _ (Draining _ (Locking _ _ _ (Answering _))); young = y })
  misses_known c (plan.To_evict key stamp cause) y = keeps_known c y

  finds_known : (c : Call K V E) (aim : Aim K V) (there : K) (stored : Stored V) → c.aborts < retries →
      KnownIf (finds_pair c aim there stored).left
  finds_known c (plan.To_evict key stamp cause) there stored y =
      chosen_next (λ v. KnownIf v.left) c key stamp cause there stored (λ off. tt)
      (λ on. record { plan = Freeing _ (Answering _); young = y })
      (record { plan = Chosen key stamp cause there stored; young = y })
  finds_known c _ there stored y =
      record { plan = Judging _ there stored tt; young = y }

  hits_known : (c : Call K V E) (aim : Aim K V) (there : K) (value : V) → IsLook aim →
      c.aborts < retries →
      KnownIf (hits c aim there value).left
  hits_known c (plan.To_own sought) there value l y =
      record { plan = Posted _ (Ended _ (Settling _ _)); young = y }
  hits_known c (plan.To_compute compute) there value l y =
      record { plan = Drained _ (Asking_op compute (Some (there, value))); young = y }
  hits_known c (plan.To_evict key stamp cause) there value l y = absurd l
  hits_known c _ there value l y = tt

  read_known : (c : Call K V E) (sought : Sought K) (with : Settled V E) → IsKnown c → KnownIf (after_read c sought (found.ReadSettled with)).left
  read_known c sought settled.NotYet h = record { plan = h.plan; young = h.young }
  read_known c sought settled.Aborted h = by (c.aborts + 1 == retries) refl
    where
      by : (b : Bool) → (c.aborts + 1 == retries) ≡ b → KnownIf (after_abort c sought).left
      by true e = rw e tt
      by false e = rw e (record {
        plan = Drained _ (Owning sought);
        young = grind
            (arith, nat_tests, e, h.young);
      })
  read_known c sought _ h = tt

  told_known : (c : Call K V E) (load : Load K) (given : Told V E) → IsKnown c → KnownIf (after_told c load (found.TakeTold (Some given))).left
  told_known c load (told.Value value) h =
      loaded_plans (λ p. KnownIf (goes c p).left) c.rules load value
      (record { plan = Posted _ (Ended _ (Settling _ _)); young = h.young })
      (record { plan = Posted _ (Draining _ (Putting _ _ _ (Settling _ _))); young = h.young })
      (record { plan = Posted _ (Draining _ (Locking _ _ _ (Settling _ _))); young = h.young })
  told_known c load (told.Err error) h =
      record { plan = Posted _ (Ended _ (Settling _ _)); young = h.young }
  told_known c load told.Nothing h =
      record { plan = Posted _ (Ended _ (Settling _ _)); young = h.young }
  told_known c load _ h = record { plan = h.plan; young = h.young }

  -- what is left of a removal
  said_tail : (removal : Removal K) (a : Answer K V E) → IsTail (said removal a)
  said_tail (plan.To_remove_as_told key) a = Settling _ a
  said_tail _ a = Answering a

  told_op_known : (c : Call K V E) (compute : Compute K) (pair : Option (K × V))
      (given : Told V E) → IsKnown c →
      KnownIf (after_told_op c compute pair (found.TakeTold (Some given))).left
  told_op_known c compute pair given h = told_op_next (λ v. KnownIf v.left) c compute pair given
      (λ a. record { plan = Posted _ (Ended _ (Settling _ a)); young = h.young })
      (λ value able off. record { plan = Posted _ (Draining _ (Putting _ _ _ (Settling _ _))); young = h.young })
      (λ value able on. record { plan = Posted _ (Draining _ (Locking _ _ _ (Settling _ _))); young = h.young })
      (λ off. record { plan = Posted _ (Draining _ (Removing _ _)); young = h.young })
      (λ on. record { plan = Posted _ (Draining _ (Locking_out _ _)); young = h.young })
      (record { plan = h.plan; young = h.young })

  fresh_form : (rules : Rules) (p : List (Item K V E)) → IsFresh rules p → IsPlan p
  fresh_form rules p (Disabled a d plain) = Posted _ (Ended _ (Answering a))
  fresh_form rules p (Gets form key d) = Posted _ (Draining _ (Looking _ key tt))
  fresh_form rules p (Loads sought d one) = Posted _ (Draining _ (Looking _ sought.load.key tt))
  fresh_form rules p (Owns sought d one) = Posted _ (Draining _ (Owning sought))
  fresh_form rules p (Computes compute one) = Owning_key compute
  fresh_form rules p (Computes_alone key) = Owning_alone key
  fresh_form rules p (Finds_or_puts key value d) = Posted _ (Draining _ (Looking _ key tt))
  fresh_form rules p (Gives_back a d plain) = Posted _ (Draining _ (Giving a))
  fresh_form rules p (Puts key value d off) =
      Posted _ (Draining _ (Putting key value _ (Answering _)))
  fresh_form rules p (Locks_and_puts key value d on) =
      Posted _ (Draining _ (Locking key value _ (Answering _)))
  fresh_form rules p (Takes_out removal key off named) =
      Posted _ (Draining _ (Removing removal key))
  fresh_form rules p (Locks_and_takes_out removal key on named) =
      Posted _ (Draining _ (Locking_out removal key))
  fresh_form rules p Invalidates_all = Hiding
  fresh_form rules p (Registers test) = Registering test
  fresh_form rules p (Walks_over parts able) = Walking _ (walk_is_walk 0 parts)
  fresh_form rules p (Maintains parts able) = Posted _ (Draining _ (Maintaining parts))
  fresh_form rules p (Evicts key stamp cause off) = Finding key stamp cause
  fresh_form rules p (Locks_and_evicts key stamp cause on) = Choosing key stamp cause

  fresh_known : (parts : ℕ) (rules : Rules) (s : Start K V) → IsKnown (fresh_call parts rules s)
  fresh_known parts rules s =
      record { plan = fresh_form rules (plan_of parts rules s) (fresh_plan parts rules s); young = omega arith }

  module _ (eq : K → K → Bool) (w : World K V E) (n : ℕ) (c : Call K V E) (h : IsKnown c) where
    abbrev Leaves : World K V E → Next K V E → Type 0
    Leaves new next = KnownIf next.left

    walks_known : (next : Next K V E) → Walks c next → KnownIf next.left
    walks_known next (Walks_on rest walk) = goes_known c rest h.young (Walking rest walk)
    walks_known next Walks_still = record { plan = h.plan; young = h.young }
    walks_known next (Walks_giving key value rest walk) = record { plan = Walking rest walk; young = h.young }
    walks_known next (Walks_carrying ids rest walk) = goes_known (carrying c ids) rest h.young (Walking rest walk)
    walks_known next Walks_free = tt

    on_tail : (p : List (Item K V E)) → IsTail p → OnStep eq Leaves w n c p
    on_tail p (Answering a) = outcomes eq Leaves w n c (plan.Reply a) [] tt
    on_tail p (Settling with a) = outcomes eq Leaves w n c (plan.Settle with) (plan.Reply a ∷ []) tt

    on_drained : (p : List (Item K V E)) → IsDrained p → OnStep eq Leaves w n c p
    on_drained p (Looking aim key l) = outcomes eq Leaves w n c (plan.Get aim key) [] (
      (λ more. record { plan = h.plan; young = h.young }),
      (λ none. misses_known c aim h.young),
      λ k stored some. finds_known c aim k stored h.young,
    )
    on_drained p (Owning sought) = outcomes eq Leaves w n c (plan.Own sought) [] (
      (λ able e. record { plan = Drained _ (Looking _ _ tt); young = h.young }),
      (λ not e. record { plan = Asking sought.load; young = h.young }),
      λ owner e. record { plan = Reading sought; young = h.young },
    )
    on_drained p (Asking_op compute pair) =
        outcomes eq Leaves w n c (plan.Ask_op compute pair) [] (record { plan = Telling_op compute pair; young = h.young })
    on_drained p (Giving a) = outcomes eq Leaves w n c (plan.Reply a) [] tt
    on_drained p (Putting key value rest t) =
        outcomes eq Leaves w n c (plan.Moment (plan.To_store key value)) rest
        (record { plan = Writing key value _ rest t; young = h.young })
    on_drained p (Locking key value rest t) =
        outcomes eq Leaves w n c (plan.Lock key) (plan.Moment (plan.To_store key value) ∷ rest) (
          (λ e. record { plan = Drained _ (Putting key value rest t); young = h.young }),
          λ e. record { plan = h.plan; young = h.young },
        )
    on_drained p (Removing removal key) =
        outcomes eq Leaves w n c (plan.Moment (plan.To_take_out removal key)) []
        (record { plan = Taking removal key; young = h.young })
    on_drained p (Locking_out removal key) =
        outcomes eq Leaves w n c (plan.Lock key) (plan.Moment (plan.To_take_out removal key) ∷ []) (
          (λ e. record { plan = Drained _ (Removing removal key); young = h.young }),
          λ e. record { plan = h.plan; young = h.young },
        )
    on_drained p (Maintaining parts) = outcomes eq Leaves w n c plan.Turn (plan.Apply ∷ plan.End ∷ plan.Candidates parts ∷ [])
        ((λ e. record { plan = Applying_all parts; young = h.young }), λ e. record { plan = h.plan; young = h.young })

    on_posted : (p : List (Item K V E)) → IsPosted p → OnStep eq Leaves w n c p
    on_posted p (Draining rest d) = outcomes eq Leaves w n c plan.Drain rest (
      (λ e. goes_known c rest h.young (Drained rest d)),
      (λ x xs e. record { plan = Posting x (plan.Drain ∷ rest) (Draining rest d); young = h.young }),
      λ x number xs e. record { plan = Hearing number x (plan.Drain ∷ rest) (Draining rest d); young = h.young },
    )
    on_posted p (Ended rest t) = on_tail rest t

    owns_key : (compute : Compute K) → OwnsKey eq Leaves w n c compute
    owns_key compute = (
      (λ able e. record { plan = Posted _ (Draining _ (Looking _ compute.key tt)); young = h.young }),
      λ not e. record { plan = Posted _ (Draining _ (Asking_op compute None)); young = h.young },
    )

    on_plan : (p : List (Item K V E)) → IsPlan p → OnStep eq Leaves w n c p
    on_plan p (Posted rest d) = on_posted rest d
    on_plan p (Drained rest d) = on_drained rest d
    on_plan p (Posting x rest d) = outcomes eq Leaves w n c (plan.Post x) rest
        ((λ e. goes_known c rest h.young (Posted rest d)), λ e. record { plan = Turning x rest d; young = h.young })
    on_plan p (Hearing number x rest d) = outcomes eq Leaves w n c (plan.Ended number) (plan.Post x ∷ rest)
        ((λ e. record { plan = Posting x rest d; young = h.young }), λ e. record { plan = h.plan; young = h.young })
    on_plan p (Noticing key old cause upsert x rest t) =
        outcomes eq Leaves w n c (plan.Notice key old cause upsert)
        (plan.Unlock true ∷ plan.Post x ∷ rest)
        ((λ e. record { plan = Unlocking x rest t; young = h.young }), λ e. record { plan = Listening x rest t; young = h.young })
    on_plan p (Listening x rest t) =
        outcomes eq Leaves w n c plan.Heard (plan.Unlock true ∷ plan.Post x ∷ rest)
        ((λ e. record { plan = Unlocking x rest t; young = h.young }), λ e. record { plan = h.plan; young = h.young })
    on_plan p (Unlocking x rest t) = outcomes eq Leaves w n c (plan.Unlock true)
        (plan.Post x ∷ rest) (record { plan = Posting x rest (Ended rest t); young = h.young })
    on_plan p (Turning x rest d) = outcomes eq Leaves w n c plan.Turn (plan.Apply ∷ plan.End ∷ plan.Post x ∷ rest)
        ((λ e. record { plan = Applying x rest d; young = h.young }), λ e. record { plan = h.plan; young = h.young })
    on_plan p (Applying x rest d) = outcomes eq Leaves w n c plan.Apply (plan.End ∷ plan.Post x ∷ rest)
        ((λ e. record { plan = Ending x rest d; young = h.young }), λ y ys e. record { plan = Applying x rest d; young = h.young })
    on_plan p (Ending x rest d) = outcomes eq Leaves w n c plan.End (plan.Post x ∷ rest) (record { plan = Posting x rest d; young = h.young })
    on_plan p (Judging aim key stored l) =
        outcomes eq Leaves w n c (plan.Judge aim key stored) [] (
          (λ seen. hits_known c aim key stored.value l h.young),
          λ unseen. misses_known c aim h.young,
        )
    on_plan p (Reading sought) = outcomes eq Leaves w n c (plan.Read sought) []
        ((λ e. record { plan = h.plan; young = h.young }), λ with e. read_known c sought with h)
    on_plan p (Asking load) = outcomes eq Leaves w n c (plan.Ask load) [] (record { plan = Telling load; young = h.young })
    on_plan p (Telling load) = outcomes eq Leaves w n c (plan.Told load) []
        ((λ e. record { plan = h.plan; young = h.young }), λ given e. told_known c load given h)
    on_plan p (Owning_key compute) = outcomes eq Leaves w n c (plan.Own_key compute) []
        (owns_key compute, λ owner e. record { plan = Reading_key compute; young = h.young })
    on_plan p (Owning_alone key) = outcomes eq Leaves w n c (plan.Own_alone key) [] (
      owns_key (alone_of key),
      λ owner e. (
        (λ able. record { plan = Posted _ (Draining _ (Looking _ key tt)); young = h.young }),
        λ not. record { plan = Posted _ (Draining _ (Giving _)); young = h.young },
      ),
    )
    on_plan p (Reading_key compute) = outcomes eq Leaves w n c (plan.Read_key compute) [] (
      (λ e. record { plan = h.plan; young = h.young }),
      λ with e. read_key_next (λ v. KnownIf v.left) c compute with
          (record { plan = h.plan; young = h.young })
          (record { plan = Owning_key compute; young = h.young }),
    )
    on_plan p (Telling_op compute pair) = outcomes eq Leaves w n c (plan.Told_op compute pair) [] (
      (λ e. record { plan = h.plan; young = h.young }),
      λ given e. told_op_known c compute pair given h,
    )
    on_plan p (Writing key value moment rest t) = outcomes eq Leaves w n c (plan.Write key value moment) rest (
      (λ more. record { plan = h.plan; young = h.young }),
      (λ off old. record { plan = Posting _ rest (Ended rest t); young = h.young }),
      (λ on. record { plan = Unlocking _ rest t; young = h.young }),
      λ k old on some. record { plan = Noticing key old _ _ _ rest t; young = h.young },
    )
    on_plan p (Choosing key stamp cause) =
        outcomes eq Leaves w n c (plan.Lock key) (plan.Get (plan.To_evict key stamp cause) key ∷ []) (
          (λ e. record { plan = Finding key stamp cause; young = h.young }),
          λ e. record { plan = h.plan; young = h.young },
        )
    on_plan p (Finding key stamp cause) =
        outcomes eq Leaves w n c (plan.Get (plan.To_evict key stamp cause) key) [] (
          (λ more. record { plan = h.plan; young = h.young }),
          (λ none. keeps_known c h.young),
          λ k stored some. finds_known c (plan.To_evict key stamp cause) k stored h.young,
        )
    on_plan p (Chosen key stamp cause there stored) =
        outcomes eq Leaves w n c (plan.Holds key stamp cause there stored) [] (
          (λ e. record { plan = Drained _ (Removing _ key); young = h.young }),
          λ e. keeps_known c h.young,
        )
    on_plan p (Taking removal key) = outcomes eq Leaves w n c (plan.Out removal key) [] (
      (λ more. record { plan = h.plan; young = h.young }),
      (λ off none. record { plan = Idling _ (said_tail removal _); young = h.young }),
      (λ on none. record { plan = Freeing _ (said_tail removal _); young = h.young }),
      (λ k old off some. record { plan = Posting _ _ (Ended _ (said_tail removal _)); young = h.young }),
      λ k old on some. record { plan = Noticing key old _ _ _ _ (said_tail removal _); young = h.young },
    )
    on_plan p (Freeing rest t) = outcomes eq Leaves w n c (plan.Unlock false) rest
        (goes_known c rest h.young (Posted _ (Ended _ t)))
    on_plan p Hiding = outcomes eq Leaves w n c plan.Invalidate_all (plan.Reply answer.Done ∷ []) tt
    on_plan p (Registering test) = outcomes eq Leaves w n c (plan.Register test) [] tt
    on_plan p (Walking rest walk) = on_walk eq Leaves w n c rest walk (λ listings stay next on. walks_known next on) tt (λ ids. tt)
    on_plan p (Applying_all parts) = outcomes eq Leaves w n c plan.Apply (plan.End ∷ plan.Candidates parts ∷ [])
        ((λ e. record { plan = Ending_all parts; young = h.young }), λ y ys e. record { plan = Applying_all parts; young = h.young })
    on_plan p (Ending_all parts) = outcomes eq Leaves w n c plan.End (plan.Candidates parts ∷ [])
        (record { plan = Walking _ (Chooses parts); young = h.young })
    on_plan p (Idling rest t) = outcomes eq Leaves w n c plan.Idle rest
        (goes_known c rest h.young (Posted _ (Ended _ t)))

module _ {K V E : Type 0} (eq : K → K → Bool) where
  -- each live call is known
  abbrev pub AllKnown : State K V E → Type 0
  AllKnown s = (n : ℕ) (c : Call K V E) → s.calls n ≡ Some c → IsKnown c

  goes_on : (s : State K V E) (n : ℕ) (w : World K V E) (next : Next K V E) → AllKnown s → KnownIf next.left → AllKnown (state_after s n w next)
  goes_on s n w next all h m c live =
      put_cases s.calls n next.left m (Some c) (IsKnown c) live (λ here is. subst KnownIf is h) (λ there is. all m c is)

  known_step : (s t : State K V E) (n : ℕ) (turn : Turn K V E) → AllKnown s → Step eq s n turn t → AllKnown t
  known_step s t n turn all step =
      let h : IsKnown step.call = all n step.call step.live in
      step_cases eq (λ _ next. KnownIf next.left) (λ v _. AllKnown v) s t n turn step
      (on_plan eq s.world n step.call h step.call.plan h.plan) (λ w next. goes_on s n w next all)

  pub known_kept : IsInvariant eq AllKnown
  known_kept = record {
    fresh = λ division divides rules size built has_log n c live. absurd (none_some live);
    at = λ s moment all. all;
    start = λ s start all n c live.
        put_cases s.calls (s.world.desk.last + 1) (Some (fresh_call s.world.table.division.parts s.world.desk.rules start)) n (Some c) (IsKnown c) live
        (λ here is. subst KnownIf is (fresh_known s.world.table.division.parts s.world.desk.rules start)) (λ there is. all n c is);
    step = known_step;
    tell = λ s n answer asked all. all;
    hear = λ s n off running all. all;
    drop = λ s n c live between all m b lives.
        put_cases s.calls n None m (Some b) (IsKnown b) lives (λ here is. absurd (none_some is)) (λ there is. all m b is);
  }

  pub calls_known : (s : State K V E) → IsReached eq s → AllKnown s
  calls_known s h = in_reached eq AllKnown known_kept s h
