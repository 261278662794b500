-- What a plan says of its call: whether it owns a load, and which load it waits for.
use Rattle.std.proofs.Common.{◌≡◌, ◌≢◌, ℕ, false, cond, List, [], ◌∷◌, Option, Some, None, is_some, refl, sym, arith, map, ◌++◌, ap}
use Rattle.moka_hist.specs.State.{Call}
use Rattle.moka_hist.specs.Plan.{Item, Aim, plan_of}
use Rattle.moka_hist.specs.Plan as plan
use Rattle.moka_hist.specs.Next.{goes}
use Rattle.moka_hist.specs.Looking.{hits, misses, keeps, finds_pair}
use Rattle.moka_hist.specs.Loading.{after_read, after_told}
use Rattle.moka_hist.specs.declared.records.Stored.{Stored}
use Rattle.moka_hist.specs.declared.loads.Load.{Load}
use Rattle.moka_hist.specs.declared.loads.Sought.{Sought}
use Rattle.moka_hist.specs.declared.rules.Rules.{Rules}
use Rattle.moka_hist.specs.declared.events.Start.{Start}
use Rattle.moka_hist.specs.declared.events.Told.{Told}
use Rattle.moka_hist.specs.declared.events.Told.TheVariants as answer
use Rattle.moka_hist.specs.declared.visits.Settled.{Settled}
use Rattle.moka_hist.specs.declared.visits.Settled.TheVariants as settled
use Rattle.moka_hist.specs.declared.visits.Found.TheVariants as found
use Rattle.moka_laws.specs.Missing.{waits_for}
use Rattle.moka_laws.proofs.Counting.{none_some}
use Rattle.moka_laws.proofs.Rules.{abort_next, put_plans, loaded_plans, kept_next, chosen_next, IsFresh, Takes_out, Locks_and_takes_out, fresh_plan, told_op_next, Walks_over, Maintains}
use Rattle.moka_laws.proofs.Weights.{weigh}
use Rattle.moka_laws.proofs.Owning.{plan_left}
use Rattle.moka_laws.proofs.Outcomes.{computes_of}
use Rattle.moka_laws.proofs.Plans.{IsLook}
use Rattle.moka_hist.specs.declared.loads.Compute.{Compute}
use Rattle.moka_hist.specs.Computing.{after_told_op, after_read_key}
use Rattle.moka_laws.proofs.Walks.{IsWalk, Ends, Lists, Finds, Scans, weigh_walk, walk_is_walk, Chooses, Retires, Strikes}

module _ {K V E : Type 0} where
  -- an item that answers, or says itself how the call goes on, is the plan's last
  abbrev pub IsLast : List (Item K V E) → Type 0
  IsLast [] = Unit {0}
  IsLast (plan.Get aim key ∷ rest) = rest ≡ []
  IsLast (plan.Judge aim key stored ∷ rest) = rest ≡ []
  IsLast (plan.Own sought ∷ rest) = rest ≡ []
  IsLast (plan.Read sought ∷ rest) = rest ≡ []
  IsLast (plan.Ask load ∷ rest) = rest ≡ []
  IsLast (plan.Told load ∷ rest) = rest ≡ []
  IsLast (plan.Own_key compute ∷ rest) = rest ≡ []
  IsLast (plan.Own_alone key ∷ rest) = rest ≡ []
  IsLast (plan.Read_key compute ∷ rest) = rest ≡ []
  IsLast (plan.Ask_op compute pair ∷ rest) = rest ≡ []
  IsLast (plan.Told_op compute pair ∷ rest) = rest ≡ []
  IsLast (plan.Holds key stamp cause there stored ∷ rest) = rest ≡ []
  IsLast (plan.Moment (plan.To_take_out removal key) ∷ rest) = rest ≡ []
  IsLast (plan.Out removal key ∷ rest) = rest ≡ []
  IsLast (plan.Register test ∷ rest) = rest ≡ []
  IsLast (plan.Candidates parts ∷ rest) = rest ≡ []
  IsLast (plan.Retire ∷ rest) = rest ≡ []
  IsLast (plan.Reply answer ∷ rest) = rest ≡ []
  IsLast (_ ∷ rest) = IsLast rest

  -- the item is an owner's
  abbrev pub owners : Item K V E → ℕ
  owners (plan.Get (plan.To_own sought) key) = 1
  owners (plan.Judge (plan.To_own sought) key stored) = 1
  owners (plan.Ask load) = 1
  owners (plan.Told load) = 1
  owners (plan.Get (plan.To_compute compute) key) = 1
  owners (plan.Judge (plan.To_compute compute) key stored) = 1
  owners (plan.Ask_op compute pair) = 1
  owners (plan.Told_op compute pair) = 1
  owners (plan.Moment (plan.To_take_out (plan.To_remove_as_told own) key)) = 1
  owners (plan.Out (plan.To_remove_as_told own) key) = 1
  owners (plan.Settle with) = 1
  owners _ = 0

  -- the load whose owner the plan waits for
  abbrev pub awaited : List (Item K V E) → Option (Load K)
  awaited [] = None
  awaited (plan.Read sought ∷ rest) = Some sought.load
  awaited (plan.Read_key compute ∷ rest) = Some (computes_of compute.key)
  awaited (_ ∷ rest) = awaited rest

  -- the plan is that of a call that owns this load, if any, and waits for this owner, if any
  pub record Fits (owned : Option (Load K)) (joined : Option ℕ) (plan : List (Item K V E)) : Type 0 where
    pub last : IsLast plan
    pub owning : weigh owners plan ≡ cond (is_some owned) 1 0
    pub waiting : is_some joined ≡ is_some (awaited plan)

  module _ (o : Option (Load K)) (j : Option ℕ) where
    pub goes_fits : (c : Call K V E) (rest : List (Item K V E)) → Fits o j rest → Fits o j (plan_left (goes c rest).left)
    goes_fits c (plan.Reply a ∷ []) f = record { last = tt; owning = omega (arith, f.owning); waiting = f.waiting }
    goes_fits c _ f = f

    pub keeps_fits : (c : Call K V E) → ◌≡◌ {A = ℕ} (cond (is_some o) 1 0) 0 → is_some j ≡ false →
        Fits o j (plan_left (keeps c).left)
    keeps_fits c none idle = kept_next (λ v. Fits o j (plan_left v.left)) c
        (λ off. record { last = tt; owning = omega (arith, none); waiting = idle })
        (λ on. record { last = refl; owning = omega (arith, none); waiting = idle })

    pub misses_fits : (c : Call K V E) (aim : Aim K V) (key : K) → Fits o j (plan.Get aim key ∷ []) → Fits o j (plan_left (misses c aim).left)
    misses_fits c (plan.To_show form) key f = record { last = tt; owning = omega (arith, f.owning); waiting = f.waiting }
    misses_fits c (plan.To_insert there value) key f =
        put_plans (λ p. Fits o j (plan_left (goes c p).left)) c.rules there value _
        (record { last = refl; owning = f.owning; waiting = f.waiting })
        (record { last = refl; owning = f.owning; waiting = f.waiting })
    misses_fits c (plan.To_evict there stamp cause) key f = keeps_fits c (sym f.owning) f.waiting
    misses_fits c _ key f = record { last = refl; owning = f.owning; waiting = f.waiting }

    -- the record that was judged is not seen
    pub unseen_fits : (c : Call K V E) (aim : Aim K V) (key : K) (found : Stored V) →
        Fits o j (plan.Judge aim key found ∷ []) → Fits o j (plan_left (misses c aim).left)
    unseen_fits c (plan.To_show form) key found f =
        record { last = tt; owning = omega (arith, f.owning); waiting = f.waiting }
    unseen_fits c (plan.To_insert there value) key found f =
        put_plans (λ p. Fits o j (plan_left (goes c p).left)) c.rules there value _
        (record { last = refl; owning = f.owning; waiting = f.waiting })
        (record { last = refl; owning = f.owning; waiting = f.waiting })
    unseen_fits c (plan.To_evict there stamp cause) key found f =
        keeps_fits c (sym f.owning) f.waiting
    unseen_fits c _ key found f = record { last = refl; owning = f.owning; waiting = f.waiting }

    pub finds_fits : (c : Call K V E) (aim : Aim K V) (key k : K) (stored : Stored V) →
        Fits o j (plan.Get aim key ∷ []) → Fits o j (plan_left (finds_pair c aim k stored).left)
    finds_fits c (plan.To_evict there stamp cause) key k stored f =
        chosen_next (λ v. Fits o j (plan_left v.left)) c there stamp cause k stored
        (λ off. record { last = tt; owning = f.owning; waiting = f.waiting })
        (λ on. record { last = refl; owning = f.owning; waiting = f.waiting })
        (record { last = refl; owning = f.owning; waiting = f.waiting })
    finds_fits c _ key k stored f =
        record { last = refl; owning = f.owning; waiting = f.waiting }

    pub hits_fits : (c : Call K V E) (aim : Aim K V) (key : K) (stored : Stored V) (value : V) →
        Fits o j c.plan → Fits o j (plan.Judge aim key stored ∷ []) →
        Fits o j (plan_left (hits c aim key value).left)
    hits_fits c (plan.To_own sought) key stored value p f =
        record { last = refl; owning = omega (arith, f.owning); waiting = f.waiting }
    hits_fits c (plan.To_compute compute) key stored value p f =
        record { last = refl; owning = omega (arith, f.owning); waiting = f.waiting }
    hits_fits c (plan.To_evict there stamp cause) key stored value p f = p
    hits_fits c _ key stored value p f =
        record { last = tt; owning = omega (arith, f.owning); waiting = f.waiting }

    pub told_fits : (c : Call K V E) (load : Load K) (given : Told V E) → Fits o j c.plan → Fits o j (plan.Told load ∷ []) →
        Fits o j (plan_left (after_told c load (found.TakeTold (Some given))).left)
    told_fits c load (answer.Value value) p f =
        loaded_plans (λ p. Fits o j (plan_left (goes c p).left)) c.rules load value
        (record { last = refl; owning = omega (arith, f.owning); waiting = f.waiting })
        (record { last = refl; owning = omega (arith, f.owning); waiting = f.waiting })
        (record { last = refl; owning = omega (arith, f.owning); waiting = f.waiting })
    told_fits c load answer.Nothing p f =
        record { last = refl; owning = omega (arith, f.owning); waiting = f.waiting }
    told_fits c load (answer.Err error) p f =
        record { last = refl; owning = omega (arith, f.owning); waiting = f.waiting }
    told_fits c load _ p f = p

    pub told_op_fits : (c : Call K V E) (compute : Compute K) (pair : Option (K × V))
        (given : Told V E) → Fits o j c.plan → Fits o j (plan.Told_op compute pair ∷ []) →
        Fits o j (plan_left (after_told_op c compute pair (found.TakeTold (Some given))).left)
    told_op_fits c compute pair given p f =
        told_op_next (λ v. Fits o j (plan_left v.left)) c compute pair given
        (λ a. record { last = refl; owning = omega (arith, f.owning); waiting = f.waiting })
        (λ value able off. (record { last = refl; owning = omega (arith, f.owning); waiting = f.waiting }))
        (λ value able on. (record { last = refl; owning = omega (arith, f.owning); waiting = f.waiting }))
        (λ off. (record { last = refl; owning = omega (arith, f.owning); waiting = f.waiting }))
        (λ on. (record { last = refl; owning = omega (arith, f.owning); waiting = f.waiting }))
        (p)

  -- no load is awaited where the call has missed, hit or been told
  pub keeps_awaits : (c : Call K V E) → awaited (plan_left (keeps c).left) ≡ None
  keeps_awaits c = kept_next (λ v. awaited (plan_left v.left) ≡ None) c (λ off. refl) (λ on. refl)

  pub misses_awaits : (c : Call K V E) (aim : Aim K V) → awaited (plan_left (misses c aim).left) ≡ None
  misses_awaits c (plan.To_insert key value) =
      put_plans (λ p. awaited (plan_left (goes c p).left) ≡ None) c.rules key value _ refl refl
  misses_awaits c (plan.To_evict key stamp cause) = keeps_awaits c
  misses_awaits c _ = refl

  pub finds_awaits : (c : Call K V E) (aim : Aim K V) (k : K) (stored : Stored V) →
      awaited (plan_left (finds_pair c aim k stored).left) ≡ None
  finds_awaits c (plan.To_evict key stamp cause) k stored =
      chosen_next (λ v. awaited (plan_left v.left) ≡ None) c key stamp cause k stored (λ off. refl)
      (λ on. refl) refl
  finds_awaits c _ k stored = refl

  pub hits_awaits : (c : Call K V E) (aim : Aim K V) (there : K) (value : V) → IsLook aim →
      awaited (plan_left (hits c aim there value).left) ≡ None
  hits_awaits c (plan.To_evict key stamp cause) there value l = absurd l
  hits_awaits c _ there value l = refl

  pub goes_awaits : (c : Call K V E) (rest : List (Item K V E)) → awaited (plan_left (goes c rest).left) ≡ awaited rest
  goes_awaits c (plan.Reply a ∷ []) = refl
  goes_awaits c _ = refl

  -- what an item waits for, its plan does
  pub awaits_first : (item : Item K V E) (rest : List (Item K V E)) (load : Load K) →
      waits_for item ≡ Some load → awaited (item ∷ rest) ≡ Some load
  awaits_first (plan.Read sought) rest load e = e
  awaits_first (plan.Read_key compute) rest load e = e
  awaits_first _ rest load e = absurd (none_some e)

  -- a call that has read how its owner ended waits for nobody
  pub read_fits : (o : Option (Load K)) (j : Option ℕ) (c : Call K V E) (sought : Sought K) (with : Settled V E) →
      Some with ≢ Some settled.NotYet → Fits o j (plan.Read sought ∷ []) →
      Fits o None (plan_left (after_read c sought (found.ReadSettled with)).left)
  read_fits o j c sought settled.NotYet n f = absurd (n refl)
  read_fits o j c sought settled.Aborted n f =
      abort_next (λ v. Fits o None (plan_left v.left)) c sought (record { last = tt; owning = omega (arith, f.owning); waiting = refl })
      (record { last = refl; owning = f.owning; waiting = refl })
  read_fits o j c sought _ n f = record { last = tt; owning = omega (arith, f.owning); waiting = refl }

  pub read_key_fits : (o : Option (Load K)) (j : Option ℕ) (c : Call K V E) (compute : Compute K)
      (with : Settled V E) →
      Some with ≢ Some settled.NotYet → Fits o j (plan.Read_key compute ∷ []) →
      Fits o None (plan_left (after_read_key c compute (found.ReadSettled with)).left)
  read_key_fits o j c compute settled.NotYet n f = absurd (n refl)
  read_key_fits o j c compute _ n f =
      record { last = refl; owning = f.owning; waiting = refl }

  pub finds_last : (keys : List K) (rest : List (Item K V E)) → IsLast rest → IsLast (map plan.Find keys ++ rest)
  finds_last [] rest h = h
  finds_last (key ∷ keys) rest h = finds_last keys rest h

  pub finds_await : (keys : List K) (rest : List (Item K V E)) → awaited (map plan.Find keys ++ rest) ≡ awaited rest
  finds_await [] rest = refl
  finds_await (key ∷ keys) rest = finds_await keys rest

  pub walk_last : (p : List (Item K V E)) → IsWalk p → IsLast p
  walk_last p Ends = refl
  walk_last p Retires = refl
  walk_last p (Chooses parts) = refl
  walk_last p (Strikes there stored rest walk) = walk_last rest walk
  walk_last p (Lists part rest walk) = walk_last rest walk
  walk_last p (Finds key rest walk) = walk_last rest walk
  walk_last p (Scans there stored rest walk) = walk_last rest walk

  pub walk_awaits : (p : List (Item K V E)) → IsWalk p → awaited p ≡ None
  walk_awaits p Ends = refl
  walk_awaits p Retires = refl
  walk_awaits p (Chooses parts) = refl
  walk_awaits p (Strikes there stored rest walk) = walk_awaits rest walk
  walk_awaits p (Lists part rest walk) = walk_awaits rest walk
  walk_awaits p (Finds key rest walk) = walk_awaits rest walk
  walk_awaits p (Scans there stored rest walk) = walk_awaits rest walk

  fresh_form : (rules : Rules) (p : List (Item K V E)) → IsFresh rules p → Fits None None p
  fresh_form rules p (Takes_out (plan.To_remove_as_told own) key off named) = absurd named
  fresh_form rules p (Locks_and_takes_out (plan.To_remove_as_told own) key on named) = absurd named
  fresh_form rules p (Walks_over parts able) =
      record { last = walk_last p (walk_is_walk 0 parts); owning = weigh_walk owners (record { list = λ part. refl; find = λ key. refl; scan = λ there stored. refl; end = refl; choose = λ parts. refl; strike = λ there stored. refl; retire = refl }) p (walk_is_walk 0 parts); waiting = ap is_some (sym (walk_awaits p (walk_is_walk 0 parts))) }
  fresh_form rules p (Maintains parts able) = record { last = refl; owning = refl; waiting = refl }
  fresh_form rules p _ = record { last = refl; owning = refl; waiting = refl }

  pub fresh_fits : (parts : ℕ) (rules : Rules) (start : Start K V) → Fits None None (plan_of parts rules start)
  fresh_fits parts rules start = fresh_form rules (plan_of parts rules start) (fresh_plan parts rules start)
