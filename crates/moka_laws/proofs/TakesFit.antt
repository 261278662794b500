-- Loads' items are no compute's, computes ask as computes do, and what was told fits the ask.
use Rattle.std.proofs.Common.{◌≡◌, ℕ, ◌+◌, ◌==◌, Bool, true, false, cond, List, [], ◌∷◌, Option, Some, None, refl, sym, ap, ◌∙◌, subst, map, ◌++◌}
use Rattle.std.proofs.lemmas.Bool.{eqb-true, false≢true}
use Rattle.std.specs.Option.{option_map_or}
use Rattle.moka_hist.specs.Dropping.{dropped}
use Rattle.moka_hist.specs.Finite.{put_at}
use Rattle.moka_hist.specs.State.{State, World, Call}
use Rattle.moka_hist.specs.Plan.{Item, Aim, Removal, plan_of, lists_from}
use Rattle.moka_hist.specs.Plan as plan
use Rattle.moka_hist.specs.Next.{Next, goes}
use Rattle.moka_hist.specs.Looking.{hits, misses, keeps as stays, finds_pair}
use Rattle.moka_hist.specs.Loading.{after_read, after_told}
use Rattle.moka_hist.specs.Computing.{after_told_op}
use Rattle.moka_hist.specs.Step.{Step, takes_of, state_after}
use Rattle.moka_hist.specs.Telling.{does_take, is_taken, takes_nothing, takes_op}
use Rattle.moka_hist.specs.Run.{IsReached, fresh_call, started}
use Rattle.moka_hist.specs.Writing.{said}
use Rattle.moka_hist.specs.declared.events.Start.{Start}
use Rattle.moka_hist.specs.declared.events.Told.{Told}
use Rattle.moka_hist.specs.declared.events.Told.TheVariants as told
use Rattle.moka_hist.specs.declared.loads.Compute.{Compute}
use Rattle.moka_hist.specs.declared.loads.Kind.{Kind}
use Rattle.moka_hist.specs.declared.loads.Kind.TheVariants as kind
use Rattle.moka_hist.specs.declared.loads.Load.{Load}
use Rattle.moka_hist.specs.declared.loads.Sought.{Sought}
use Rattle.moka_hist.specs.declared.records.Stored.{Stored}
use Rattle.moka_hist.specs.declared.replies.Answer.{Answer}
use Rattle.moka_hist.specs.declared.rules.Rules.{Rules}
use Rattle.moka_hist.specs.declared.visits.Settled.{Settled}
use Rattle.moka_hist.specs.declared.visits.Settled.TheVariants as settled
use Rattle.moka_hist.specs.declared.visits.Takes.{Takes}
use Rattle.moka_hist.specs.declared.visits.Takes.TheVariants as takes
use Rattle.moka_hist.specs.declared.visits.Found.TheVariants as found
use Rattle.moka_hist.specs.declared.accesses.Turn.{Turn}
use Rattle.moka_hist.specs.declared.accesses.Turn.TheVariants as turn
use Rattle.moka_laws.proofs.Rules.{abort_next, put_plans, loaded_plans, kept_next, chosen_next, read_key_next, told_op_next_by, IsLost, IsLoad, IsComputes, IsFresh, Loads, Owns, Computes, Disabled, fresh_plan, Walks_over}
use Rattle.moka_laws.proofs.Counting.{some_same, none_some, put_cases, put_here, put_there}
use Rattle.moka_laws.proofs.Kept.{IsInvariant, in_reached}
use Rattle.moka_laws.proofs.Owning.{plan_left}
use Rattle.moka_laws.proofs.StepCases.{OnStep, step_cases}
use Rattle.moka_laws.proofs.Outcomes.{Outcomes, outcomes, passes_by}
use Rattle.moka_laws.proofs.Walks.{IsWalk, Ends, Lists, Finds, Scans, walk_is_walk, Chooses, Retires, Strikes, retiring_walk}
use Rattle.moka_hist.specs.Maintenance.{carrying}

-- an open ask takes this, and what was told to a closed one is what that takes
abbrev pub AskFits : Takes → Option Takes → Type 0
AskFits takes None = Unit {0}
AskFits takes (Some asked) = asked ≡ takes

abbrev pub ToldFits : {V E : Type 0} → Takes → Option (Told V E) → Type 0
ToldFits takes None = Unit {0}
ToldFits takes (Some given) = does_take takes given ≡ true

-- a load's ask takes no answer that tells what to do, and a compute's none that it loses
pub load_takes_no_op : (k : Kind) → IsLoad k → takes_op (takes_of k) ≡ true → ⊥
load_takes_no_op kind.Compute one e = one
load_takes_no_op _ one e = false≢true e

compute_takes_some : (takes : Takes) → IsComputes takes → takes_nothing takes ≡ true → ⊥
compute_takes_some takes.Optional one e = one
compute_takes_some takes.Try one e = one
compute_takes_some _ one e = false≢true e

pub compute_loses_none : {V E : Type 0} (takes : Takes) (given : Told V E) → IsComputes takes →
    does_take takes given ≡ true → IsLost given → ⊥
compute_loses_none takes told.Nothing one e lost = compute_takes_some takes one e
compute_loses_none takes told.Done one e lost = false≢true e
compute_loses_none takes told.Off one e lost = false≢true e
compute_loses_none takes _ one e lost = lost

-- what an open ask takes fits the item that takes it
taken_fits : {V E : Type 0} (asked : Option Takes) (takes : Takes) (tells : Told V E) →
    option_map_or (λ a. does_take a tells) asked false ≡ true → AskFits takes asked →
    does_take takes tells ≡ true
taken_fits None takes tells e f = absurd (false≢true e)
taken_fits (Some t) takes tells e f = subst (λ v. does_take v tells ≡ true) f e

module _ {K V E : Type 0} where
  -- the item is a load's or a compute's, as it says, and takes what was told to its ask
  abbrev pub ItemTakes : Option Takes → Option (Told V E) → Item K V E → Type 0
  ItemTakes asked given (plan.Get (plan.To_load sought) key) = IsLoad sought.load.kind
  ItemTakes asked given (plan.Get (plan.To_own sought) key) = IsLoad sought.load.kind
  ItemTakes asked given (plan.Get (plan.To_compute compute) key) = IsComputes compute.takes
  ItemTakes asked given (plan.Judge (plan.To_load sought) key stored) = IsLoad sought.load.kind
  ItemTakes asked given (plan.Judge (plan.To_own sought) key stored) = IsLoad sought.load.kind
  ItemTakes asked given (plan.Judge (plan.To_compute compute) key stored) =
      IsComputes compute.takes
  ItemTakes asked given (plan.Own sought) = IsLoad sought.load.kind
  ItemTakes asked given (plan.Read sought) = IsLoad sought.load.kind
  ItemTakes asked given (plan.Ask load) = IsLoad load.kind
  ItemTakes asked given (plan.Told load) =
      IsLoad load.kind × AskFits (takes_of load.kind) asked × ToldFits (takes_of load.kind) given
  ItemTakes asked given (plan.Own_key compute) = IsComputes compute.takes
  ItemTakes asked given (plan.Read_key compute) = IsComputes compute.takes
  ItemTakes asked given (plan.Ask_op compute pair) = IsComputes compute.takes
  ItemTakes asked given (plan.Told_op compute pair) =
      IsComputes compute.takes × AskFits compute.takes asked × ToldFits compute.takes given
  ItemTakes asked given _ = Unit {0}

  -- so does each item of a plan
  abbrev pub AllTake : Option Takes → Option (Told V E) → List (Item K V E) → Type 0
  AllTake asked given [] = Unit {0}
  AllTake asked given (item ∷ rest) = ItemTakes asked given item × AllTake asked given rest

  module _ (asked : Option Takes) (given : Option (Told V E)) where
    -- what is left of the plan where the call goes on with the rest
    goes_take : (c : Call K V E) (rest : List (Item K V E)) → AllTake asked given rest →
        AllTake asked given (plan_left (goes c rest).left)
    goes_take c (plan.Reply a ∷ []) q = tt
    goes_take c _ q = q

    keeps_take : (c : Call K V E) → AllTake asked given (plan_left (stays c).left)
    keeps_take c = kept_next (λ v. AllTake asked given (plan_left v.left)) c (λ off. tt)
        (λ on. (tt, (tt, tt)))

    misses_take : (c : Call K V E) (aim : Aim K V) (key : K) →
        ItemTakes asked given (plan.Get aim key) →
        AllTake asked given (plan_left (misses c aim).left)
    misses_take c (plan.To_show form) key f = tt
    misses_take c (plan.To_insert there value) key f =
        put_plans (λ p. AllTake asked given (plan_left (goes c p).left)) c.rules there value _
        (tt, (tt, (tt, tt))) (tt, (tt, (tt, (tt, tt))))
    misses_take c (plan.To_evict there stamp cause) key f = keeps_take c
    misses_take c _ key f = (f, tt)

    unseen_take : (c : Call K V E) (aim : Aim K V) (key : K) (stored : Stored V) →
        ItemTakes asked given (plan.Judge aim key stored) →
        AllTake asked given (plan_left (misses c aim).left)
    unseen_take c (plan.To_evict there stamp cause) key stored f = keeps_take c
    unseen_take c aim key stored f = misses_take c aim key f

    finds_take : (c : Call K V E) (aim : Aim K V) (key k : K) (stored : Stored V) →
        ItemTakes asked given (plan.Get aim key) →
        AllTake asked given (plan_left (finds_pair c aim k stored).left)
    finds_take c (plan.To_evict there stamp cause) key k stored f =
        chosen_next (λ v. AllTake asked given (plan_left v.left)) c there stamp cause k stored
        (λ off. tt) (λ on. (tt, (tt, tt))) (tt, tt)
    finds_take c _ key k stored f = (f, tt)

    hits_take : (c : Call K V E) (aim : Aim K V) (there : K) (value : V) (stored : Stored V) →
        AllTake asked given c.plan → ItemTakes asked given (plan.Judge aim there stored) →
        AllTake asked given (plan_left (hits c aim there value).left)
    hits_take c (plan.To_own sought) there value stored p f = (tt, (tt, tt))
    hits_take c (plan.To_compute compute) there value stored p f = (f, tt)
    hits_take c (plan.To_evict key stamp cause) there value stored p f = p
    hits_take c _ there value stored p f = tt

    read_take : (c : Call K V E) (sought : Sought K) (with : Settled V E) →
        AllTake asked given c.plan → IsLoad sought.load.kind →
        AllTake asked given (plan_left (after_read c sought (found.ReadSettled with)).left)
    read_take c sought settled.NotYet p one = p
    read_take c sought settled.Aborted p one =
        abort_next (λ v. AllTake asked given (plan_left v.left)) c sought tt (one, tt)
    read_take c sought _ p one = tt

    told_take : (c : Call K V E) (load : Load K) (tells : Told V E) → IsLoad load.kind →
        does_take (takes_of load.kind) tells ≡ true →
        AllTake asked given (plan_left (after_told c load (found.TakeTold (Some tells))).left)
    told_take c load (told.Value value) one e =
        loaded_plans (λ p. AllTake asked given (plan_left (goes c p).left)) c.rules load value
        (tt, (tt, tt)) (tt, (tt, (tt, (tt, tt)))) (tt, (tt, (tt, (tt, (tt, tt)))))
    told_take c load told.Done one e = absurd (false≢true e)
    told_take c load (told.Op op) one e = absurd (load_takes_no_op load.kind one e)
    told_take c load told.Off one e = absurd (false≢true e)
    told_take c load _ one e = (tt, (tt, tt))

    told_op_take : (c : Call K V E) (compute : Compute K) (pair : Option (K × V))
        (tells : Told V E) → IsComputes compute.takes → does_take compute.takes tells ≡ true →
        AllTake asked given
        (plan_left (after_told_op c compute pair (found.TakeTold (Some tells))).left)
    told_op_take c compute pair tells one e =
        told_op_next_by (λ v. AllTake asked given (plan_left v.left)) c compute pair tells
        (tt, (tt, tt))
        (λ error e. (tt, (tt, tt)))
        (λ value off. (tt, (tt, tt)))
        (λ value able off. (tt, (tt, (tt, (tt, tt)))))
        (λ value able on. (tt, (tt, (tt, (tt, (tt, tt))))))
        (λ off. (tt, (tt, tt)))
        (λ on. (tt, (tt, (tt, tt))))
        (λ lost. absurd (compute_loses_none compute.takes tells one e lost))

    said_take : (removal : Removal K) (a : Answer K V E) → AllTake asked given (said removal a)
    said_take (plan.To_remove_as_told key) a = (tt, (tt, tt))
    said_take _ a = (tt, tt)

    tells_take : (tells : Told V E) (p : List (Item K V E)) →
        option_map_or (λ a. does_take a tells) asked false ≡ true →
        AllTake asked given p → AllTake None (Some tells) p
    tells_take tells [] e q = tt
    tells_take tells (plan.Told load ∷ rest) e q =
        ((q.0.0, tt, taken_fits asked (takes_of load.kind) tells e q.0.1), tells_take tells rest e q.1)
    tells_take tells (plan.Told_op compute pair ∷ rest) e q =
        ((q.0.0, tt, taken_fits asked compute.takes tells e q.0.1), tells_take tells rest e q.1)
    tells_take tells (plan.Get aim key ∷ rest) e q =
        (q.0, tells_take tells rest e q.1)
    tells_take tells (plan.Judge aim key stored ∷ rest) e q =
        (q.0, tells_take tells rest e q.1)
    tells_take tells (plan.Own sought ∷ rest) e q = (q.0, tells_take tells rest e q.1)
    tells_take tells (plan.Read sought ∷ rest) e q = (q.0, tells_take tells rest e q.1)
    tells_take tells (plan.Ask load ∷ rest) e q = (q.0, tells_take tells rest e q.1)
    tells_take tells (plan.Own_key compute ∷ rest) e q = (q.0, tells_take tells rest e q.1)
    tells_take tells (plan.Read_key compute ∷ rest) e q = (q.0, tells_take tells rest e q.1)
    tells_take tells (plan.Ask_op compute pair ∷ rest) e q = (q.0, tells_take tells rest e q.1)
    tells_take tells (_ ∷ rest) e q = (tt, tells_take tells rest e q.1)

  keys_take : (asked : Option Takes) (given : Option (Told V E)) (keys : List K) (rest : List (Item K V E)) → AllTake asked given rest →
      AllTake asked given (map plan.Find keys ++ rest)
  keys_take asked given [] rest q = q
  keys_take asked given (key ∷ keys) rest q = (tt, keys_take asked given keys rest q)

  walk_take : (asked : Option Takes) (given : Option (Told V E)) (p : List (Item K V E)) → IsWalk p → AllTake asked given p
  walk_take asked given p Ends = (tt, tt)
  walk_take asked given p Retires = (tt, tt)
  walk_take asked given p (Chooses parts) = (tt, tt)
  walk_take asked given p (Strikes there stored rest walk) = (tt, walk_take asked given rest walk)
  walk_take asked given p (Lists part rest walk) = (tt, walk_take asked given rest walk)
  walk_take asked given p (Finds key rest walk) = (tt, walk_take asked given rest walk)
  walk_take asked given p (Scans there stored rest walk) = (tt, walk_take asked given rest walk)

  fresh_take : (asked : Option Takes) (given : Option (Told V E)) (rules : Rules)
      (p : List (Item K V E)) → IsFresh rules p → AllTake asked given p
  fresh_take asked given rules p (Disabled a d plain) = (tt, tt)
  fresh_take asked given rules p (Loads sought d one) = (tt, (one, tt))
  fresh_take asked given rules p (Owns sought d one) = (tt, (one, tt))
  fresh_take asked given rules p (Computes compute one) = (one, tt)
  fresh_take asked given rules p (Walks_over parts able) = walk_take asked given p (walk_is_walk 0 parts)
  fresh_take asked given rules p _ = search

  -- ---- a step

  -- what a step has to show
  record Leaves (w : World K V E) (n : ℕ) (new : World K V E) (next : Next K V E) : Type 0 where
    own : AllTake (new.desk.asks n) (new.desk.told n) (plan_left next.left)
    asks : (m : ℕ) → (n == m) ≡ false → new.desk.asks m ≡ w.desk.asks m
    told : (m : ℕ) → (n == m) ≡ false → new.desk.told m ≡ w.desk.told m

  module _ (eq : K → K → Bool) (w : World K V E) (n : ℕ) (c : Call K V E)
      (p : AllTake (w.desk.asks n) (w.desk.told n) c.plan) where
    -- what the call's plan takes by equal parts it takes
    by_parts : (a y : Option Takes) (t z : Option (Told V E)) (q : List (Item K V E)) → a ≡ y →
        t ≡ z → AllTake y z q → AllTake a t q
    by_parts a y t z q f g h =
        subst (λ v. AllTake v t q) (sym f) (subst (λ v. AllTake y v q) (sym g) h)

    -- the call goes on, and nothing of this has changed
    as_was : {new : World K V E} {next : Next K V E} → new.desk.asks ≡ w.desk.asks →
        new.desk.told ≡ w.desk.told →
        AllTake (w.desk.asks n) (w.desk.told n) (plan_left next.left) → Leaves w n new next
    as_was {next = next} a t q = record {
      own = by_parts _ _ _ _ (plan_left next.left) (ap (λ f. f n) a) (ap (λ f. f n) t) q;
      asks = λ m h. ap (λ f. f m) a;
      told = λ m h. ap (λ f. f m) t;
    }

    goes_on : {new : World K V E} (rest : List (Item K V E)) → new.desk.asks ≡ w.desk.asks →
        new.desk.told ≡ w.desk.told → AllTake (w.desk.asks n) (w.desk.told n) rest →
        Leaves w n new (goes c rest)
    goes_on rest a t q = as_was a t (goes_take _ _ c rest q)

    -- the call has opened its ask, or taken its answer
    asks_now : (asked : Option Takes) {new : World K V E} {next : Next K V E} →
        new.desk.asks n ≡ asked →
        ((m : ℕ) → (n == m) ≡ false → new.desk.asks m ≡ w.desk.asks m) →
        new.desk.told ≡ put_at w.desk.told n None →
        AllTake asked None (plan_left next.left) → Leaves w n new next
    asks_now asked {next = next} a others t q = record {
      own = by_parts _ _ _ _ (plan_left next.left) a
          (ap (λ f. f n) t ∙ put_here w.desk.told n None) q;
      asks = others;
      told = λ m h. ap (λ f. f m) t ∙ put_there w.desk.told n None m h;
    }

    on_item : (item : Item K V E) (rest : List (Item K V E)) →
        AllTake (w.desk.asks n) (w.desk.told n) (item ∷ rest) →
        Outcomes eq (Leaves w n) w n c item rest
    on_item plan.Drain rest q = (
      λ e. goes_on rest refl refl q.1,
      λ x xs e. as_was refl refl (tt, q),
      λ x number xs e. as_was refl refl (tt, (tt, q)),
    )
    on_item (plan.Notice key old cause upsert) rest q =
        (λ e. goes_on rest refl refl q.1, λ e. as_was refl refl (tt, q.1))
    on_item (plan.Post write) rest q =
        (λ e. goes_on rest refl refl q.1, λ e. as_was refl refl (tt, (tt, (tt, q))))
    on_item plan.Apply rest q = (λ e. goes_on rest refl refl q.1, λ x xs e. as_was refl refl q)
    on_item (plan.Get aim key) rest q = (
      (λ more. as_was refl refl p),
      (λ none. as_was refl refl (misses_take _ _ c aim key q.0)),
      λ k stored some. as_was refl refl (finds_take _ _ c aim key k stored q.0),
    )
    on_item (plan.Judge aim key stored) rest q = (
      (λ seen. as_was refl refl (hits_take _ _ c aim key stored.value stored p q.0)),
      λ unseen. as_was refl refl (unseen_take _ _ c aim key stored q.0),
    )
    on_item (plan.Own sought) rest q = (
      λ able none. as_was refl refl (q.0, tt),
      λ disabled none. as_was refl refl (q.0, tt),
      λ owner some. as_was refl refl (q.0, tt),
    )
    on_item (plan.Own_key compute) rest q = (
      (λ able none. as_was refl refl (tt, (q.0, tt)), λ not none. as_was refl refl (tt, (q.0, tt))),
      λ owner some. as_was refl refl (q.0, tt),
    )
    on_item (plan.Own_alone key) rest q = (
      (λ able none. as_was refl refl (tt, (tt, tt)), λ not none. as_was refl refl (tt, (tt, tt))),
      λ owner some. (
        λ able. as_was refl refl (tt, (tt, tt)),
        λ not. as_was refl refl (tt, (tt, tt)),
      ),
    )
    on_item (plan.Read sought) rest q = (
      λ none. as_was refl refl p,
      λ with some. as_was refl refl (read_take _ _ c sought with p q.0),
    )
    on_item (plan.Read_key compute) rest q = (
      λ none. as_was refl refl p,
      λ with some. as_was refl refl
          (read_key_next (λ v. AllTake (w.desk.asks n) (w.desk.told n) (plan_left v.left)) c compute
          with p (q.0, tt)),
    )
    on_item (plan.Ask load) rest q =
        asks_now (Some (takes_of load.kind)) (put_here w.desk.asks n _)
        (λ m h. put_there w.desk.asks n _ m h) refl ((q.0, refl, tt), tt)
    on_item (plan.Ask_op compute pair) rest q =
        asks_now (Some compute.takes) (put_here w.desk.asks n _)
        (λ m h. put_there w.desk.asks n _ m h) refl ((q.0, refl, tt), tt)
    on_item (plan.Told load) rest q = (
      λ none. as_was refl refl p,
      λ given some. asks_now (w.desk.asks n) refl (λ m h. refl) refl
          (told_take (w.desk.asks n) None c load given q.0.0
          (subst (ToldFits (takes_of load.kind)) some q.0.2)),
    )
    on_item (plan.Told_op compute pair) rest q = (
      λ none. as_was refl refl p,
      λ given some. asks_now (w.desk.asks n) refl (λ m h. refl) refl
          (told_op_take (w.desk.asks n) None c compute pair given q.0.0
          (subst (ToldFits compute.takes) some q.0.2)),
    )
    on_item (plan.Holds key stamp cause there stored) rest q =
        ((λ e. as_was refl refl (tt, tt)), λ e. as_was refl refl (keeps_take _ _ c))
    on_item (plan.Moment (plan.To_store key value)) rest q = as_was refl refl (tt, q.1)
    on_item (plan.Moment (plan.To_take_out removal key)) rest q = as_was refl refl (tt, q.1)
    on_item (plan.Write key value moment) rest q = (
      (λ more. as_was refl refl p),
      (λ off old. as_was refl refl (tt, q.1)),
      (λ on. as_was refl refl (tt, (tt, q.1))),
      λ k old on some. as_was refl refl (tt, (tt, (tt, q.1))),
    )
    on_item (plan.Out removal key) rest q = (
      (λ more. as_was refl refl p),
      (λ off none. as_was refl refl (tt, said_take _ _ removal _)),
      (λ on none. as_was refl refl (tt, said_take _ _ removal _)),
      (λ k old off some. as_was refl refl (tt, said_take _ _ removal _)),
      λ k old on some. as_was refl refl (tt, (tt, (tt, said_take _ _ removal _))),
    )
    on_item (plan.List_keys part) rest q = (
      (λ more. as_was refl refl p),
      λ listed keys e gives. goes_on (map plan.Find keys ++ rest) refl refl (keys_take _ _ keys rest q.1),
    )
    on_item (plan.Find key) rest q = (
      (λ more. as_was refl refl p),
      (λ none. goes_on rest refl refl q.1),
      (λ k stored some none. as_was refl refl (tt, q.1)),
      λ k stored ids some is. as_was refl refl (tt, q.1),
    )
    on_item (plan.Scan there stored) rest q =
        ((λ seen. as_was refl refl q.1), λ unseen. goes_on rest refl refl q.1)
    on_item (plan.Register test) rest q = as_was refl refl tt
    on_item (plan.Candidates parts) rest q = (
      (λ none. as_was refl refl tt),
      λ id more some. as_was refl refl
          (goes_take _ _ (carrying c (id ∷ more)) (lists_from 0 parts (plan.Retire ∷ [])) (walk_take _ _ _ (retiring_walk parts))),
    )
    on_item (plan.Strike there stored) rest q = as_was refl refl (goes_take _ _ (carrying c _) rest q.1)
    on_item plan.Retire rest q = as_was refl refl tt
    on_item (plan.Reply a) rest q = as_was refl refl tt
    on_item (plan.Settle with) rest q = goes_on rest refl refl q.1
    on_item item rest q = passes_by eq (Leaves w n) w n c item rest tt
        (λ d a. goes_on rest a.asks a.told q.1) (as_was refl refl p)

    on_plan : (q : List (Item K V E)) → c.plan ≡ q → OnStep eq (Leaves w n) w n c q
    on_plan [] e = as_was refl refl p
    on_plan (item ∷ rest) e = outcomes eq (Leaves w n) w n c item rest
        (on_item item rest (subst (AllTake (w.desk.asks n) (w.desk.told n)) e p))

-- ---- of a state

module _ {K V E : Type 0} where
  -- the plan of each live call is of loads and computes, and takes what was told to its ask
  pub record IsTaking (s : State K V E) : Type 0 where
    pub take : (n : ℕ) (c : Call K V E) → s.calls n ≡ Some c →
        AllTake (s.world.desk.asks n) (s.world.desk.told n) c.plan

  module _ (s : State K V E) (i : IsTaking s) where
    -- what a step of a call, or its end, has shown holds of the state that it leaves
    takes_on : (n : ℕ) (w : World K V E) (next : Next K V E) → Leaves s.world n w next →
        IsTaking (state_after s n w next)
    takes_on n w next l = record {
      take = λ m c live.
          put_cases s.calls n next.left m (Some c)
          (AllTake (w.desk.asks m) (w.desk.told m) c.plan) live
          (λ here is. subst (λ v. AllTake (w.desk.asks v) (w.desk.told v) c.plan) here
          (subst (λ v. AllTake (w.desk.asks n) (w.desk.told n) (plan_left v)) is l.own))
          (λ there is.
          subst (λ v. AllTake v (w.desk.told m) c.plan) (sym (l.asks m there))
          (subst (λ v. AllTake (s.world.desk.asks m) v c.plan) (sym (l.told m there))
          (i.take m c is)));
    }

module _ {K V E : Type 0} (eq : K → K → Bool) where
  taking_step : (s t : State K V E) (n : ℕ) (turn : Turn K V E) → IsTaking s → Step eq s n turn t →
      IsTaking t
  taking_step s t n turn i step =
      let c : Call K V E = step.call in
      step_cases eq (Leaves s.world n) (λ v _. IsTaking v) s t n turn step
      (on_plan eq s.world n c (i.take n c step.live) c.plan refl)
      (λ w next l. takes_on s i n w next l)

  taking_start : (s : State K V E) (start : Start K V) → IsTaking s → IsTaking (started s start)
  taking_start s start i = record {
    take = λ n c live.
        let new : ℕ = s.world.desk.last + 1 in
        put_cases s.calls new (Some (fresh_call s.world.table.division.parts s.world.desk.rules start)) n (Some c)
        (AllTake (s.world.desk.asks n) (s.world.desk.told n) c.plan) live
        (λ here is. subst
        (λ (d : Call K V E). AllTake (s.world.desk.asks n) (s.world.desk.told n) d.plan)
        (some_same is)
        (fresh_take _ _ s.world.desk.rules _ (fresh_plan s.world.table.division.parts s.world.desk.rules start)))
        (λ there is. i.take n c is);
  }

  pub taking_kept : IsInvariant eq (IsTaking {K = K} {V = V} {E = E})
  taking_kept = record {
    fresh = λ division divides rules size built has_log. record { take = λ n c live. absurd (none_some live) };
    at = λ s moment i. record { take = i.take };
    start = taking_start;
    step = taking_step;
    tell = λ s n given asked i. record {
      take = λ m c live. told_on s n given asked m c (i.take m c live) (n == m) refl;
    };
    hear = λ s n off running i. record { take = i.take };
    drop = λ s n c live between i. takes_on s i n (dropped s n c).world
        (record { left = None; turn = turn.Wait })
        (record {
          own = tt;
          asks = λ m h. put_there s.world.desk.asks n None m h;
          told = λ m h. put_there s.world.desk.told n None m h;
        });
  }
    where
      told_on : (s : State K V E) (n : ℕ) (given : Told V E) →
          is_taken s.world.desk n given ≡ true →
          (m : ℕ) (c : Call K V E) →
          AllTake (s.world.desk.asks m) (s.world.desk.told m) c.plan →
          (b : Bool) → (n == m) ≡ b →
          AllTake (cond b None (s.world.desk.asks m)) (cond b (Some given) (s.world.desk.told m))
          c.plan
      told_on s n given asked m c f false e = f
      told_on s n given asked m c f true e =
          tells_take _ _ given c.plan
          (subst (λ v. is_taken s.world.desk v given ≡ true) (eqb-true n m e) asked) f

  pub in_taking : (s : State K V E) → IsReached eq s → IsTaking s
  in_taking s h = in_reached eq IsTaking taking_kept s h
