-- What a call may write goes by what it was started with and told.
use Rattle.std.proofs.Common.{◌≡◌, ℕ, zero, suc, ◌+◌, Bool, true, false, List, [], ◌∷◌, ◌++◌, map, Option, Some, None, refl, ap}
use Rattle.moka_hist.specs.State.{World, Call}
use Rattle.moka_hist.specs.Plan.{Item, Aim, Removal, Shown, end_load, get_plan, insert_plan, is_disabled, iter_plan, lists_from, load_plan, loaded, look, or_insert_plan, pending_plan, plan_of, put, seek, take_out, told_on, under_lock}
use Rattle.moka_hist.specs.Plan as plan
use Rattle.moka_hist.specs.Next.{Next, goes}
use Rattle.moka_hist.specs.Looking.{finds_pair, hits, keeps, misses}
use Rattle.moka_hist.specs.Loading.{after_read, after_told}
use Rattle.moka_hist.specs.Computing.{after_read_key, after_told_op, end_compute, put_told}
use Rattle.moka_hist.specs.Maintenance.{carrying}
use Rattle.moka_hist.specs.Writing.{nothing_answer, removed_answer, said}
use Rattle.moka_hist.specs.Entries.{put_answer}
use Rattle.moka_hist.specs.declared.events.Told.{Told}
use Rattle.moka_hist.specs.declared.events.Told.TheVariants as told
use Rattle.moka_hist.specs.declared.events.Op.TheVariants as op
use Rattle.moka_hist.specs.declared.loads.Compute.{Compute}
use Rattle.moka_hist.specs.declared.loads.Load.{Load}
use Rattle.moka_hist.specs.declared.loads.Sought.{Sought}
use Rattle.moka_hist.specs.declared.records.Stored.{Stored}
use Rattle.moka_hist.specs.declared.replies.Answer.{Answer}
use Rattle.moka_hist.specs.declared.replies.Answer.TheVariants as answer
use Rattle.moka_hist.specs.declared.visits.Found.TheVariants as found
use Rattle.moka_hist.specs.declared.visits.Settled.{Settled}
use Rattle.moka_hist.specs.declared.visits.Settled.TheVariants as settled
use Rattle.moka_laws.specs.Given.{asked_key, value_in}
use Rattle.moka_laws.proofs.Outcomes.{Outcomes, outcomes, passes_by}
use Rattle.moka_laws.proofs.Rules.{abort_next, chosen_by, kept_next, loaded_plans, put_plans, read_key_next}
use Rattle.moka_laws.proofs.StepCases.{OnStep}

module _ {K V : Type 0} (Owns : K → V → Type 0) (For : K → Type 0) where
  -- what a look does in the end goes by what the call owns, or was started for
  abbrev pub AimOwned : Aim K V → Type 0
  AimOwned (plan.To_show form) = Unit {0}
  AimOwned (plan.To_load sought) = For sought.load.key
  AimOwned (plan.To_own sought) = For sought.load.key
  AimOwned (plan.To_insert key value) = Owns key value
  AimOwned (plan.To_compute compute) = For compute.key
  AimOwned (plan.To_evict key stamp cause) = Unit {0}

module _ {K V E : Type 0} (Owns : K → V → Type 0) (For : K → Type 0) where
  -- so each item
  abbrev pub ItemOwned : Item K V E → Type 0
  ItemOwned (plan.Get aim key) = AimOwned Owns For aim
  ItemOwned (plan.Judge aim key stored) = AimOwned Owns For aim
  ItemOwned (plan.Own sought) = For sought.load.key
  ItemOwned (plan.Read sought) = For sought.load.key
  ItemOwned (plan.Ask load) = For load.key
  ItemOwned (plan.Told load) = For load.key
  ItemOwned (plan.Own_key compute) = For compute.key
  ItemOwned (plan.Own_alone key) = For key
  ItemOwned (plan.Read_key compute) = For compute.key
  ItemOwned (plan.Ask_op compute pair) = For compute.key
  ItemOwned (plan.Told_op compute pair) = For compute.key
  ItemOwned (plan.Moment (plan.To_store key value)) = Owns key value
  ItemOwned (plan.Moment (plan.To_take_out removal key)) = Unit {0}
  ItemOwned (plan.Write key value moment) = Owns key value
  ItemOwned _ = Unit {0}

  abbrev pub PlanOwned : List (Item K V E) → Type 0
  PlanOwned [] = Unit {0}
  PlanOwned (item ∷ rest) = ItemOwned item × PlanOwned rest

  abbrev pub LeftOwned : Option (Call K V E) → Type 0
  LeftOwned None = Unit {0}
  LeftOwned (Some c) = PlanOwned c.plan

  abbrev pub NextOwned : Next K V E → Type 0
  NextOwned next = LeftOwned next.left

  goes_owned : (c : Call K V E) (rest : List (Item K V E)) → PlanOwned rest →
      NextOwned (goes c rest)
  goes_owned c (plan.Reply a ∷ []) h = tt
  goes_owned c _ h = h

  pub said_owned : (removal : Removal K) (a : Answer K V E) → PlanOwned (said removal a)
  said_owned plan.To_invalidate a = search
  said_owned plan.To_remove a = search
  said_owned (plan.To_evict_chosen stamp cause) a = search
  said_owned (plan.To_remove_as_told key) a = search

  finds_owned : (keys : List K) (rest : List (Item K V E)) → PlanOwned rest →
      PlanOwned (map plan.Find keys ++ rest)
  finds_owned [] rest h = h
  finds_owned (key ∷ keys) rest h = (tt, finds_owned keys rest h)

  pub lists_owned : (part left : ℕ) (rest : List (Item K V E)) → PlanOwned rest →
      PlanOwned (lists_from part left rest)
  lists_owned part zero rest h = h
  lists_owned part (suc left) rest h = (tt, lists_owned (part + 1) left rest h)

  module _ (c : Call K V E) where
    keeps_owned : NextOwned (keeps c)
    keeps_owned = kept_next NextOwned c (λ off. tt) (λ on. (tt, (tt, tt)))

    misses_owned : (aim : Aim K V) → AimOwned Owns For aim → NextOwned (misses c aim)
    misses_owned (plan.To_show form) h = tt
    misses_owned (plan.To_load sought) h = (h, tt)
    misses_owned (plan.To_own sought) h = (h, tt)
    misses_owned (plan.To_insert key value) h =
        put_plans (λ p. NextOwned (goes c p)) c.rules key value
        (plan.Reply (answer.Loaded value true) ∷ []) (tt, (h, (tt, tt))) (tt, (tt, (h, (tt, tt))))
    misses_owned (plan.To_compute compute) h = (h, tt)
    misses_owned (plan.To_evict key stamp cause) h = keeps_owned

    finds_pair_owned : (aim : Aim K V) (there : K) (stored : Stored V) → AimOwned Owns For aim →
        NextOwned (finds_pair c aim there stored)
    finds_pair_owned (plan.To_evict key stamp cause) there stored h =
        chosen_by NextOwned c key stamp cause there stored (λ other. keeps_owned)
        (λ same. (tt, tt))
    finds_pair_owned _ there stored h = (h, tt)

    hits_owned : (aim : Aim K V) (there : K) (value : V) → AimOwned Owns For aim → PlanOwned c.plan →
        NextOwned (hits c aim there value)
    hits_owned (plan.To_show form) there value h p = tt
    hits_owned (plan.To_load sought) there value h p = tt
    hits_owned (plan.To_own sought) there value h p = (tt, (tt, tt))
    hits_owned (plan.To_insert key unused) there value h p = tt
    hits_owned (plan.To_compute compute) there value h p = (h, tt)
    hits_owned (plan.To_evict key stamp cause) there value h p = p

    read_owned : (sought : Sought K) (with : Settled V E) → For sought.load.key →
        PlanOwned c.plan → NextOwned (after_read c sought (found.ReadSettled with))
    read_owned sought settled.NotYet h p = p
    read_owned sought settled.Aborted h p = abort_next NextOwned c sought tt (h, tt)
    read_owned sought _ h p = tt

    read_key_owned : (compute : Compute K) (with : Settled V E) → For compute.key →
        PlanOwned c.plan → NextOwned (after_read_key c compute (found.ReadSettled with))
    read_key_owned compute with h p = read_key_next NextOwned c compute with p (h, tt)

    told_owned : (load : Load K) (given : Told V E) →
        ((value : V) → value_in given ≡ Some value → Owns load.key value) → PlanOwned c.plan →
        NextOwned (after_told c load (found.TakeTold (Some given)))
    told_owned load (told.Value value) gave p =
        loaded_plans (λ rest. NextOwned (goes c rest)) c.rules load value (tt, (tt, tt))
        (tt, (gave value refl, (tt, (tt, tt)))) (tt, (tt, (gave value refl, (tt, (tt, tt)))))
    told_owned load told.Nothing gave p = (tt, (tt, tt))
    told_owned load (told.Err error) gave p = (tt, (tt, tt))
    told_owned load _ gave p = p

    puts_owned : (key : K) (pair : Option (K × V)) (value : V) → Owns key value → (b : Bool) →
        NextOwned (goes c (put_told b c key pair value))
    puts_owned key pair value h true = (tt, (tt, tt))
    puts_owned key pair value h false =
        put_plans (λ rest. NextOwned (goes c rest)) c.rules key value
        (end_compute (put_answer key pair value)) (tt, (h, (tt, (tt, tt))))
        (tt, (tt, (h, (tt, (tt, tt)))))

    pub out_owned : (removal : Removal K) (key : K) (b : Bool) →
        PlanOwned (under_lock b key (plan.Moment (plan.To_take_out removal key) ∷ []))
    out_owned removal key true = (tt, (tt, tt))
    out_owned removal key false = (tt, tt)

    told_op_owned : (compute : Compute K) (pair : Option (K × V)) (given : Told V E) →
        ((value : V) → value_in given ≡ Some value → Owns compute.key value) → PlanOwned c.plan →
        NextOwned (after_told_op c compute pair (found.TakeTold (Some given)))
    told_op_owned compute pair (told.Op op.Nop) gave p = (tt, (tt, tt))
    told_op_owned compute pair (told.Op (op.Put value)) gave p =
        puts_owned compute.key pair value (gave value refl) (is_disabled c.rules)
    told_op_owned compute pair (told.Value value) gave p =
        puts_owned compute.key pair value (gave value refl) (is_disabled c.rules)
    told_op_owned compute pair (told.Op op.Remove) gave p =
        (tt, out_owned (plan.To_remove_as_told compute.key) compute.key c.rules.listener)
    told_op_owned compute pair (told.Err error) gave p = (tt, (tt, tt))
    told_op_owned compute pair _ gave p = p

  module _ (eq : K → K → Bool) (w : World K V E) (n : ℕ) (c : Call K V E)
      (p : PlanOwned c.plan)
      (gave : (key : K) (given : Told V E) (value : V) → For key → asked_key c.plan ≡ Some key →
      w.desk.told n ≡ Some given → value_in given ≡ Some value → Owns key value) where
    abbrev pub After : World K V E → Next K V E → Type 0
    After new next = NextOwned next

    on_item : (item : Item K V E) (rest : List (Item K V E)) → c.plan ≡ item ∷ rest →
        PlanOwned (item ∷ rest) → Outcomes eq After w n c item rest
    on_item plan.Drain rest is f = (
      λ none. goes_owned c rest f.1,
      λ x xs some. (tt, f),
      λ x number xs some. (tt, (tt, f)),
    )
    on_item (plan.Notice key old cause upsert) rest is f =
        (λ off. goes_owned c rest f.1, λ on. (tt, f.1))
    on_item (plan.Post write) rest is f =
        (λ room. goes_owned c rest f.1, λ full. (tt, (tt, (tt, f))))
    on_item plan.Apply rest is f = (λ none. goes_owned c rest f.1, λ y ys some. f)
    on_item (plan.Get aim key) rest is f = (
      λ more. p,
      λ none. misses_owned c aim f.0,
      λ k stored some. finds_pair_owned c aim k stored f.0,
    )
    on_item (plan.Judge aim key stored) rest is f =
        (λ seen. hits_owned c aim key stored.value f.0 p, λ unseen. misses_owned c aim f.0)
    on_item (plan.Own sought) rest is f =
        (λ able none. (f.0, tt), λ disabled none. (f.0, tt), λ owner some. (f.0, tt))
    on_item (plan.Own_key compute) rest is f = (
      (λ able none. (tt, (f.0, tt)), λ disabled none. (tt, (f.0, tt))),
      λ owner some. (f.0, tt),
    )
    on_item (plan.Own_alone key) rest is f = (
      (λ able none. (tt, (f.0, tt)), λ disabled none. (tt, (f.0, tt))),
      λ owner some. (λ able. (tt, (tt, tt)), λ disabled. (tt, (tt, tt))),
    )
    on_item (plan.Read sought) rest is f =
        (λ none. p, λ with some. read_owned c sought with f.0 p)
    on_item (plan.Read_key compute) rest is f =
        (λ none. p, λ with some. read_key_owned c compute with f.0 p)
    on_item (plan.Settle with) rest is f = goes_owned c rest f.1
    on_item (plan.Ask load) rest is f = (f.0, tt)
    on_item (plan.Ask_op compute pair) rest is f = (f.0, tt)
    on_item (plan.Told load) rest is f = (
      λ none. p,
      λ given some. told_owned c load given
          (λ value has. gave load.key given value f.0 (ap asked_key is) some has) p,
    )
    on_item (plan.Told_op compute pair) rest is f = (
      λ none. p,
      λ given some. told_op_owned c compute pair given
          (λ value has. gave compute.key given value f.0 (ap asked_key is) some has) p,
    )
    on_item (plan.Holds key stamp cause there stored) rest is f =
        (λ holds. (tt, tt), λ not. keeps_owned c)
    on_item (plan.Moment (plan.To_store key value)) rest is f = f
    on_item (plan.Moment (plan.To_take_out removal key)) rest is f = f
    on_item (plan.Write key value moment) rest is f = (
      λ more. p,
      λ off old. (tt, f.1),
      λ on. (tt, (tt, f.1)),
      λ k old on some. (tt, (tt, (tt, f.1))),
    )
    on_item (plan.Out removal key) rest is f = (
      λ more. p,
      λ off none. (tt, said_owned removal (nothing_answer removal)),
      λ on none. (tt, said_owned removal (nothing_answer removal)),
      λ k old off some. (tt, said_owned removal (removed_answer removal old.value)),
      λ k old on some. (tt, (tt, (tt, said_owned removal (removed_answer removal old.value)))),
    )
    on_item (plan.Register test) rest is f = tt
    on_item (plan.List_keys part) rest is f =
        (λ more. p, λ listed keys begun gives. goes_owned c _ (finds_owned keys rest f.1))
    on_item (plan.Find key) rest is f = (
      λ more. p,
      λ none. goes_owned c rest f.1,
      λ k stored some none. (tt, f.1),
      λ k stored ids some is. (tt, f.1),
    )
    on_item (plan.Scan there stored) rest is f = (λ seen. f.1, λ unseen. goes_owned c rest f.1)
    on_item (plan.Candidates parts) rest is f = (
      λ none. tt,
      λ id more some. goes_owned (carrying c (id ∷ more)) _ (lists_owned 0 parts _ (tt, tt)),
    )
    on_item (plan.Strike there stored) rest is f = goes_owned (carrying c _) rest f.1
    on_item plan.Retire rest is f = tt
    on_item (plan.Reply a) rest is f = tt
    on_item item rest is f = passes_by eq After w n c item rest tt (λ d a. goes_owned c rest f.1) p

    pub on_plan : (now : List (Item K V E)) → c.plan ≡ now → PlanOwned now → OnStep eq After w n c now
    on_plan [] is f = p
    on_plan (item ∷ rest) is f = outcomes eq After w n c item rest (on_item item rest is f)
