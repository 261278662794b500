-- A call's plan is of the kind of the load that it owns, and it may end that as it will.
use Rattle.std.proofs.Common.{◌≡◌, ℕ, ◌+◌, ◌==◌, Bool, true, false, List, [], ◌∷◌, Option, Some, None, is_some, IsSomeAnd, refl, sym, ap, ◌∙◌, subst, arith, map, ◌++◌}
use Rattle.std.proofs.lemmas.Bool.{false≢true}
use Rattle.moka_hist.specs.Conditions.{may_end}
use Rattle.moka_hist.specs.Dropping.{dropped}
use Rattle.moka_hist.specs.Finite.{put_at}
use Rattle.moka_hist.specs.State.{State, World, Call, DeskPart}
use Rattle.moka_hist.specs.Plan.{Item, Aim, Removal, plan_of, lists_from}
use Rattle.moka_hist.specs.Writing.{said}
use Rattle.moka_hist.specs.Plan as plan
use Rattle.moka_hist.specs.Next.{Next, goes}
use Rattle.moka_hist.specs.Looking.{hits, misses, keeps as stays, finds_pair}
use Rattle.moka_hist.specs.Loading.{after_read, after_told}
use Rattle.moka_hist.specs.Step.{Step, takes_of, state_after}
use Rattle.moka_hist.specs.Telling.{does_take, takes_error, takes_nothing}
use Rattle.moka_hist.specs.Run.{IsReached, fresh_call, started}
use Rattle.moka_hist.specs.Visits.{is_seen}
use Rattle.moka_hist.specs.Step.{replace_of}
use Rattle.moka_hist.specs.declared.events.Start.{Start}
use Rattle.moka_hist.specs.declared.events.Told.{Told}
use Rattle.moka_hist.specs.declared.events.Told.TheVariants as told
use Rattle.moka_hist.specs.declared.loads.Kind.{Kind}
use Rattle.moka_hist.specs.declared.loads.Kind.TheVariants as kind
use Rattle.moka_hist.specs.declared.loads.Load.{Load}
use Rattle.moka_hist.specs.declared.loads.Sought.{Sought}
use Rattle.moka_hist.specs.declared.records.Stored.{Stored}
use Rattle.moka_hist.specs.declared.rules.Rules.{Rules}
use Rattle.moka_hist.specs.declared.visits.Settled.{Settled}
use Rattle.moka_hist.specs.declared.visits.Settled.TheVariants as settled
use Rattle.moka_hist.specs.declared.visits.Takes.{Takes}
use Rattle.moka_hist.specs.declared.visits.Found.TheVariants as found
use Rattle.moka_hist.specs.declared.accesses.Turn.{Turn}
use Rattle.moka_hist.specs.declared.accesses.Turn.TheVariants as turn
use Rattle.moka_laws.proofs.Rules.{abort_next, put_plans, loaded_plans, kept_next, chosen_next, IsFresh, Takes_out, Locks_and_takes_out, fresh_plan, read_key_next, told_op_next_by, IsLoad, IsComputes, Walks_over}
use Rattle.moka_laws.proofs.TakesFit.{ItemTakes, AllTake, ToldFits, IsTaking, taking_kept, load_takes_no_op, compute_loses_none}
use Rattle.moka_laws.proofs.Counting.{some_same, none_some, put_cases, put_here, put_there}
use Rattle.moka_laws.proofs.Weights.{weigh}
use Rattle.moka_laws.proofs.Kept.{IsInvariant, in_reached}
use Rattle.moka_laws.proofs.Owning.{plan_left}
use Rattle.moka_laws.proofs.Roles.{Fits, owners}
use Rattle.moka_laws.proofs.Serving.{at_most_one}
use Rattle.moka_laws.proofs.Served.{IsServed, served_kept}
use Rattle.moka_laws.proofs.StepCases.{OnStep, step_cases}
use Rattle.moka_laws.proofs.Outcomes.{Outcomes, outcomes, computes_of, passes_by}
use Rattle.moka_hist.specs.declared.loads.Compute.{Compute}
use Rattle.moka_hist.specs.Computing.{after_read_key, after_told_op}
use Rattle.moka_hist.specs.declared.replies.Answer.{Answer}
use Rattle.moka_laws.proofs.Walks.{weigh_walk, walk_is_walk, weigh_retiring}
use Rattle.moka_hist.specs.Maintenance.{carrying}

-- what is owned, if anything, is of this kind
abbrev pub OwnsKind : {K : Type 0} → Option (Load K) → Kind → Type 0
OwnsKind owned k = IsSomeAnd owned (λ load. load.kind ≡ k)

-- an owner of what is owned may end so
abbrev pub MayEndSo : {K V E : Type 0} → Option (Load K) → Settled V E → Type 0
MayEndSo owned with = IsSomeAnd owned (λ load. may_end load.kind with ≡ true)

-- an owner of a load may end with a value
value_ends : {V : Type 0} (E : Type 0) (k : Kind) (value : V) → IsLoad k →
    may_end {V = V} {E = E} k (settled.Ready value) ≡ true
value_ends E kind.GetWith value one = refl
value_ends E kind.Optional value one = refl
value_ends E kind.Try value one = refl
value_ends E kind.Compute value one = absurd one

-- what a kind's ask takes its owner may end with
nothing_ends : (V E : Type 0) (k : Kind) → takes_nothing (takes_of k) ≡ true →
    may_end {V = V} {E = E} k settled.Nothing ≡ true
nothing_ends V E kind.GetWith e = absurd (false≢true e)
nothing_ends V E kind.Optional e = refl
nothing_ends V E kind.Try e = absurd (false≢true e)
nothing_ends V E kind.Compute e = refl

error_ends : (V : Type 0) {E : Type 0} (k : Kind) (error : E) → takes_error (takes_of k) ≡ true →
    may_end {V = V} {E = E} k (settled.Err error) ≡ true
error_ends V kind.GetWith error e = absurd (false≢true e)
error_ends V kind.Optional error e = absurd (false≢true e)
error_ends V kind.Try error e = refl
error_ends V kind.Compute error e = absurd (false≢true e)

-- what holds of its kind holds of what is owned
pub ends_own : {K : Type 0} (P : Kind → Type 0) (owned : Option (Load K)) (k : Kind) →
    OwnsKind owned k → P k →
    IsSomeAnd owned (λ load. P load.kind)
ends_own P None k own p = absurd own
ends_own P (Some load) k own p = subst P (sym own) p

-- an owner of a load ends it with a value, and one of a compute with nothing
ends_value : {K V : Type 0} (E : Type 0) (owned : Option (Load K)) (k : Kind) (value : V) →
    OwnsKind owned k → IsLoad k → MayEndSo {E = E} owned (settled.Ready value)
ends_value {V = V} E owned k value own one =
    ends_own (λ k. may_end {V = V} {E = E} k (settled.Ready value) ≡ true) owned k own
    (value_ends E k value one)

ends_nothing : {K : Type 0} (V E : Type 0) (owned : Option (Load K)) → OwnsKind owned kind.Compute →
    MayEndSo {V = V} {E = E} owned settled.Nothing
ends_nothing V E owned own =
    ends_own (λ k. may_end {V = V} {E = E} k settled.Nothing ≡ true) owned kind.Compute own refl

module _ {K V E : Type 0} where
  -- the item fits what its call owns
  abbrev pub ItemFits : Option (Load K) → Item K V E → Type 0
  ItemFits owned (plan.Get (plan.To_own sought) key) = OwnsKind owned sought.load.kind
  ItemFits owned (plan.Judge (plan.To_own sought) key stored) =
      OwnsKind owned sought.load.kind
  ItemFits owned (plan.Ask load) = OwnsKind owned load.kind
  ItemFits owned (plan.Told load) = OwnsKind owned load.kind
  ItemFits owned (plan.Get (plan.To_compute compute) key) = OwnsKind owned kind.Compute
  ItemFits owned (plan.Judge (plan.To_compute compute) key stored) =
      OwnsKind owned kind.Compute
  ItemFits owned (plan.Ask_op compute pair) = OwnsKind owned kind.Compute
  ItemFits owned (plan.Told_op compute pair) = OwnsKind owned kind.Compute
  ItemFits owned (plan.Moment (plan.To_take_out (plan.To_remove_as_told own) key)) =
      OwnsKind owned kind.Compute
  ItemFits owned (plan.Out (plan.To_remove_as_told own) key) =
      OwnsKind owned kind.Compute
  ItemFits owned (plan.Settle with) = MayEndSo owned with
  ItemFits owned _ = Unit {0}

  -- so does each item of a plan
  abbrev pub AllFit : Option (Load K) → List (Item K V E) → Type 0
  AllFit owned [] = Unit {0}
  AllFit owned (item ∷ rest) =
      ItemFits owned item × AllFit owned rest

  module _ (owned : Option (Load K)) where
    -- a plan with no item of an owner fits
    none_fit : (p : List (Item K V E)) → weigh owners p ≡ 0 → AllFit owned p
    none_fit [] h = tt
    none_fit (plan.Get (plan.To_own sought) key ∷ rest) h = absurd (omega arith)
    none_fit (plan.Judge (plan.To_own sought) key stored ∷ rest) h = absurd (omega arith)
    none_fit (plan.Ask load ∷ rest) h = absurd (omega arith)
    none_fit (plan.Told load ∷ rest) h = absurd (omega arith)
    none_fit (plan.Settle with ∷ rest) h = absurd (omega arith)
    none_fit (plan.Get (plan.To_compute compute) key ∷ rest) h = absurd (omega arith)
    none_fit (plan.Judge (plan.To_compute compute) key stored ∷ rest) h = absurd (omega arith)
    none_fit (plan.Ask_op compute pair ∷ rest) h = absurd (omega arith)
    none_fit (plan.Told_op compute pair ∷ rest) h = absurd (omega arith)
    none_fit (plan.Moment (plan.To_take_out (plan.To_remove_as_told own) key) ∷ rest) h =
        absurd (omega arith)
    none_fit (plan.Out (plan.To_remove_as_told own) key ∷ rest) h = absurd (omega arith)
    none_fit (_ ∷ rest) h = (tt, none_fit rest (omega arith))

    -- what is left of the plan where the call goes on with the rest
    goes_fit : (c : Call K V E) (rest : List (Item K V E)) → AllFit owned rest →
        AllFit owned (plan_left (goes c rest).left)
    goes_fit c (plan.Reply a ∷ []) q = tt
    goes_fit c _ q = q

    keeps_fit : (c : Call K V E) → AllFit owned (plan_left (stays c).left)
    keeps_fit c = kept_next (λ v. AllFit owned (plan_left v.left)) c (λ off. tt)
        (λ on. (tt, (tt, tt)))

    misses_fit : (c : Call K V E) (aim : Aim K V) (key : K) → ItemFits owned (plan.Get aim key) →
        AllFit owned (plan_left (misses c aim).left)
    misses_fit c (plan.To_show form) key f = tt
    misses_fit c (plan.To_insert there value) key f =
        put_plans (λ p. AllFit owned (plan_left (goes c p).left)) c.rules there value _
        (tt, (tt, (tt, tt))) (tt, (tt, (tt, (tt, tt))))
    misses_fit c (plan.To_evict there stamp cause) key f = keeps_fit c
    misses_fit c _ key f = (f, tt)

    unseen_fit : (c : Call K V E) (d : DeskPart K V E) (aim : Aim K V) (key : K) (stored : Stored V) →
        is_seen d (replace_of aim) key stored ≡ false →
        ItemFits owned (plan.Judge aim key stored) →
        AllFit owned (plan_left (misses c aim).left)
    unseen_fit c d (plan.To_evict there stamp cause) key stored e f = keeps_fit c
    unseen_fit c d aim key stored e f = misses_fit c aim key f

    finds_fit : (c : Call K V E) (aim : Aim K V) (key k : K) (stored : Stored V) →
        ItemFits owned (plan.Get aim key) →
        AllFit owned (plan_left (finds_pair c aim k stored).left)
    finds_fit c (plan.To_evict there stamp cause) key k stored f =
        chosen_next (λ v. AllFit owned (plan_left v.left)) c there stamp cause k stored
        (λ off. tt) (λ on. (tt, (tt, tt))) (tt, tt)
    finds_fit c _ key k stored f = (f, tt)

    hits_fit : (asked : Option Takes) (given : Option (Told V E)) (c : Call K V E) (aim : Aim K V)
        (there : K) (value : V) (stored : Stored V) → AllFit owned c.plan →
        ItemFits owned (plan.Judge aim there stored) →
        ItemTakes asked given (plan.Judge aim there stored) →
        AllFit owned (plan_left (hits c aim there value).left)
    hits_fit asked given c (plan.To_own sought) there value stored p f one =
        (ends_value E owned sought.load.kind value f one, (tt, tt))
    hits_fit asked given c (plan.To_compute compute) there value stored p f one = (f, tt)
    hits_fit asked given c (plan.To_evict key stamp cause) there value stored p f one = p
    hits_fit asked given c _ there value stored p f one = tt

    read_fit : (c : Call K V E) (sought : Sought K) (with : Settled V E) → AllFit owned c.plan →
        AllFit owned (plan_left (after_read c sought (found.ReadSettled with)).left)
    read_fit c sought settled.NotYet p = p
    read_fit c sought settled.Aborted p = abort_next (λ v. AllFit owned (plan_left v.left)) c sought tt (tt, tt)
    read_fit c sought _ p = tt

    read_key_fit : (c : Call K V E) (compute : Compute K) (with : Settled V E) →
        AllFit owned c.plan →
        AllFit owned (plan_left (after_read_key c compute (found.ReadSettled with)).left)
    read_key_fit c compute with p =
        read_key_next (λ v. AllFit owned (plan_left v.left)) c compute with
        (p)
        ((tt, tt))

    -- an owner may end as it is told
    told_fit : (c : Call K V E) (load : Load K) (tells : Told V E) → OwnsKind owned load.kind →
        IsLoad load.kind → does_take (takes_of load.kind) tells ≡ true →
        AllFit owned (plan_left (after_told c load (found.TakeTold (Some tells))).left)
    told_fit c load (told.Value value) own one e =
        let ends = ends_value E owned load.kind value own one in
        loaded_plans (λ p. AllFit owned (plan_left (goes c p).left)) c.rules load value
        (ends, (tt, tt)) (tt, (tt, (ends, (tt, tt)))) (tt, (tt, (tt, (ends, (tt, tt)))))
    told_fit c load told.Nothing own one e = (
      ends_own (λ k. may_end {V = V} {E = E} k settled.Nothing ≡ true) owned load.kind own
          (nothing_ends V E load.kind e),
      (tt, tt),
    )
    told_fit c load (told.Err error) own one e = (
      ends_own (λ k. may_end {V = V} {E = E} k (settled.Err error) ≡ true) owned load.kind own
          (error_ends V load.kind error e),
      (tt, tt),
    )
    told_fit c load (told.Op op) own one e = absurd (load_takes_no_op load.kind one e)
    told_fit c load _ own one e = absurd (false≢true e)

    told_op_fit : (c : Call K V E) (compute : Compute K) (pair : Option (K × V))
        (tells : Told V E) →
        OwnsKind owned kind.Compute → IsComputes compute.takes →
        does_take compute.takes tells ≡ true →
        AllFit owned (plan_left (after_told_op c compute pair (found.TakeTold (Some tells))).left)
    told_op_fit c compute pair tells own one e =
        let ends = ends_nothing V E owned own in
        told_op_next_by (λ v. AllFit owned (plan_left v.left)) c compute pair tells
        (ends, (tt, tt))
        (λ error e. (ends, (tt, tt)))
        (λ value off. (ends, (tt, tt)))
        (λ value able off. (tt, (tt, (ends, (tt, tt)))))
        (λ value able on. (tt, (tt, (tt, (ends, (tt, tt))))))
        (λ off. (tt, (own, tt)))
        (λ on. (tt, (tt, (own, tt))))
        (λ lost. absurd (compute_loses_none compute.takes tells one e lost))

    -- a removal's owner is one as before, and ends what it owns as it answers
    removal_fits : (c : Call K V E) (removal : Removal K) (key : K) →
        ItemFits owned (plan.Moment (plan.To_take_out removal key)) →
        ItemFits owned (plan.Out removal key)
    removal_fits c (plan.To_remove_as_told own) key f = f
    removal_fits c _ key f = tt

    said_fits : (removal : Removal K) (key : K) (a : Answer K V E) →
        ItemFits owned (plan.Out removal key) → AllFit owned (said removal a)
    said_fits (plan.To_remove_as_told own) key a f = (ends_nothing V E owned f, (tt, tt))
    said_fits _ key a f = (tt, tt)

  keys_fit : (owned : Option (Load K)) (keys : List K) (rest : List (Item K V E)) → AllFit owned rest → AllFit owned (map plan.Find keys ++ rest)
  keys_fit owned [] rest q = q
  keys_fit owned (key ∷ keys) rest q = (tt, keys_fit owned keys rest q)

  fresh_free : (rules : Rules) (p : List (Item K V E)) → IsFresh rules p → weigh owners p ≡ 0
  fresh_free rules p (Takes_out (plan.To_remove_as_told own) key off named) = absurd named
  fresh_free rules p (Locks_and_takes_out (plan.To_remove_as_told own) key on named) = absurd named
  fresh_free rules p (Walks_over parts able) = weigh_walk owners (record { list = λ part. refl; find = λ key. refl; scan = λ there stored. refl; end = refl; choose = λ parts. refl; strike = λ there stored. refl; retire = refl }) p (walk_is_walk 0 parts)
  fresh_free rules p _ = refl

  -- ---- a step

  -- what a step has to show
  record Leaves (w : World K V E) (n : ℕ) (new : World K V E) (next : Next K V E) : Type 0 where
    own : AllFit (new.desk.owning n) (plan_left next.left)
    owning : (m : ℕ) → (n == m) ≡ false → new.desk.owning m ≡ w.desk.owning m

  module _ (eq : K → K → Bool) (w : World K V E) (n : ℕ) (c : Call K V E)
      (p : AllFit (w.desk.owning n) c.plan) where
    -- what the call's plan fits by an equal part it fits
    by_part : (o x : Option (Load K)) (q : List (Item K V E)) → o ≡ x → AllFit x q → AllFit o q
    by_part o x q e h = subst (λ v. AllFit v q) (sym e) h

    -- the call goes on, and nothing of this has changed
    as_was : {new : World K V E} {next : Next K V E} → new.desk.owning ≡ w.desk.owning →
        AllFit (w.desk.owning n) (plan_left next.left) → Leaves w n new next
    as_was {next = next} o q = record {
      own = by_part _ _ (plan_left next.left) (ap (λ f. f n) o) q;
      owning = λ m h. ap (λ f. f m) o;
    }

    goes_on : {new : World K V E} (rest : List (Item K V E)) → new.desk.owning ≡ w.desk.owning →
        AllFit (w.desk.owning n) rest → Leaves w n new (goes c rest)
    goes_on rest o q = as_was o (goes_fit _ c rest q)

    -- the call owns another load than before, or none any more
    owns_now : (owned : Option (Load K)) {new : World K V E} {next : Next K V E} →
        new.desk.owning ≡ put_at w.desk.owning n owned →
        AllFit owned (plan_left next.left) → Leaves w n new next
    owns_now owned {next = next} o q = record {
      own = by_part _ _ (plan_left next.left) (ap (λ f. f n) o ∙ put_here w.desk.owning n owned) q;
      owning = λ m h. ap (λ f. f m) o ∙ put_there w.desk.owning n owned m h;
    }

    on_item : (item : Item K V E) (rest : List (Item K V E)) →
        AllFit (w.desk.owning n) (item ∷ rest) →
        AllTake (w.desk.asks n) (w.desk.told n) (item ∷ rest) →
        Fits (w.desk.owning n) (w.desk.joined n) (item ∷ rest) → Outcomes eq (Leaves w n) w n c item rest
    on_item plan.Drain rest q t f = (
      λ e. goes_on rest refl q.1,
      λ x xs e. as_was refl (tt, q),
      λ x number xs e. as_was refl (tt, (tt, q)),
    )
    on_item (plan.Notice key old cause upsert) rest q t f =
        (λ e. goes_on rest refl q.1, λ e. as_was refl (tt, q.1))
    on_item (plan.Post write) rest q t f = (
      λ e. goes_on rest refl q.1,
      λ e. as_was refl (tt, (tt, (tt, q))),
    )
    on_item plan.Apply rest q t f =
        (λ e. goes_on rest refl q.1, λ x xs e. as_was refl q)
    on_item (plan.Get aim key) rest q t f = (
      (λ more. as_was refl p),
      (λ none. as_was refl (misses_fit _ c aim key q.0)),
      λ k stored some. as_was refl (finds_fit _ c aim key k stored q.0),
    )
    on_item (plan.Judge aim key stored) rest q t f = (
      (λ seen. as_was refl (hits_fit _ (w.desk.asks n)
          (w.desk.told n) c aim key stored.value stored p q.0 t.0)),
      λ unseen. as_was refl (unseen_fit _ c w.desk aim key stored unseen q.0),
    )
    on_item (plan.Own sought) rest q t f = (
      λ able none. owns_now (Some sought.load) refl (refl, tt),
      λ disabled none. owns_now (Some sought.load) refl (refl, tt),
      λ owner some. as_was refl (tt, tt),
    )
    on_item (plan.Own_key compute) rest q t f = (
      (
        (λ able none. owns_now (Some (computes_of compute.key)) refl (tt, (refl, tt))),
        λ not none. owns_now (Some (computes_of compute.key)) refl (tt, (refl, tt)),
      ),
      λ owner some. as_was refl (tt, tt),
    )
    on_item (plan.Own_alone key) rest q t f = (
      (
        (λ able none. owns_now (Some (computes_of key)) refl (tt, (refl, tt))),
        λ not none. owns_now (Some (computes_of key)) refl (tt, (refl, tt)),
      ),
      λ owner some. (λ able. as_was refl (tt, (tt, tt)), λ not. as_was refl (tt, (tt, tt))),
    )
    on_item (plan.Read sought) rest q t f = (
      λ none. as_was refl p,
      λ with some. as_was refl (read_fit _ c sought with p),
    )
    on_item (plan.Read_key compute) rest q t f = (
      λ none. as_was refl p,
      λ with some. as_was refl (read_key_fit _ c compute with p),
    )
    on_item (plan.Settle with) rest q t f =
        owns_now None refl
        (goes_fit None c rest
        (none_fit None rest (omega (arith, f.owning, at_most_one (is_some (w.desk.owning n))))))
    on_item (plan.Ask load) rest q t f = as_was refl (q.0, tt)
    on_item (plan.Ask_op compute pair) rest q t f = as_was refl (q.0, tt)
    on_item (plan.Told load) rest q t f = (
      λ none. as_was refl p,
      λ given some. as_was refl
          (told_fit (w.desk.owning n) c load given q.0 t.0.0
          (subst (ToldFits (takes_of load.kind)) some t.0.2)),
    )
    on_item (plan.Told_op compute pair) rest q t f = (
      λ none. as_was refl p,
      λ given some. as_was refl
          (told_op_fit (w.desk.owning n) c compute pair given q.0 t.0.0
          (subst (ToldFits compute.takes) some t.0.2)),
    )
    on_item (plan.Holds key stamp cause there stored) rest q t f =
        ((λ e. as_was refl (tt, tt)), λ e. as_was refl (keeps_fit _ c))
    on_item (plan.Moment (plan.To_store key value)) rest q t f = as_was refl (tt, q.1)
    on_item (plan.Moment (plan.To_take_out removal key)) rest q t f =
        as_was refl (removal_fits _ c removal key q.0, q.1)
    on_item (plan.Write key value moment) rest q t f = (
      (λ more. as_was refl p),
      (λ off old. as_was refl (tt, q.1)),
      (λ on. as_was refl (tt, (tt, q.1))),
      λ k old on some. as_was refl (tt, (tt, (tt, q.1))),
    )
    on_item (plan.Out removal key) rest q t f = (
      (λ more. as_was refl p),
      (λ off none. as_was refl (tt, said_fits _ removal key _ q.0)),
      (λ on none. as_was refl (tt, said_fits _ removal key _ q.0)),
      (λ k old off some. as_was refl (tt, said_fits _ removal key _ q.0)),
      λ k old on some. as_was refl (tt, (tt, (tt, said_fits _ removal key _ q.0))),
    )
    on_item (plan.List_keys part) rest q t f =
        ((λ more. as_was refl p), λ listed keys e gives. goes_on (map plan.Find keys ++ rest) refl (keys_fit _ keys rest q.1))
    on_item (plan.Find key) rest q t f =
        ((λ more. as_was refl p), (λ none. goes_on rest refl q.1), (λ k stored some none. as_was refl (tt, q.1)), λ k stored ids some is. as_was refl (tt, q.1))
    on_item (plan.Scan there stored) rest q t f = ((λ seen. as_was refl q.1), λ unseen. goes_on rest refl q.1)
    on_item (plan.Register test) rest q t f = as_was refl tt
    on_item (plan.Candidates parts) rest q t f = (
      (λ none. as_was refl tt),
      λ id more some. as_was refl (goes_fit _ (carrying c (id ∷ more)) (lists_from 0 parts (plan.Retire ∷ []))
          (none_fit _ (lists_from 0 parts (plan.Retire ∷ [])) (weigh_retiring owners (λ part. refl) refl parts))),
    )
    on_item (plan.Strike there stored) rest q t f = as_was refl (goes_fit _ (carrying c _) rest q.1)
    on_item plan.Retire rest q t f = as_was refl tt
    on_item (plan.Reply a) rest q t f = as_was refl tt
    on_item item rest q t f = passes_by eq (Leaves w n) w n c item rest tt
        (λ d a. goes_on rest a.owning q.1) (as_was refl p)

    on_plan : (q : List (Item K V E)) → c.plan ≡ q → AllTake (w.desk.asks n) (w.desk.told n) q →
        Fits (w.desk.owning n) (w.desk.joined n) q → OnStep eq (Leaves w n) w n c q
    on_plan [] e t f = as_was refl p
    on_plan (item ∷ rest) e t f = outcomes eq (Leaves w n) w n c item rest
        (on_item item rest (subst (AllFit (w.desk.owning n)) e p) t f)

-- ---- of a state

module _ {K V E : Type 0} (eq : K → K → Bool) where
  -- The plan of each live call fits what the desk knows of it.
  pub record IsFitting (s : State K V E) : Type 0 where
    pub served : IsServed eq s
    pub taking : IsTaking s
    pub fit : (n : ℕ) (c : Call K V E) → s.calls n ≡ Some c → AllFit (s.world.desk.owning n) c.plan

  module _ (s : State K V E) (i : IsFitting s) where
    -- what a step of a call, or its end, has shown holds of the state that it leaves
    fits_on : (n : ℕ) (w : World K V E) (next : Next K V E) → Leaves s.world n w next →
        IsServed eq (state_after s n w next) → IsTaking (state_after s n w next) →
        IsFitting (state_after s n w next)
    fits_on n w next l served taking = record {
      served = served;
      taking = taking;
      fit = λ m c live.
          put_cases s.calls n next.left m (Some c)
          (AllFit (w.desk.owning m) c.plan) live
          (λ here is. subst (λ v. AllFit (w.desk.owning v) c.plan) here
          (subst (λ v. AllFit (w.desk.owning n) (plan_left v)) is l.own))
          (λ there is. subst (λ v. AllFit v c.plan) (sym (l.owning m there)) (i.fit m c is));
    }

  fitting_step : (s t : State K V E) (n : ℕ) (turn : Turn K V E) → IsFitting s → Step eq s n turn t →
      IsFitting t
  fitting_step s t n turn i step =
      let c : Call K V E = step.call in
      let f : Fits (s.world.desk.owning n) (s.world.desk.joined n) c.plan = subst
      (λ v. Fits (s.world.desk.owning n) (s.world.desk.joined n) (plan_left v)) step.live
      (i.served.fits n) in
      step_cases eq (Leaves s.world n) (λ v _. IsServed eq v → IsTaking v →
      IsFitting v) s t n turn step
      (on_plan eq s.world n c (i.fit n c step.live) c.plan refl (i.taking.take n c step.live) f)
      (λ w next l. fits_on s i n w next l)
      ((served_kept eq).step s t n turn i.served step)
      ((taking_kept eq).step s t n turn i.taking step)

  fitting_start : (s : State K V E) (start : Start K V) → IsFitting s → IsFitting (started s start)
  fitting_start s start i = record {
    served = (served_kept eq).start s start i.served;
    taking = (taking_kept eq).start s start i.taking;
    fit = λ n c live.
        let new : ℕ = s.world.desk.last + 1 in
        put_cases s.calls new (Some (fresh_call s.world.table.division.parts s.world.desk.rules start)) n (Some c)
        (AllFit (s.world.desk.owning n) c.plan) live
        (λ here is. subst (λ (d : Call K V E). AllFit (s.world.desk.owning n) d.plan)
        (some_same is)
        (none_fit _ _ (fresh_free s.world.desk.rules _ (fresh_plan s.world.table.division.parts s.world.desk.rules start))))
        (λ there is. i.fit n c is);
  }

  pub fitting_kept : IsInvariant eq IsFitting
  fitting_kept = record {
    fresh = λ division divides rules size built has_log. record {
      served = (served_kept eq).fresh division divides rules size built has_log;
      taking = (taking_kept eq).fresh division divides rules size built has_log;
      fit = λ n c live. absurd (none_some live);
    };
    at = λ s moment i. record {
      served = (served_kept eq).at s moment i.served;
      taking = (taking_kept eq).at s moment i.taking;
      fit = i.fit;
    };
    start = fitting_start;
    step = fitting_step;
    tell = λ s n given asked i. record {
      served = (served_kept eq).tell s n given asked i.served;
      taking = (taking_kept eq).tell s n given asked i.taking;
      fit = i.fit;
    };
    hear = λ s n off running i. record {
      served = (served_kept eq).hear s n off running i.served;
      taking = (taking_kept eq).hear s n off running i.taking;
      fit = i.fit;
    };
    drop = λ s n c live between i. fits_on s i n (dropped s n c).world
        (record { left = None; turn = turn.Wait })
        (record { own = tt; owning = λ m h. put_there s.world.desk.owning n None m h })
        ((served_kept eq).drop s n c live between i.served)
        ((taking_kept eq).drop s n c live between i.taking);
  }

  pub in_fitting : (s : State K V E) → IsReached eq s → IsFitting s
  in_fitting s h = in_reached eq IsFitting fitting_kept s h
