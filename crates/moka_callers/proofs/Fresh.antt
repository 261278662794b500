-- A call that answers a value as its own has put it in.
use Rattle.std.proofs.Common.{◌≡◌, ◌⊎◌, inl, inr, ℕ, zero, suc, ◌+◌, Bool, true, false, List, [], ◌∷◌, ◌++◌, map, Option, Some, None, Result, Ok, Err, refl, sym, ap, ◌∙◌, subst}
use Rattle.std.proofs.lemmas.Bool.{false≢true}
use Rattle.moka_hist.specs.Finite.{put_key}
use Rattle.moka_hist.specs.State.{State, World, Call}
use Rattle.moka_hist.specs.Plan.{Item, Aim, Removal, Shown, get_plan, insert_plan, is_disabled, iter_plan, lists_from, load_plan, look, or_insert_plan, pending_plan, plan_of, seek, under_lock}
use Rattle.moka_hist.specs.Plan as plan
use Rattle.moka_hist.specs.Next.{Next, goes}
use Rattle.moka_hist.specs.Looking.{finds_pair, hits, keeps, misses, shown}
use Rattle.moka_hist.specs.Loading.{after_read, after_told}
use Rattle.moka_hist.specs.Computing.{after_told_op, end_compute}
use Rattle.moka_hist.specs.Entries.{put_answer, unchanged}
use Rattle.moka_hist.specs.Invalidating.{registering_answer}
use Rattle.moka_hist.specs.Maintenance.{carrying}
use Rattle.moka_hist.specs.Step.{Step}
use Rattle.moka_hist.specs.Run.{IsReached, fresh_call, started}
use Rattle.moka_hist.specs.Writing.{nothing_answer, removed_answer, said}
use Rattle.moka_hist.specs.declared.accesses.Turn.{Turn}
use Rattle.moka_hist.specs.declared.accesses.Turn.TheVariants as turn
use Rattle.moka_hist.specs.declared.events.Start.{Start}
use Rattle.moka_hist.specs.declared.events.Start.TheVariants as start
use Rattle.moka_hist.specs.declared.events.Told.{Told}
use Rattle.moka_hist.specs.declared.events.Told.TheVariants as told
use Rattle.moka_hist.specs.declared.loads.Compute.{Compute}
use Rattle.moka_hist.specs.declared.loads.Kind.TheVariants as kind
use Rattle.moka_hist.specs.declared.loads.Load.{Load}
use Rattle.moka_hist.specs.declared.loads.Sought.{Sought}
use Rattle.moka_hist.specs.declared.predicates.PredicateError.{PredicateError}
use Rattle.moka_hist.specs.declared.predicates.PredicateError.TheVariants as refused
use Rattle.moka_hist.specs.declared.records.Stored.{Stored}
use Rattle.moka_hist.specs.declared.replies.Answer.{Answer}
use Rattle.moka_hist.specs.declared.replies.Answer.TheVariants as answer
use Rattle.moka_hist.specs.declared.rules.Rules.{Rules}
use Rattle.moka_hist.specs.declared.visits.Found.TheVariants as found
use Rattle.moka_hist.specs.declared.visits.Settled.{Settled}
use Rattle.moka_hist.specs.declared.visits.Settled.TheVariants as settled
use Rattle.moka_laws.specs.Starting.{HasMade, Leads}
use Rattle.moka_laws.proofs.Alongside.{HoldsIf, holds_since}
use Rattle.moka_laws.proofs.Counting.{none_some, put_here, some_same}
use Rattle.moka_laws.proofs.Following.{made_on, no_leads, step_leads}
use Rattle.moka_laws.proofs.Outcomes.{Outcomes, alone_of, outcomes, passes_by}
use Rattle.moka_laws.proofs.Rules.{abort_next, chosen_by, kept_next, loaded_plans_by, put_plans, read_key_next, told_op_next_by}
use Rattle.moka_laws.proofs.Safe.{in_well}
use Rattle.moka_laws.proofs.Steady.{step_rules}
use Rattle.moka_laws.proofs.StepCases.{OnStep, step_cases}
use Rattle.moka_callers.specs.Contents.{HasValue}
use Rattle.moka_callers.specs.Inserting.{FreshIsPut, PutsHad, fresh_value, record_of}
use Rattle.moka_callers.proofs.Owning.{PlanOwned}
use Rattle.moka_callers.proofs.Values.{For, IsOwn, begins, own_on, own_step}

shown_none : {K V : Type 0} (E : Type 0) (form : Shown K) (pair : Option (K × V)) →
    fresh_value {K = K} {V = V} {E = E} (shown form pair) ≡ None
shown_none E plan.As_value pair = refl
shown_none E (plan.As_report key) None = refl
shown_none E (plan.As_report key) (Some pair) = refl

unchanged_none : {K V : Type 0} (E : Type 0) (key : K) (pair : Option (K × V)) →
    fresh_value {K = K} {V = V} {E = E} (unchanged key pair) ≡ None
unchanged_none E key None = refl
unchanged_none E key (Some pair) = refl

put_some : {K V : Type 0} (E : Type 0) (key : K) (pair : Option (K × V)) (value : V) →
    fresh_value {K = K} {V = V} {E = E} (put_answer key pair value) ≡ Some value
put_some E key None value = refl
put_some E key (Some pair) value = refl

registering_none : (K V E : Type 0) (registering : Result ℕ PredicateError) →
    fresh_value {K = K} {V = V} {E = E} (registering_answer registering) ≡ None
registering_none K V E (Ok id) = refl
registering_none K V E (Err refused.InvalidationClosuresDisabled) = refl
registering_none K V E (Err refused.NoId) = refl
registering_none K V E (Err refused.Memory) = refl

module _ {K V E : Type 0} where
  -- the value that the plan answers in the end as stored by its call, if it does
  abbrev says : List (Item K V E) → Option V
  says [] = None
  says (plan.Reply a ∷ rest) = fresh_value a
  says (item ∷ rest) = says rest

  -- the plan writes the value, before it answers
  abbrev Writes : V → List (Item K V E) → Type 0
  Writes value [] = ⊥
  Writes value (plan.Moment (plan.To_store key new) ∷ rest) = new ≡ value
  Writes value (plan.Write key new moment ∷ rest) = new ≡ value
  Writes value (plan.Reply a ∷ rest) = ⊥
  Writes value (item ∷ rest) = Writes value rest

  module _ (Made : V → Type 0) where
    -- what the plan answers in the end as stored it writes before, or it was put in
    abbrev IsDue : List (Item K V E) → Type 0
    IsDue p = (value : V) → says p ≡ Some value → Writes value p ⊎ Made value

    -- what an answer tells as stored was put in
    abbrev IsPut : Answer K V E → Type 0
    IsPut a = (value : V) → fresh_value a ≡ Some value → Made value

    none_put : (a : Answer K V E) → fresh_value a ≡ None → IsPut a
    none_put a none value is = absurd (none_some (sym none ∙ is))

    due_none : (p : List (Item K V E)) → says p ≡ None → IsDue p
    due_none p none value is = absurd (none_some (sym none ∙ is))

    -- the rest of a walk, and the lists that it makes
    finds_due : (keys : List K) (rest : List (Item K V E)) → IsDue rest →
        IsDue (map plan.Find keys ++ rest)
    finds_due [] rest h = h
    finds_due (key ∷ keys) rest h = finds_due keys rest h

    lists_due : (part left : ℕ) (rest : List (Item K V E)) → IsDue rest →
        IsDue (lists_from part left rest)
    lists_due part zero rest h = h
    lists_due part (suc left) rest h = lists_due (part + 1) left rest h

    said_due : (removal : Removal K) (a : Answer K V E) → fresh_value a ≡ None →
        IsDue (said removal a)
    said_due plan.To_invalidate a none = due_none (said plan.To_invalidate a) none
    said_due plan.To_remove a none = due_none (said plan.To_remove a) none
    said_due (plan.To_evict_chosen stamp cause) a none =
        due_none (said (plan.To_evict_chosen stamp cause) a) none
    said_due (plan.To_remove_as_told key) a none =
        due_none (said (plan.To_remove_as_told key) a) none

nothing_none : {K : Type 0} (V E : Type 0) (removal : Removal K) →
    fresh_value (nothing_answer {K = K} {V = V} {E = E} removal) ≡ None
nothing_none V E plan.To_invalidate = refl
nothing_none V E plan.To_remove = refl
nothing_none V E (plan.To_evict_chosen stamp cause) = refl
nothing_none V E (plan.To_remove_as_told key) = refl

removed_none : {K V : Type 0} (E : Type 0) (removal : Removal K) (value : V) →
    fresh_value (removed_answer {K = K} {V = V} {E = E} removal value) ≡ None
removed_none E plan.To_invalidate value = refl
removed_none E plan.To_remove value = refl
removed_none E (plan.To_evict_chosen stamp cause) value = refl
removed_none E (plan.To_remove_as_told key) value = refl

module _ {K V E : Type 0} (eq : K → K → Bool) (n : ℕ) (w : World K V E) (c : Call K V E)
    (Made : V → Type 0) where
  -- this step has put the value in
  abbrev PutNow : (K → Option (K × Stored V)) → V → Type 0
  PutNow new value =
      (key : K) × (moment : ℕ) × (rest : List (Item K V E)) ×
      (c.plan ≡ plan.Write key value moment ∷ rest) ×
      (new ≡ put_key eq w.table.stored key (Some (key, record_of n value moment)))

  abbrev MadeNow : (K → Option (K × Stored V)) → V → Type 0
  MadeNow new value = Made value ⊎ PutNow new value

  -- where the call is left, and what it answers
  abbrev LeftSo : (K → Option (K × Stored V)) → Option (Call K V E) → Type 0
  LeftSo new None = Unit {0}
  LeftSo new (Some d) = IsDue (MadeNow new) d.plan

  abbrev SaysSo : Turn K V E → Type 0
  SaysSo (turn.Answer a) = IsPut Made a
  SaysSo _ = Unit {0}

  abbrev After : World K V E → Next K V E → Type 0
  After new next = LeftSo new.table.stored next.left × SaysSo next.turn

  abbrev NextSo : (K → Option (K × Stored V)) → Next K V E → Type 0
  NextSo new next = LeftSo new next.left × SaysSo next.turn

  module _ (able : is_disabled c.rules ≡ false) (due : IsDue Made c.plan) where
    -- an answer that tells nothing as stored
    quiet : (a : Answer K V E) → fresh_value a ≡ None → IsPut Made a
    quiet a none = none_put Made a none

    -- what was put in stays so
    still : (new : K → Option (K × Stored V)) (p : List (Item K V E)) → IsDue Made p →
        IsDue (MadeNow new) p
    still new p h value is = by (h value is)
      where
        by : Writes value p ⊎ Made value → Writes value p ⊎ MadeNow new value
        by (inl writes) = inl writes
        by (inr made) = inr (inl made)

    goes_so : (new : K → Option (K × Stored V)) (d : Call K V E) (rest : List (Item K V E)) →
        IsDue Made rest → NextSo new (goes d rest)
    goes_so new d (plan.Reply a ∷ []) h = (tt, put)
      where
        put : IsPut Made a
        put value is = by (h value is)
          where
            by : ⊥ ⊎ Made value → Made value
            by (inl none) = absurd none
            by (inr made) = made
    goes_so new d [] h = (still new [] h, tt)
    goes_so new d (plan.Reply a ∷ x ∷ rest) h = (still new (plan.Reply a ∷ x ∷ rest) h, tt)
    goes_so new d (item ∷ rest) h = (still new (item ∷ rest) h, tt)

    stays_so : (new : K → Option (K × Stored V)) → LeftSo new (Some c) × Unit {0}
    stays_so new = (still new c.plan due, tt)

    none_so : (new : K → Option (K × Stored V)) (p : List (Item K V E)) → says p ≡ None →
        IsDue (MadeNow new) p
    none_so new p none = due_none (MadeNow new) p none

    module _ (new : K → Option (K × Stored V)) where
      keeps_so : NextSo new (keeps c)
      keeps_so = kept_next (NextSo new) c (λ off. (tt, quiet answer.Kept refl))
          (λ on. (none_so new (plan.Unlock false ∷ plan.Reply answer.Kept ∷ []) refl, tt))

      -- a plan that stores the value, and then answers it
      stores_so : (p : List (Item K V E)) (value : V) → says p ≡ Some value → Writes value p →
          IsDue (MadeNow new) p
      stores_so p value is writes other same =
          inl (subst (λ v. Writes v p) (some_same (sym is ∙ same)) writes)

      misses_so : (aim : Aim K V) → NextSo new (misses c aim)
      misses_so (plan.To_show form) = (tt, quiet (shown form None) (shown_none E form None))
      misses_so (plan.To_load sought) = (none_so new (plan.Own sought ∷ []) refl, tt)
      misses_so (plan.To_own sought) = (none_so new (plan.Ask sought.load ∷ []) refl, tt)
      misses_so (plan.To_insert key value) =
          put_plans (λ p. NextSo new (goes c p)) c.rules key value
          (plan.Reply (answer.Loaded value true) ∷ []) (
            stores_so (plan.Drain ∷ plan.Moment (plan.To_store key value) ∷
                plan.Reply (answer.Loaded value true) ∷ []) value refl refl,
            tt,
          ) (
            stores_so (plan.Drain ∷ plan.Lock key ∷ plan.Moment (plan.To_store key value) ∷
                plan.Reply (answer.Loaded value true) ∷ []) value refl refl,
            tt,
          )
      misses_so (plan.To_compute compute) = (none_so new (plan.Ask_op compute None ∷ []) refl, tt)
      misses_so (plan.To_evict key stamp cause) = keeps_so

      finds_so : (aim : Aim K V) (there : K) (stored : Stored V) →
          NextSo new (finds_pair c aim there stored)
      finds_so (plan.To_evict key stamp cause) there stored =
          chosen_by (NextSo new) c key stamp cause there stored (λ other. keeps_so)
          (λ same. (none_so new (plan.Holds key stamp cause there stored ∷ []) refl, tt))
      finds_so aim there stored = (none_so new (plan.Judge aim there stored ∷ []) refl, tt)

      hits_so : (aim : Aim K V) (there : K) (value : V) → NextSo new (hits c aim there value)
      hits_so (plan.To_show form) there value =
          (tt, quiet (shown form (Some (there, value))) (shown_none E form (Some (there, value))))
      hits_so (plan.To_load sought) there value =
          (tt, quiet (answer.Loaded value false) refl)
      hits_so (plan.To_own sought) there value = (
        none_so new (plan.Settle (settled.Ready value) ∷
            plan.Reply (answer.Loaded value false) ∷ []) refl,
        tt,
      )
      hits_so (plan.To_insert key unused) there value =
          (tt, quiet (answer.Loaded value false) refl)
      hits_so (plan.To_compute compute) there value =
          (none_so new (plan.Ask_op compute (Some (there, value)) ∷ []) refl, tt)
      hits_so (plan.To_evict key stamp cause) there value = stays_so new

      read_so : (sought : Sought K) (with : Settled V E) →
          NextSo new (after_read c sought (found.ReadSettled with))
      read_so sought settled.NotYet = stays_so new
      read_so sought (settled.Ready value) = (tt, quiet (answer.Loaded value false) refl)
      read_so sought (settled.Err error) = (tt, quiet (answer.InitErr error) refl)
      read_so sought settled.Nothing = (tt, quiet answer.Nothing refl)
      read_so sought settled.Aborted = abort_next (NextSo new) c sought
          (tt, quiet answer.RetriesExhausted refl)
          (none_so new (plan.Own sought ∷ []) refl, tt)

      told_so : (load : Load K) (given : Told V E) →
          NextSo new (after_told c load (found.TakeTold (Some given)))
      told_so load (told.Value value) =
          loaded_plans_by (λ p. NextSo new (goes c p)) c.rules load value
          (λ disabled. absurd (false≢true (sym able ∙ disabled)))
          (λ e off. (
            stores_so (plan.Drain ∷ plan.Moment (plan.To_store load.key value) ∷
                plan.Settle (settled.Ready value) ∷ plan.Reply (answer.Loaded value true) ∷ [])
                value refl refl,
            tt,
          ))
          (λ e on. (
            stores_so (plan.Drain ∷ plan.Lock load.key ∷
                plan.Moment (plan.To_store load.key value) ∷
                plan.Settle (settled.Ready value) ∷ plan.Reply (answer.Loaded value true) ∷ [])
                value refl refl,
            tt,
          ))
      told_so load told.Nothing =
          (none_so new (plan.Settle settled.Nothing ∷ plan.Reply answer.Nothing ∷ []) refl, tt)
      told_so load (told.Err error) = (
        none_so new (plan.Settle (settled.Err error) ∷ plan.Reply (answer.InitErr error) ∷ []) refl,
        tt,
      )
      told_so load _ = stays_so new

      ends_so : (a : Answer K V E) → fresh_value a ≡ None → NextSo new (goes c (end_compute a))
      ends_so a none = (none_so new (end_compute a) none, tt)

      told_op_so : (compute : Compute K) (pair : Option (K × V)) (given : Told V E) →
          NextSo new (after_told_op c compute pair (found.TakeTold (Some given)))
      told_op_so compute pair given =
          told_op_next_by (NextSo new) c compute pair given
          (ends_so (unchanged compute.key pair) (unchanged_none E compute.key pair))
          (λ error same. ends_so (answer.ComputeErr error) refl)
          (λ value disabled. absurd (false≢true (sym able ∙ disabled)))
          (λ value yes off. (
            stores_so (plan.Drain ∷ plan.Moment (plan.To_store compute.key value) ∷
                end_compute (put_answer compute.key pair value)) value (put_some E compute.key pair value)
                refl,
            tt,
          ))
          (λ value yes on. (
            stores_so (plan.Drain ∷ plan.Lock compute.key ∷
                plan.Moment (plan.To_store compute.key value) ∷
                end_compute (put_answer compute.key pair value)) value (put_some E compute.key pair value)
                refl,
            tt,
          ))
          (λ off. (
            none_so new (plan.Drain ∷ plan.Moment (plan.To_take_out
                (plan.To_remove_as_told compute.key) compute.key) ∷ []) refl,
            tt,
          ))
          (λ on. (
            none_so new (plan.Drain ∷ plan.Lock compute.key ∷ plan.Moment (plan.To_take_out
                (plan.To_remove_as_told compute.key) compute.key) ∷ []) refl,
            tt,
          ))
          (λ lost. stays_so new)

    on_item : (item : Item K V E) (rest : List (Item K V E)) → c.plan ≡ item ∷ rest →
        IsDue Made (item ∷ rest) → Outcomes eq After w n c item rest
    on_item plan.Drain rest is h = (
      λ none. goes_so _ c rest h,
      λ x xs some. goes_so _ c (plan.Post x ∷ plan.Drain ∷ rest) h,
      λ x number xs some. goes_so _ c (plan.Ended number ∷ plan.Post x ∷ plan.Drain ∷ rest) h,
    )
    on_item (plan.Notice key old cause upsert) rest is h =
        (λ off. goes_so _ c rest h, λ on. (still _ (plan.Heard ∷ rest) h, tt))
    on_item (plan.Post write) rest is h = (
      λ room. goes_so _ c rest h,
      λ full. goes_so _ c (plan.Turn ∷ plan.Apply ∷ plan.End ∷ plan.Post write ∷ rest) h,
    )
    on_item plan.Apply rest is h =
        (λ none. goes_so _ c rest h, λ y ys some. goes_so _ c (plan.Apply ∷ rest) h)
    on_item (plan.Get aim key) rest is h = (
      λ more. stays_so _,
      λ none. misses_so _ aim,
      λ there stored some. finds_so _ aim there stored,
    )
    on_item (plan.Judge aim key stored) rest is h =
        (λ seen. hits_so _ aim key stored.value, λ unseen. misses_so _ aim)
    on_item (plan.Own sought) rest is h = (
      λ yes none. goes_so _ c (look (plan.To_own sought) sought.load.key) (λ v e. absurd (none_some e)),
      λ disabled none. goes_so _ c (plan.Ask sought.load ∷ []) (λ v e. absurd (none_some e)),
      λ owner some. goes_so _ c (plan.Read sought ∷ []) (λ v e. absurd (none_some e)),
    )
    on_item (plan.Own_key compute) rest is h = (
      (
        λ yes none. goes_so _ c (plan.Drain ∷ plan.Get (plan.To_compute compute) compute.key ∷ [])
            (λ v e. absurd (none_some e)),
        λ disabled none. goes_so _ c (plan.Drain ∷ plan.Ask_op compute None ∷ [])
            (λ v e. absurd (none_some e)),
      ),
      λ owner some. goes_so _ c (plan.Read_key compute ∷ []) (λ v e. absurd (none_some e)),
    )
    on_item (plan.Own_alone key) rest is h = (
      (
        λ yes none. (none_so _ (plan.Drain ∷ plan.Get (plan.To_compute (alone_of key)) key ∷ []) refl, tt),
        λ disabled none. (none_so _ (plan.Drain ∷ plan.Ask_op (alone_of key) None ∷ []) refl, tt),
      ),
      λ owner some. (
        λ yes. goes_so _ c
            (plan.Drain ∷ plan.Get (plan.To_show (plan.As_report key)) key ∷ []) (λ v e. absurd (none_some e)),
        λ disabled. goes_so _ c (plan.Drain ∷ plan.Reply (unchanged key None) ∷ [])
            (λ v e. absurd (none_some e)),
      ),
    )
    on_item (plan.Read sought) rest is h = (λ none. stays_so _, λ with some. read_so _ sought with)
    on_item (plan.Read_key compute) rest is h = (
      λ none. stays_so _,
      λ with some. read_key_next (NextSo _) c compute with (stays_so _)
          (none_so _ (plan.Own_key compute ∷ []) refl, tt),
    )
    on_item (plan.Settle with) rest is h = goes_so _ c rest h
    on_item (plan.Ask load) rest is h = (none_so _ (plan.Told load ∷ []) refl, tt)
    on_item (plan.Ask_op compute pair) rest is h = (none_so _ (plan.Told_op compute pair ∷ []) refl, tt)
    on_item (plan.Told load) rest is h = (λ none. stays_so _, λ given some. told_so _ load given)
    on_item (plan.Told_op compute pair) rest is h =
        (λ none. stays_so _, λ given some. told_op_so _ compute pair given)
    on_item (plan.Holds key stamp cause there stored) rest is h = (
      λ holds. goes_so _ c
          (plan.Moment (plan.To_take_out (plan.To_evict_chosen stamp cause) key) ∷ [])
          (λ v e. absurd (none_some e)),
      λ other. keeps_so _,
    )
    on_item (plan.Moment (plan.To_store key value)) rest is h =
        (still _ (plan.Write key value w.desk.clock ∷ rest) h, tt)
    on_item (plan.Moment (plan.To_take_out removal key)) rest is h =
        (still _ (plan.Out removal key ∷ rest) h, tt)
    on_item (plan.Write key value moment) rest is h = (
      λ more. stays_so _,
      λ off old. (written rest, tt),
      λ on. (written rest, tt),
      λ k old on some. (written rest, tt),
    )
      where
        stored : K → Option (K × Stored V)
        stored = put_key eq w.table.stored key
            (Some (key, record { value = value; stamp = n; modified = moment }))

        now : PutNow (put_key eq w.table.stored key
            (Some (key, record { value = value; stamp = n; modified = moment }))) value
        now = (key, moment, rest, is, refl)

        written : (p : List (Item K V E)) (v : V) → says rest ≡ Some v →
            Writes v p ⊎ MadeNow (put_key eq w.table.stored key
            (Some (key, record { value = value; stamp = n; modified = moment }))) v
        written p v same = by (h v same)
          where
            by : (value ≡ v) ⊎ Made v →
                Writes v p ⊎ MadeNow (put_key eq w.table.stored key
                (Some (key, record { value = value; stamp = n; modified = moment }))) v
            by (inl alike) = inr (inr (subst (PutNow (put_key eq w.table.stored key
                (Some (key, record { value = value; stamp = n; modified = moment })))) alike now))
            by (inr made) = inr (inl made)
    on_item (plan.Out removal key) rest is h = (
      λ more. stays_so _,
      λ off none. (said_due (MadeNow _) removal (nothing_answer removal) (nothing_none V E removal), tt),
      λ on none. (said_due (MadeNow _) removal (nothing_answer removal) (nothing_none V E removal), tt),
      λ k old off some. (
        said_due (MadeNow _) removal (removed_answer removal old.value)
            (removed_none E removal old.value),
        tt,
      ),
      λ k old on some. (
        said_due (MadeNow _) removal (removed_answer removal old.value)
            (removed_none E removal old.value),
        tt,
      ),
    )
    on_item (plan.Register test) rest is h = (tt, quiet _ (registering_none K V E _))
    on_item (plan.List_keys part) rest is h = (
      λ more. stays_so _,
      λ listed keys begun gives. goes_so _ c (map plan.Find keys ++ rest)
          (finds_due Made keys rest h),
    )
    on_item (plan.Find key) rest is h = (
      λ more. stays_so _,
      λ none. goes_so _ c rest h,
      λ k stored some none. goes_so _ c (plan.Scan k stored ∷ rest) h,
      λ k stored ids some carried. goes_so _ c (plan.Strike k stored ∷ rest) h,
    )
    on_item (plan.Scan there stored) rest is h =
        (λ seen. (still _ rest h, tt), λ unseen. goes_so _ c rest h)
    on_item (plan.Candidates parts) rest is h = (
      λ none. (tt, quiet answer.Done refl),
      λ id more some. goes_so _ (carrying c (id ∷ more)) (lists_from 0 parts (plan.Retire ∷ []))
          (lists_due Made 0 parts (plan.Retire ∷ []) (λ v e. absurd (none_some e))),
    )
    on_item (plan.Strike there stored) rest is h = goes_so _ (carrying c _) rest h
    on_item plan.Retire rest is h = (tt, quiet answer.Done refl)
    on_item (plan.Reply a) rest is h = (tt, put)
      where
        put : IsPut Made a
        put value same = by (h value same)
          where
            by : ⊥ ⊎ Made value → Made value
            by (inl none) = absurd none
            by (inr made) = made
    on_item item rest is h =
        passes_by eq After w n c item rest tt (λ d a. goes_so _ c rest h) (stays_so _)

    pub on_plan : (p : List (Item K V E)) → c.plan ≡ p → OnStep eq After w n c p
    on_plan [] is = stays_so _
    on_plan (item ∷ rest) is =
        outcomes eq After w n c item rest (on_item item rest is (subst (IsDue Made) is due))

module _ {K V E : Type 0} (eq : K → K → Bool) (begin : Start K V) (n : ℕ) where
  -- the call has put the value in
  abbrev HasPut : State K V E → V → Type 0
  HasPut s value = HasMade eq s n (PutsHad eq begin n value)

  -- where the call stands, unless the cache is disabled
  abbrev IsAt : State K V E → Call K V E → Type 0
  IsAt s c = is_disabled s.world.desk.rules ≡ false → IsDue (HasPut s) c.plan

  due_on : (s v : State K V E) → Leads eq s v → (p : List (Item K V E)) → IsDue (HasPut s) p →
      IsDue (HasPut v) p
  due_on s v led p h value is = by (h value is)
    where
      by : Writes value p ⊎ HasPut s value → Writes value p ⊎ HasPut v value
      by (inl writes) = inl writes
      by (inr made) = inr (made_on eq s v n (PutsHad eq begin n value) led made)

  at_on : (s v : State K V E) (c : Call K V E) → Leads eq s v →
      v.world.desk.rules ≡ s.world.desk.rules → IsAt s c → IsAt v c
  at_on s v c led rules h able = due_on s v led c.plan (h (ap is_disabled (sym rules) ∙ able))

  -- its rules are those of its cache
  able_call : (s : State K V E) (c : Call K V E) → IsReached eq s → s.calls n ≡ Some c →
      is_disabled s.world.desk.rules ≡ false → is_disabled c.rules ≡ false
  able_call s c reached live able =
      ap is_disabled ((in_well eq s reached).replacing.locking.rules n c live) ∙ able

  -- what a step of the call leaves of it, and answers
  abbrev StepSo : (s t v : State K V E) (c : Call K V E) → Turn K V E → Type 0
  StepSo s t v c r =
      LeftSo eq n s.world c (HasPut t) v.world.table.stored (v.calls n) ×
      SaysSo eq n s.world c (HasPut t) r

  step_so : (s t : State K V E) (turn : Turn K V E) → IsReached eq s →
      is_disabled s.world.desk.rules ≡ false → HoldsIf IsAt s (s.calls n) →
      (step : Step eq s n turn t) → StepSo s t t step.call turn
  step_so s t turn reached able h step =
      let c : Call K V E = step.call in
      let due : IsDue (HasPut t) c.plan = due_on s t (step_leads eq s t n turn step) c.plan
      ((subst (HoldsIf IsAt s) step.live h) able) in
      step_cases eq (After eq n s.world c (HasPut t))
      (λ v r. StepSo s t v c r) s t n turn step
      (on_plan eq n s.world c (HasPut t) (able_call s c reached step.live able) due c.plan refl)
      (λ w next so. (
        subst (LeftSo eq n s.world c (HasPut t) w.table.stored)
            (sym (put_here s.calls n next.left)) so.0,
        so.1,
      ))

  put_now : (s t : State K V E) (turn : Turn K V E) → IsReached eq s → (step : Step eq s n turn t) →
      IsOwn eq begin n s step.call → (value : V) →
      PutNow eq n s.world step.call (HasPut t) t.world.table.stored value → HasPut t value
  put_now s t turn reached step own value now = record {
    before = s;
    reached = reached;
    call = step.call;
    live = step.live;
    turn = turn;
    after = t;
    step = step;
    what = (
      now.0,
      (now.1, record { rest = now.2; writing = now.3; put = now.4 }),
      (subst (PlanOwned (HasValue eq begin n s) (For begin)) now.3 own).0,
    );
    led = no_leads eq t;
  }

  -- both what it may write and where it stands
  abbrev Both : State K V E → Call K V E → Type 0
  Both s c = IsOwn eq begin n s c × IsAt s c

  owned : (s : State K V E) (o : Option (Call K V E)) → HoldsIf Both s o →
      HoldsIf (IsOwn eq begin n) s o
  owned s None h = tt
  owned s (Some c) h = h.0

  placed : (s : State K V E) (o : Option (Call K V E)) → HoldsIf Both s o → HoldsIf IsAt s o
  placed s None h = tt
  placed s (Some c) h = h.1

  both : (s : State K V E) (o : Option (Call K V E)) → HoldsIf (IsOwn eq begin n) s o →
      HoldsIf IsAt s o → HoldsIf Both s o
  both s None a b = tt
  both s (Some c) a b = (a, b)

  both_on : (s v : State K V E) (c : Call K V E) → Leads eq s v →
      v.world.desk.rules ≡ s.world.desk.rules → Both s c → Both v c
  both_on s v c led rules h = (own_on eq begin n s v c led rules h.0, at_on s v c led rules h.1)

  at_step : (s t : State K V E) (turn : Turn K V E) → IsReached eq s → HoldsIf Both s (s.calls n) →
      Step eq s n turn t → HoldsIf IsAt t (t.calls n)
  at_step s t turn reached h step = by (is_disabled s.world.desk.rules) refl (t.calls n) refl
    where
      same : is_disabled t.world.desk.rules ≡ is_disabled s.world.desk.rules
      same = ap is_disabled (step_rules eq s t n turn step)

      own : IsOwn eq begin n s step.call
      own = subst (HoldsIf (IsOwn eq begin n) s) step.live (owned s (s.calls n) h)

      made : (p : List (Item K V E)) →
          IsDue (MadeNow eq n s.world step.call (HasPut t) t.world.table.stored) p →
          IsDue (HasPut t) p
      made p h value is = put (h value is)
        where
          put : Writes value p ⊎ MadeNow eq n s.world step.call (HasPut t) t.world.table.stored value →
              Writes value p ⊎ HasPut t value
          put (inl writes) = inl writes
          put (inr (inl old)) = inr old
          put (inr (inr now)) = inr (put_now s t turn reached step own value now)

      by : (b : Bool) → is_disabled s.world.desk.rules ≡ b → (o : Option (Call K V E)) →
          t.calls n ≡ o → HoldsIf IsAt t o
      by b e None is = tt
      by true e (Some d) is = λ able. absurd (false≢true (sym able ∙ same ∙ e))
      by false e (Some d) is = λ able. made d.plan
          (subst (LeftSo eq n s.world step.call (HasPut t) t.world.table.stored) is
          (step_so s t turn reached e (placed s (s.calls n) h) step).0)

  both_step : (s t : State K V E) (turn : Turn K V E) → IsReached eq s →
      HoldsIf Both s (s.calls n) → Step eq s n turn t → HoldsIf Both t (t.calls n)
  both_step s t turn reached h step = both t (t.calls n)
      (own_step eq begin n s t turn reached (owned s (s.calls n) h) step)
      (at_step s t turn reached h step)

module _ {K V : Type 0} (E : Type 0) (Made : V → Type 0) (parts : ℕ) (rules : Rules)
    (able : is_disabled rules ≡ false) where
  -- what is taken out, or looked up to be evicted, answers no value as stored
  locked_due : (b : Bool) (key : K) (p : List (Item K V E)) → IsDue {K = K} {V = V} {E = E} Made p →
      IsDue {K = K} {V = V} {E = E} Made (under_lock b key p)
  locked_due true key p h = h
  locked_due false key p h = h

  by_able : (F : Bool → List (Item K V E)) → IsDue {K = K} {V = V} {E = E} Made (F false) → IsDue {K = K} {V = V} {E = E} Made (F (is_disabled rules))
  by_able F h = subst (λ b. IsDue {K = K} {V = V} {E = E} Made (F b)) (sym able) h

  -- nothing of what a call has to do as it is started answers a value as stored but what it writes
  begins_due : (begin : Start K V) → IsDue {K = K} {V = V} {E = E} Made (plan_of parts rules begin)
  begins_due (start.Get key) = by_able (λ b. get_plan b key) (λ v e. absurd (none_some e))
  begins_due (start.Insert key value) = by_able (λ b. insert_plan b rules key value)
      (put_plans (λ p. IsDue {K = K} {V = V} {E = E} Made p) rules key value (plan.Reply answer.Done ∷ [])
      (λ v e. absurd (none_some e)) (λ v e. absurd (none_some e)))
  begins_due (start.GetWith key replace) =
      by_able (λ b. load_plan b (seek kind.GetWith key replace)) (λ v e. absurd (none_some e))
  begins_due (start.Optional key) =
      by_able (λ b. load_plan b (seek kind.Optional key None)) (λ v e. absurd (none_some e))
  begins_due (start.Try key) =
      by_able (λ b. load_plan b (seek kind.Try key None)) (λ v e. absurd (none_some e))
  begins_due (start.OrInsert key value) =
      by_able (λ b. or_insert_plan b key value) (λ v e. absurd (none_some e))
  begins_due (start.Compute key) = λ v e. absurd (none_some e)
  begins_due (start.TryCompute key) = λ v e. absurd (none_some e)
  begins_due (start.Upsert key) = λ v e. absurd (none_some e)
  begins_due (start.ComputeAlone key) = λ v e. absurd (none_some e)
  begins_due (start.Invalidate key) =
      locked_due rules.listener key (plan.Moment (plan.To_take_out plan.To_invalidate key) ∷ [])
      (λ v e. absurd (none_some e))
  begins_due (start.Remove key) =
      locked_due rules.listener key (plan.Moment (plan.To_take_out plan.To_remove key) ∷ [])
      (λ v e. absurd (none_some e))
  begins_due (start.Evict key stamp cause) =
      locked_due rules.listener key (look (plan.To_evict key stamp cause) key)
      (λ v e. absurd (none_some e))
  begins_due start.InvalidateAll = λ v e. absurd (none_some e)
  begins_due (start.InvalidateIf test) = λ v e. absurd (none_some e)
  begins_due start.Iter = by_able (λ b. iter_plan b parts)
      (lists_due Made 0 parts (plan.Reply answer.End ∷ []) (λ v e. absurd (none_some e)))
  begins_due start.Pending = by_able (λ b. pending_plan b parts) (λ v e. absurd (none_some e))

module _ {K V E : Type 0} (eq : K → K → Bool) where
  pub fresh_put : FreshIsPut K V E eq
  fresh_put s t begin n a value was able step says =
      let so = holds_since eq begin n (Both eq begin n) (both_on eq begin n) (both_step eq begin n) s
      was first in
      (step_so eq begin n s t (turn.Answer a) so.0 able (placed eq begin n s (s.calls n) so.1)
      step).1 value says
    where
      first : (v : State K V E) → Both eq begin n (started v begin)
          (fresh_call v.world.table.division.parts v.world.desk.rules begin)
      first v = (
        begins eq n (started v begin) v.world.table.division.parts v.world.desk.rules begin,
        λ on. begins_due E (HasPut eq begin n (started v begin)) v.world.table.division.parts
            v.world.desk.rules on begin,
      )
