-- What a call answers, and where that comes from: its own plan, or how its owner ended.
use Rattle.std.proofs.Common.{◌≡◌, ℕ, ◌+◌, ◌==◌, Bool, true, false, List, [], ◌∷◌, Some, None, IsSomeAnd, ◌⊎◌, inl, inr, refl, sym, ap, ◌∙◌, subst, Option, map, ◌++◌}
use Rattle.std.proofs.lemmas.Bool.{eqb-true, eq-eqb}
use Rattle.moka_hist.specs.Invalidating.{registering_answer}
use Rattle.moka_hist.specs.State.{State, World, Call, DeskPart}
use Rattle.moka_hist.specs.Plan.{Item, Aim, Removal, end_load, lists_from}
use Rattle.moka_hist.specs.Writing.{nothing_answer, removed_answer, said}
use Rattle.moka_hist.specs.Plan as plan
use Rattle.moka_hist.specs.Next.{Next, goes, waits}
use Rattle.moka_hist.specs.Looking.{shown, hits, misses, keeps, finds_pair}
use Rattle.moka_hist.specs.Loading.{after_read, after_abort, after_told, retries}
use Rattle.moka_hist.specs.Step.{Step}
use Rattle.moka_hist.specs.Visits.{settlement_for, registering}
use Rattle.moka_hist.specs.Run.{IsReached, fresh_call}
use Rattle.moka_hist.specs.declared.accesses.Turn.{Turn}
use Rattle.moka_hist.specs.declared.accesses.Turn.TheVariants as turn
use Rattle.moka_hist.specs.declared.events.Told.{Told}
use Rattle.moka_hist.specs.declared.events.Told.TheVariants as told
use Rattle.moka_hist.specs.Finite.{put_at}
use Rattle.moka_hist.specs.declared.loads.Kind.{Kind}
use Rattle.moka_hist.specs.declared.loads.Kind.TheVariants as kind
use Rattle.moka_hist.specs.declared.loads.Load.{Load}
use Rattle.moka_hist.specs.declared.loads.Sought.{Sought}
use Rattle.moka_hist.specs.declared.records.Stored.{Stored}
use Rattle.moka_hist.specs.declared.replies.Answer.{Answer}
use Rattle.moka_hist.specs.declared.replies.Answer.TheVariants as answer
use Rattle.moka_hist.specs.declared.rules.Rules.{Rules}
use Rattle.moka_hist.specs.declared.visits.Settled.{Settled}
use Rattle.moka_hist.specs.declared.visits.Settled.TheVariants as settled
use Rattle.moka_hist.specs.declared.visits.Found.TheVariants as found
use Rattle.moka_laws.specs.Loads.{said_of, is_computed, Says, SaysAs, OwnersAnswerSettled, Reads, NothingByCause, ErrorByCause, ExhaustedAtLast}
use Rattle.moka_laws.proofs.Counting.{none_some, some_same, put_cases, put_here, put_there}
use Rattle.moka_laws.proofs.Fitting.{ItemFits, AllFit, OwnsKind, ends_own}
use Rattle.moka_laws.proofs.TakesFit.{ItemTakes, AllTake}
use Rattle.moka_laws.proofs.Kept.{IsInvariant, in_reached}
use Rattle.moka_laws.proofs.Owning.{plan_left}
use Rattle.moka_laws.proofs.Roles.{IsLast}
use Rattle.moka_laws.proofs.Rules.{IsPlain, once_plain, registering_plain, shown_next, put_plans, loaded_plans, kept_next, chosen_next, IsFresh, Disabled, Gives_back, fresh_plan, read_key_next, told_op_next_by, IsLoad, IsComputed, unchanged_computed, put_computed, Walks_over}
use Rattle.moka_laws.proofs.Safe.{IsWell, well_kept}
use Rattle.moka_laws.proofs.StepCases.{OnStep, step_cases}
use Rattle.moka_laws.proofs.Outcomes.{Outcomes, outcomes, computes_of, passes_by}
use Rattle.moka_hist.specs.declared.loads.Compute.{Compute}
use Rattle.moka_hist.specs.Computing.{after_told_op, after_read_key}
use Rattle.moka_laws.proofs.Walks.{Ends, Finds, IsWalk, Lists, Scans, walk_is_walk, Chooses, Retires, Strikes, retiring_walk}
use Rattle.moka_hist.specs.Maintenance.{carrying}

same_answer : {K V E : Type 0} (a b : Answer K V E) → ◌≡◌ {A = Turn K V E} (turn.Answer a)
    (turn.Answer b) →
    a ≡ b
same_answer a b e = cc

-- a compute answers nothing of a load
computed_plain : {K V E : Type 0} (a : Answer K V E) → IsComputed a → IsPlain a
computed_plain (answer.Computed done) is = tt
computed_plain (answer.ComputeErr error) is = tt
computed_plain _ is = absurd is

computed_is : {K V E : Type 0} (a : Answer K V E) → IsComputed a → is_computed a ≡ true
computed_is (answer.Computed done) is = refl
computed_is (answer.ComputeErr error) is = refl
computed_is _ is = absurd is

-- the owner of a load says so
load_says : {K V E : Type 0} (k : Kind) (with : Settled V E) (reply : Turn K V E) → IsLoad k →
    Says with reply → SaysAs k with reply
load_says kind.Compute with reply one says = absurd one
load_says _ with reply one says = says

module _ {K V E : Type 0} where
  -- the owner of a load answers how it ends that, and the owner of a compute what it did
  abbrev HowEnds : Option (Load K) → Settled V E → Answer K V E → Type 0
  HowEnds owned with a =
      (((fresh : Bool) × (said_of with fresh ≡ Some a)) ×
      IsSomeAnd owned (λ load. IsLoad load.kind)) ⊎
      (OwnsKind owned kind.Compute × (with ≡ settled.Nothing) × IsComputed a)

  -- the plan answers how its call ends what it owns, where it ends it, and else nothing of a load
  -- that ended without a value
  abbrev PlanSays : Option (Load K) → List (Item K V E) → Type 0
  PlanSays owned [] = Unit {0}
  PlanSays owned (plan.Settle with ∷ plan.Reply a ∷ rest) = HowEnds owned with a
  PlanSays owned (plan.Settle with ∷ rest) = ⊥
  PlanSays owned (plan.Reply a ∷ rest) = IsPlain a
  PlanSays owned (_ ∷ rest) = PlanSays owned rest

  -- what a removal answers
  nothing_says : (owned : Option (Load K)) (removal : Removal K) (key : K) (c : Call K V E) →
      ItemFits {V = V} {E = E} owned (plan.Out removal key) →
      PlanSays owned (said removal (nothing_answer removal))
  nothing_says owned (plan.To_remove_as_told own) key c f = inr (f, refl, tt)
  nothing_says owned _ key c f = tt

  removed_says : (owned : Option (Load K)) (removal : Removal K) (key : K) (c : Call K V E)
      (value : V) → ItemFits {V = V} {E = E} owned (plan.Out removal key) →
      PlanSays owned (said removal (removed_answer removal value))
  removed_says owned (plan.To_remove_as_told own) key c value f = inr (f, refl, tt)
  removed_says owned _ key c value f = tt

  -- where what the call of this number answers comes from
  pub data Source (d : DeskPart K V E) (n : ℕ) (c : Call K V E) : Answer K V E → Type 0 where
    Plain : (a : Answer K V E) → IsPlain a → Source d n c a
    Heard : (sought : Sought K) (with : Settled V E) (a : Answer K V E) →
        c.plan ≡ plan.Read sought ∷ [] → settlement_for d n ≡ Some with →
        said_of with false ≡ Some a → Source d n c a
    Gave_up : (sought : Sought K) → c.plan ≡ plan.Read sought ∷ [] →
        settlement_for d n ≡ Some settled.Aborted → c.aborts + 1 ≡ retries →
        Source d n c answer.RetriesExhausted
    Ended : (with : Settled V E) (fresh : Bool) (a : Answer K V E) → c.plan ≡ end_load with a →
        said_of with fresh ≡ Some a → Source d n c a

  finds_say : (owned : Option (Load K)) (keys : List K) (rest : List (Item K V E)) → PlanSays owned rest →
      PlanSays owned (map plan.Find keys ++ rest)
  finds_say owned [] rest q = q
  finds_say owned (key ∷ keys) rest q = finds_say owned keys rest q

  walk_says : (owned : Option (Load K)) (p : List (Item K V E)) → IsWalk p → PlanSays owned p
  walk_says owned p Ends = tt
  walk_says owned p Retires = tt
  walk_says owned p (Chooses parts) = tt
  walk_says owned p (Strikes there stored rest walk) = walk_says owned rest walk
  walk_says owned p (Lists part rest walk) = walk_says owned rest walk
  walk_says owned p (Finds key rest walk) = walk_says owned rest walk
  walk_says owned p (Scans there stored rest walk) = walk_says owned rest walk

  fresh_says : (owned : Option (Load K)) (rules : Rules) (p : List (Item K V E)) →
      IsFresh rules p → PlanSays owned p
  fresh_says owned rules p (Disabled a d once) = once_plain a once
  fresh_says owned rules p (Gives_back a d once) = once_plain a once
  fresh_says owned rules p (Walks_over parts able) = walk_says owned p (walk_is_walk 0 parts)
  fresh_says owned rules p _ = tt

  -- what a step has to show
  record Leaves (d : DeskPart K V E) (n : ℕ) (c : Call K V E) (owning : ℕ → Option (Load K))
      (next : Next K V E) : Type 0 where
    says : PlanSays (owning n) (plan_left next.left)
    others : (m : ℕ) → (n == m) ≡ false → owning m ≡ d.owning m
    source : (a : Answer K V E) → next.turn ≡ turn.Answer a → Source d n c a

  module _ (d : DeskPart K V E) (n : ℕ) (c : Call K V E) where
    -- the call owns what it did
    abbrev Still : Next K V E → Type 0
    Still next = Leaves d n c d.owning next

    -- the call answers
    plainly : (a : Answer K V E) (next : Next K V E) → next.left ≡ None →
        next.turn ≡ turn.Answer a → IsPlain a →
        Still next
    plainly a next none is p = record {
      says = subst (λ v. PlanSays (d.owning n) (plan_left v)) (sym none) tt;
      others = λ m h. refl;
      source = λ b e. subst (Source d n c) (same_answer {K = K} a b (sym is ∙ e)) (Plain a p);
    }

    -- the call goes on with the plan
    on : (next : Next K V E) → ((a : Answer K V E) → next.turn ≡ turn.Answer a → ⊥) →
        PlanSays (d.owning n) (plan_left next.left) → Still next
    on next going q =
        record { says = q; others = λ m h. refl; source = λ a e. absurd (going a e) }

    -- or owns another
    owns : (owned : Option (Load K)) (next : Next K V E) →
        ((a : Answer K V E) → next.turn ≡ turn.Answer a → ⊥) →
        PlanSays owned (plan_left next.left) → Leaves d n c (put_at d.owning n owned) next
    owns owned next going q = record {
      says = subst (λ v. PlanSays v (plan_left next.left)) (sym (put_here d.owning n owned)) q;
      others = λ m h. put_there d.owning n owned m h;
      source = λ a e. absurd (going a e);
    }

    goes_as : (other : Call K V E) (rest : List (Item K V E)) → PlanSays (d.owning n) rest → Still (goes other rest)
    goes_as other (plan.Reply a ∷ []) q = plainly a _ refl refl q
    goes_as other _ q = on _ (λ b e. cc) q

    goes_says : (rest : List (Item K V E)) → PlanSays (d.owning n) rest → Still (goes c rest)
    goes_says rest q = goes_as c rest q

    keeps_says : Still (keeps c)
    keeps_says = kept_next Still c (λ off. plainly answer.Kept _ refl refl tt)
        (λ is_on. on _ (λ b e. cc) tt)

    misses_says : (aim : Aim K V) → Still (misses c aim)
    misses_says (plan.To_show form) = plainly (shown form None) _ refl refl
        (shown_next IsPlain form None tt (λ key. tt))
    misses_says (plan.To_insert key value) =
        let after : List (Item K V E) = plan.Reply (answer.Loaded value true) ∷ [] in
        put_plans (λ p. Still (goes c p)) c.rules key value after
        (goes_says (plan.Drain ∷ plan.Moment (plan.To_store key value) ∷ after) tt)
        (goes_says (plan.Drain ∷ plan.Lock key ∷ plan.Moment (plan.To_store key value) ∷ after) tt)
    misses_says (plan.To_evict key stamp cause) = keeps_says
    misses_says _ = on _ (λ b e. cc) tt

    finds_says : (aim : Aim K V) (there : K) (stored : Stored V) →
        Still (finds_pair c aim there stored)
    finds_says (plan.To_evict key stamp cause) there stored =
        chosen_next Still c key stamp cause there stored
        (λ off. plainly answer.Kept _ refl refl tt) (λ is_on. on _ (λ b e. cc) tt)
        (on _ (λ b e. cc) tt)
    finds_says _ there stored = on _ (λ b e. cc) tt

    hits_says : (aim : Aim K V) (there : K) (value : V) (stored : Stored V) →
        PlanSays (d.owning n) c.plan →
        ItemFits {V = V} {E = E} (d.owning n) (plan.Judge aim there stored) →
        ItemTakes (d.asks n) (d.told n) (plan.Judge aim there stored) →
        Still (hits c aim there value)
    hits_says (plan.To_show form) there value stored p f one =
        plainly (shown form (Some (there, value))) _ refl refl
        (shown_next IsPlain form (Some (there, value)) tt (λ key. tt))
    hits_says (plan.To_own sought) there value stored p f one = on _ (λ b e. cc)
        (inl ((false, refl), ends_own IsLoad (d.owning n) sought.load.kind f one))
    hits_says (plan.To_compute compute) there value stored p f one = on _ (λ b e. cc) tt
    hits_says (plan.To_evict key stamp cause) there value stored p f one = on _ (λ b e. cc) p
    hits_says _ there value stored p f one =
        plainly (answer.Loaded value false) _ refl refl tt

    -- what an owner settled is answered
    heard : (sought : Sought K) (with : Settled V E) (a : Answer K V E) →
        c.plan ≡ plan.Read sought ∷ [] →
        settlement_for d n ≡ Some with → said_of with false ≡ Some a →
        (after_read c sought (found.ReadSettled with)).left ≡ None →
        (after_read c sought (found.ReadSettled with)).turn ≡ turn.Answer a →
        Still (after_read c sought (found.ReadSettled with))
    heard sought with a e some said none is = record {
      says = subst (λ v. PlanSays (d.owning n) (plan_left v)) (sym none) tt;
      others = λ m h. refl;
      source = λ b f. subst (Source d n c) (same_answer {K = K} a b (sym is ∙ f))
          (Heard sought with a e some said);
    }

    read_says : (sought : Sought K) (with : Settled V E) → c.plan ≡ plan.Read sought ∷ [] →
        settlement_for d n ≡ Some with → PlanSays (d.owning n) c.plan →
        Still (after_read c sought (found.ReadSettled with))
    read_says sought (settled.Ready value) e some p =
        heard sought (settled.Ready value) (answer.Loaded value false) e some refl refl refl
    read_says sought (settled.Err error) e some p =
        heard sought (settled.Err error) (answer.InitErr error) e some refl refl refl
    read_says sought settled.Nothing e some p =
        heard sought settled.Nothing answer.Nothing e some refl refl refl
    read_says sought settled.NotYet e some p = on _ (λ b f. cc) p
    read_says sought settled.Aborted e some p = by (c.aborts + 1 == retries) refl
      where
        by : (b : Bool) → (c.aborts + 1 == retries) ≡ b → Still (after_abort c sought)
        by true is = rw is (record {
          says = tt;
          others = λ m h. refl;
          source = λ b f. subst (Source d n c) (same_answer {K = K} answer.RetriesExhausted b f)
              (Gave_up sought e some (eqb-true (c.aborts + 1) retries is));
        })
        by false is = rw is (on _ (λ b f. cc) tt)

    read_key_says : (compute : Compute K) (with : Settled V E) → PlanSays (d.owning n) c.plan →
        Still (after_read_key c compute (found.ReadSettled with))
    read_key_says compute with p = read_key_next Still c compute with
        (on _ (λ b f. cc) p) (on _ (λ b e. cc) tt)

    told_says : (load : Load K) (given : Told V E) →
        IsSomeAnd (d.owning n) (λ own. IsLoad own.kind) → PlanSays (d.owning n) c.plan →
        Still (after_told c load (found.TakeTold (Some given)))
    told_says load (told.Value value) own p =
        loaded_plans (λ q. Still (goes c q)) c.rules load value
        (on _ (λ b e. cc) (inl ((true, refl), own))) (on _ (λ b e. cc) (inl ((true, refl), own)))
        (on _ (λ b e. cc) (inl ((true, refl), own)))
    told_says load told.Nothing own p = on _ (λ b e. cc) (inl ((false, refl), own))
    told_says load (told.Err error) own p = on _ (λ b e. cc) (inl ((false, refl), own))
    told_says load _ own p = on _ (λ b e. cc) p

    told_op_says : (compute : Compute K) (pair : Option (K × V)) (given : Told V E) →
        OwnsKind (d.owning n) kind.Compute → PlanSays (d.owning n) c.plan →
        Still (after_told_op c compute pair (found.TakeTold (Some given)))
    told_op_says compute pair given own p = told_op_next_by Still c compute pair given
        (on _ (λ b e. cc) (inr (own, refl, unchanged_computed E compute.key pair)))
        (λ error f. on _ (λ b e. cc) (inr (own, refl, tt)))
        (λ value disabled. on _ (λ b e. cc)
        (inr (own, refl, put_computed E compute.key pair value)))
        (λ value able off. on _ (λ b e. cc)
        (inr (own, refl, put_computed E compute.key pair value)))
        (λ value able is_on. on _ (λ b e. cc)
        (inr (own, refl, put_computed E compute.key pair value)))
        (λ off. on _ (λ b e. cc) tt)
        (λ is_on. on _ (λ b e. cc) tt)
        (λ lost. on _ (λ b e. cc) p)

    -- an owner answers what it settles
    settles_says : (with : Settled V E) (rest : List (Item K V E)) → c.plan ≡ plan.Settle with ∷ rest →
        IsLast (plan.Settle with ∷ rest) → PlanSays (d.owning n) (plan.Settle with ∷ rest) →
        Leaves d n c (put_at d.owning n None) (goes c rest)
    settles_says with (plan.Reply a ∷ []) e l q = record {
      says = tt;
      others = λ m h. put_there d.owning n None m h;
      source = λ b f. subst (Source d n c) (same_answer {K = K} a b f) (by q);
    }
      where
        by : HowEnds (d.owning n) with a → Source d n c a
        by (inl h) = Ended with h.0.0 a e h.0.1
        by (inr h) = Plain a (computed_plain a h.2)
    settles_says with (plan.Reply a ∷ x ∷ rest) e l q = cc
    settles_says with [] e l q = absurd q
    settles_says with (item ∷ rest) e l q = absurd q

  module _ (eq : K → K → Bool) (w : World K V E) (n : ℕ) (c : Call K V E)
      (p : PlanSays (w.desk.owning n) c.plan) where
    abbrev After : World K V E → Next K V E → Type 0
    After new next = Leaves w.desk n c new.desk.owning next

    abbrev Same : Next K V E → Type 0
    Same next = Leaves w.desk n c w.desk.owning next

    -- the call goes on with the rest, or as it was
    passes : (rest : List (Item K V E)) → PlanSays (w.desk.owning n) rest → Same (goes c rest)
    passes rest q = goes_says w.desk n c rest q

    parks : Same (waits c)
    parks = on w.desk n c _ (λ b e. cc) p

    on_item : (item : Item K V E) (rest : List (Item K V E)) → c.plan ≡ item ∷ rest → IsLast (item ∷ rest) →
        PlanSays (w.desk.owning n) (item ∷ rest) → AllFit (w.desk.owning n) (item ∷ rest) →
        AllTake (w.desk.asks n) (w.desk.told n) (item ∷ rest) → Outcomes eq After w n c item rest
    on_item plan.Drain rest e l q f t = (
      λ g. passes rest q,
      λ x xs f. on w.desk n c _ (λ b h. cc) q,
      λ x number xs f. on w.desk n c _ (λ b h. cc) q,
    )
    on_item (plan.Notice key old cause upsert) rest e l q f t =
        (λ g. passes rest q, λ g. on w.desk n c _ (λ b h. cc) q)
    on_item (plan.Post write) rest e l q f t =
        (λ g. passes rest q, λ g. on w.desk n c _ (λ b h. cc) q)
    on_item plan.Apply rest e l q f t =
        (λ g. passes rest q, λ x xs f. on w.desk n c _ (λ b h. cc) q)
    on_item (plan.Get aim key) rest e l q f t = (
      (λ more. on w.desk n c _ (λ b h. cc) p),
      (λ none. misses_says w.desk n c aim),
      λ k stored some. finds_says w.desk n c aim k stored,
    )
    on_item (plan.Judge aim key stored) rest e l q f t = (
      (λ seen. hits_says w.desk n c aim key stored.value stored p f.0 t.0),
      λ unseen. misses_says w.desk n c aim,
    )
    on_item (plan.Own sought) rest e l q f t = (
      λ able none. owns w.desk n c (Some sought.load) _ (λ b h. cc) tt,
      λ disabled none. owns w.desk n c (Some sought.load) _ (λ b h. cc) tt,
      λ owner some. on w.desk n c _ (λ b h. cc) tt,
    )
    on_item (plan.Own_key compute) rest e l q f t = (
      (
        (λ able none. owns w.desk n c (Some (computes_of compute.key)) _ (λ b h. cc) tt),
        λ disabled none. owns w.desk n c (Some (computes_of compute.key)) _ (λ b h. cc) tt,
      ),
      λ owner some. on w.desk n c _ (λ b h. cc) tt,
    )
    on_item (plan.Own_alone key) rest e l q f t = (
      (
        (λ able none. owns w.desk n c (Some (computes_of key)) _ (λ b h. cc) tt),
        λ disabled none. owns w.desk n c (Some (computes_of key)) _ (λ b h. cc) tt,
      ),
      λ owner some.
          ((λ able. on w.desk n c _ (λ b h. cc) tt), λ not. on w.desk n c _ (λ b h. cc) tt),
    )
    on_item (plan.Read sought) rest e l q f t = (
      λ none. parks,
      λ with some. read_says w.desk n c sought with (e ∙ ap (λ r. plan.Read sought ∷ r) l) some p,
    )
    on_item (plan.Read_key compute) rest e l q f t = (
      λ none. parks,
      λ with some. read_key_says w.desk n c compute with p,
    )
    on_item (plan.Settle with) rest e l q f t = settles_says w.desk n c with rest e l q
    on_item (plan.Ask load) rest e l q f t = on w.desk n c _ (λ b h. cc) tt
    on_item (plan.Ask_op compute pair) rest e l q f t = on w.desk n c _ (λ b h. cc) tt
    on_item (plan.Told load) rest e l q f t = (
      λ none. parks,
      λ given some. told_says w.desk n c load given
          (ends_own IsLoad (w.desk.owning n) load.kind f.0 t.0.0) p,
    )
    on_item (plan.Told_op compute pair) rest e l q f t =
        (λ none. parks, λ given some. told_op_says w.desk n c compute pair given f.0 p)
    on_item (plan.Holds key stamp cause there stored) rest e l q f t =
        (λ leaves. on w.desk n c _ (λ b h. cc) tt, λ stays. keeps_says w.desk n c)
    on_item (plan.Moment (plan.To_store key value)) rest e l q f t = on w.desk n c _ (λ b h. cc) q
    on_item (plan.Moment (plan.To_take_out removal key)) rest e l q f t =
        on w.desk n c _ (λ b h. cc) q
    on_item (plan.Write key value moment) rest e l q f t = (
      (λ more. on w.desk n c _ (λ b h. cc) p),
      (λ off old. on w.desk n c _ (λ b h. cc) q),
      (λ is_on. on w.desk n c _ (λ b h. cc) q),
      λ k old is_on some. on w.desk n c _ (λ b h. cc) q,
    )
    on_item (plan.Out removal key) rest e l q f t = (
      (λ more. on w.desk n c _ (λ b h. cc) p),
      (λ off none. on w.desk n c _ (λ b h. cc) (nothing_says _ removal key c f.0)),
      (λ is_on none. on w.desk n c _ (λ b h. cc) (nothing_says _ removal key c f.0)),
      (λ k old off some. on w.desk n c _ (λ b h. cc) (removed_says _ removal key c old.value f.0)),
      λ k old is_on some. on w.desk n c _ (λ b h. cc) (removed_says _ removal key c old.value f.0),
    )
    on_item (plan.List_keys part) rest e l q f t = (
      (λ more. on w.desk n c _ (λ b h. cc) p),
      λ listed keys is gives. passes (map plan.Find keys ++ rest) (finds_say _ keys rest q),
    )
    on_item (plan.Find key) rest e l q f t = (
      (λ more. on w.desk n c _ (λ b h. cc) p),
      (λ none. passes rest q),
      (λ k stored some none. on w.desk n c _ (λ b h. cc) q),
      λ k stored ids some is. on w.desk n c _ (λ b h. cc) q,
    )
    on_item (plan.Scan there stored) rest e l q f t =
        ((λ seen. on w.desk n c _ (λ b h. cc) q), λ unseen. passes rest q)
    on_item (plan.Register test) rest e l q f t =
        plainly w.desk n c (registering_answer (registering w.desk)) _ refl refl (registering_plain K V E (registering w.desk))
    on_item (plan.Candidates parts) rest e l q f t = (
      (λ none. plainly w.desk n c answer.Done _ refl refl tt),
      λ id more some. goes_as w.desk n c (carrying c (id ∷ more)) (lists_from 0 parts (plan.Retire ∷ [])) (walk_says _ _ (retiring_walk parts)),
    )
    on_item (plan.Strike there stored) rest e l q f t = goes_as w.desk n c (carrying c _) rest q
    on_item plan.Retire rest e l q f t = plainly w.desk n c answer.Done _ refl refl tt
    on_item (plan.Reply a) rest e l q f t = plainly w.desk n c a _ refl refl q
    on_item item rest e l q f t = passes_by eq After w n c item rest tt
        (λ d a. subst (λ o. Leaves w.desk n c o (goes c rest)) (sym a.owning) (passes rest q)) parks

    on_plan : (q : List (Item K V E)) → c.plan ≡ q → IsLast q → PlanSays (w.desk.owning n) q →
        AllFit (w.desk.owning n) q → AllTake (w.desk.asks n) (w.desk.told n) q →
        OnStep eq After w n c q
    on_plan [] e l q f t = parks
    on_plan (item ∷ rest) e l q f t =
        outcomes eq After w n c item rest (on_item item rest e l q f t)

-- ---- of a state

module _ {K V E : Type 0} (eq : K → K → Bool) where
  -- each live call's plan says how it ends what it owns
  record IsTrue (s : State K V E) : Type 0 where
    well : IsWell eq s
    says : (n : ℕ) (c : Call K V E) → s.calls n ≡ Some c →
        PlanSays (s.world.desk.owning n) c.plan

  -- where the answer of a step comes from, and what the call is left with
  step_leaves : (s t : State K V E) (n : ℕ) (reply : Turn K V E) → IsTrue s → (step : Step eq s n reply t) →
      ((m : ℕ) (b : Call K V E) → t.calls m ≡ Some b → PlanSays (t.world.desk.owning m) b.plan) ×
      ((a : Answer K V E) → reply ≡ turn.Answer a → Source s.world.desk n step.call a)
  step_leaves s t n reply i step =
      let c : Call K V E = step.call in
      step_cases eq (λ new next. Leaves s.world.desk n c new.desk.owning next)
      (λ v r. ((m : ℕ) (b : Call K V E) → v.calls m ≡ Some b →
      PlanSays (v.world.desk.owning m) b.plan) ×
      ((a : Answer K V E) → r ≡ turn.Answer a → Source s.world.desk n c a)) s t n reply step
      (on_plan eq s.world n c (i.says n c step.live) c.plan refl (last_of s n c i.well step.live)
      (i.says n c step.live) (i.well.fitting.fit n c step.live)
      (i.well.fitting.taking.take n c step.live))
      (λ w next l. (
        λ m b live. put_cases s.calls n next.left m (Some b)
            (PlanSays (w.desk.owning m) b.plan) live
            (λ here is. subst (λ v. PlanSays (w.desk.owning v) b.plan) here
            (subst (λ v. PlanSays (w.desk.owning n) (plan_left v)) is l.says))
            (λ there is. subst (λ v. PlanSays v b.plan) (sym (l.others m there)) (i.says m b is)),
        l.source,
      ))
    where
      last_of : (s : State K V E) (n : ℕ) (c : Call K V E) → IsWell eq s → s.calls n ≡ Some c → IsLast c.plan
      last_of s n c well live = subst (λ v. IsLast (plan_left v)) live (well.served.fits n).last

  true_kept : IsInvariant eq IsTrue
  true_kept = record {
    fresh = λ division divides rules size built has_log. record {
      well = (well_kept eq).fresh division divides rules size built has_log;
      says = λ n c live. absurd (none_some live);
    };
    at = λ s moment i. record { well = (well_kept eq).at s moment i.well; says = i.says };
    start = λ s start i. record {
      well = (well_kept eq).start s start i.well;
      says = λ n c live.
          put_cases s.calls (s.world.desk.last + 1) (Some (fresh_call s.world.table.division.parts s.world.desk.rules start)) n (Some c)
          (PlanSays (s.world.desk.owning n) c.plan) live
          (λ here is. subst (λ v. PlanSays (s.world.desk.owning n) (plan_left v)) is
          (fresh_says _ s.world.desk.rules _ (fresh_plan s.world.table.division.parts s.world.desk.rules start)))
          (λ there is. i.says n c is);
    };
    step = λ s t n reply i step. record {
      well = (well_kept eq).step s t n reply i.well step;
      says = (step_leaves s t n reply i step).0;
    };
    tell = λ s n given asked i. record {
      well = (well_kept eq).tell s n given asked i.well;
      says = i.says;
    };
    hear = λ s n off running i. record {
      well = (well_kept eq).hear s n off running i.well;
      says = i.says;
    };
    drop = λ s n c live between i. record {
      well = (well_kept eq).drop s n c live between i.well;
      says = λ m b lives. put_cases s.calls n None m (Some b)
          (PlanSays (put_at s.world.desk.owning n None m) b.plan) lives
          (λ here is. absurd (none_some is))
          (λ there is. subst (λ v. PlanSays v b.plan)
          (sym (put_there s.world.desk.owning n None m there)) (i.says m b is));
    };
  }

  -- each answer of a step on a reached state has a source
  pub answer_source : (s t : State K V E) (n : ℕ) (c : Call K V E) (a : Answer K V E) →
      IsReached eq s →
      s.calls n ≡ Some c → Step eq s n (turn.Answer a) t → Source s.world.desk n c a
  answer_source s t n c a h live step =
      let i : IsTrue s = in_reached eq IsTrue true_kept s h in
      let is : step.call ≡ c = some_same (sym step.live ∙ live) in
      subst (λ v. Source s.world.desk n v a) is ((step_leaves s t n (turn.Answer a) i step).1 a refl)

  -- what is owned says how its owner answers
  says_as : (owned : Option (Load K)) (load : Load K) (with : Settled V E) (a : Answer K V E) →
      owned ≡ Some load → HowEnds owned with a → SaysAs load.kind with (turn.Answer a)
  says_as owned load with a is ends = by (subst (λ o. HowEnds o with a) is ends)
    where
      by : HowEnds (Some load) with a → SaysAs load.kind with (turn.Answer a)
      by (inl h) = load_says load.kind with (turn.Answer a) h.1
          (record { fresh = h.0.0; answer = a; said = h.0.1; answers = refl })
      by (inr h) = subst (λ k. SaysAs k with (turn.Answer a)) (sym h.0)
          (record { answer = a; ended = h.1; computed = computed_is a h.2; answers = refl })

  pub owners_answer : OwnersAnswerSettled K V E eq
  owners_answer s t n c load with rest reply h live owns e step =
      let i : IsTrue s = in_reached eq IsTrue true_kept s h in
      let says : PlanSays (s.world.desk.owning n) (plan.Settle with ∷ rest) =
      subst (PlanSays (s.world.desk.owning n)) e (i.says n c live) in
      let last : IsLast (plan.Settle with ∷ rest) = subst IsLast e
      (subst (λ v. IsLast (plan_left v)) live (i.well.served.fits n).last) in
      let is : step.call ≡ c = some_same (sym step.live ∙ live) in
      step_cases eq (λ new next. SaysAs load.kind with next.turn) (λ v r. SaysAs load.kind with r)
      s t n reply step
      (subst (λ q. OnStep eq (λ new next. SaysAs load.kind with next.turn) s.world n step.call q)
      (sym (ap (λ (v : Call K V E). v.plan) is ∙ e))
      (outcomes eq (λ new next. SaysAs load.kind with next.turn) s.world n step.call
      (plan.Settle with) rest (by rest says last step.call)))
      (λ w next said. said)
    where
      by : (rest : List (Item K V E)) → PlanSays (s.world.desk.owning n) (plan.Settle with ∷ rest) →
          IsLast (plan.Settle with ∷ rest) → (c : Call K V E) →
          SaysAs load.kind with (goes c rest).turn
      by (plan.Reply a ∷ []) q l c = says_as (s.world.desk.owning n) load with a owns q
      by (plan.Reply a ∷ x ∷ rest) q l c = cc
      by [] q l c = absurd q
      by (item ∷ rest) q l c = absurd q

  -- ---- what follows

  -- a step answers so where the call reads that its owner ended so, or ends its own load so
  reads_answer : (s t : State K V E) (n : ℕ) (c : Call K V E) (with : Settled V E)
      (a : Answer K V E)
      (reply : Turn K V E) → s.calls n ≡ Some c → Step eq s n reply t → Reads s n c with →
      ((sought : Sought K) → (after_read c sought (found.ReadSettled with)).turn ≡ turn.Answer a) →
      reply ≡ turn.Answer a
  reads_answer s t n c with a reply live step r answers =
      let is : step.call ≡ c = some_same (sym step.live ∙ live) in
      step_cases eq (λ new next. next.turn ≡ turn.Answer a) (λ v u. u ≡ turn.Answer a) s t n reply step
      (subst (λ b. OnStep eq (λ new next. next.turn ≡ turn.Answer a) s.world n b b.plan) (sym is)
      (subst (λ q. OnStep eq (λ new next. next.turn ≡ turn.Answer a) s.world n c q) (sym r.reading)
      (outcomes eq (λ new next. next.turn ≡ turn.Answer a) s.world n c (plan.Read r.sought) [] (
        (λ none. absurd (none_some (sym none ∙ r.ended))),
        λ other some. subst (λ v. (after_read c r.sought (found.ReadSettled v)).turn ≡ turn.Answer a)
            (some_same (sym r.ended ∙ some)) (answers r.sought),
      ))))
      (λ w next e. e)

  ends_answer : (s t : State K V E) (n : ℕ) (c : Call K V E) (with : Settled V E) (a : Answer K V E)
      (reply : Turn K V E) → s.calls n ≡ Some c → Step eq s n reply t → c.plan ≡ end_load with a →
      reply ≡ turn.Answer a
  ends_answer s t n c with a reply live step e =
      let is : step.call ≡ c = some_same (sym step.live ∙ live) in
      step_cases eq (λ new next. next.turn ≡ turn.Answer a) (λ v u. u ≡ turn.Answer a) s t n reply step
      (subst (λ b. OnStep eq (λ new next. next.turn ≡ turn.Answer a) s.world n b b.plan) (sym is)
      (subst (λ q. OnStep eq (λ new next. next.turn ≡ turn.Answer a) s.world n c q) (sym e)
      (outcomes eq (λ new next. next.turn ≡ turn.Answer a) s.world n c (plan.Settle with)
      (plan.Reply a ∷ []) refl)))
      (λ w next e. e)

  -- how a load ended that is answered so
  said_nothing : (with : Settled V E) (fresh : Bool) →
      said_of {K = K} with fresh ≡ Some answer.Nothing →
      with ≡ settled.Nothing
  said_nothing settled.Nothing fresh e = refl
  said_nothing _ fresh e = cc

  said_error : (with : Settled V E) (fresh : Bool) (error : E) →
      said_of {K = K} with fresh ≡ Some (answer.InitErr error) → with ≡ settled.Err error
  said_error settled.Aborted fresh error e = cc
  said_error _ fresh error e = cc

  said_not : (with : Settled V E) (fresh : Bool) →
      said_of {K = K} with fresh ≡ Some answer.RetriesExhausted → ⊥
  said_not settled.Aborted fresh e = cc
  said_not _ fresh e = cc

  module _ (s : State K V E) (n : ℕ) (c : Call K V E) where
    nothing_from : (a : Answer K V E) → Source s.world.desk n c a → a ≡ answer.Nothing →
        Reads s n c settled.Nothing ⊎ (c.plan ≡ end_load settled.Nothing answer.Nothing)
    nothing_from a (Plain b p) e = absurd (subst IsPlain e p)
    nothing_from a (Heard sought with b reading some said) e =
        let is : with ≡ settled.Nothing = said_nothing with false (said ∙ ap (λ v. Some v) e) in
        inl (record { sought = sought; reading = reading; ended = some ∙ ap (λ v. Some v) is })
    nothing_from a (Gave_up sought reading some last) e = cc
    nothing_from a (Ended with fresh b ends said) e =
        let is : with ≡ settled.Nothing = said_nothing with fresh (said ∙ ap (λ v. Some v) e) in
        inr (ends ∙ ap (λ v. end_load v b) is ∙ ap (λ v. end_load settled.Nothing v) e)

    error_from : (a : Answer K V E) (error : E) → Source s.world.desk n c a →
        a ≡ answer.InitErr error →
        Reads s n c (settled.Err error) ⊎
        (c.plan ≡ end_load (settled.Err error) (answer.InitErr error))
    error_from a error (Plain b p) e = absurd (subst IsPlain e p)
    error_from a error (Heard sought with b reading some said) e =
        let is : with ≡ settled.Err error = said_error with false error (said ∙ ap (λ v. Some v) e) in
        inl (record { sought = sought; reading = reading; ended = some ∙ ap (λ v. Some v) is })
    error_from a error (Gave_up sought reading some last) e = cc
    error_from a error (Ended with fresh b ends said) e =
        let is : with ≡ settled.Err error = said_error with fresh error (said ∙ ap (λ v. Some v) e) in
        inr (ends ∙ ap (λ v. end_load v b) is ∙ ap (λ v. end_load (settled.Err error) v) e)

    exhausted_from : (a : Answer K V E) → Source s.world.desk n c a → a ≡ answer.RetriesExhausted →
        Reads s n c settled.Aborted × (c.aborts + 1 ≡ retries)
    exhausted_from a (Plain b p) e = absurd (subst IsPlain e p)
    exhausted_from a (Heard sought with b reading some said) e =
        absurd (said_not with false (said ∙ ap (λ v. Some v) e))
    exhausted_from a (Gave_up sought reading some last) e =
        (record { sought = sought; reading = reading; ended = some }, last)
    exhausted_from a (Ended with fresh b ends said) e =
        absurd (said_not with fresh (said ∙ ap (λ v. Some v) e))

  pub nothing_cause : NothingByCause K V E eq
  nothing_cause s t n c reply h live step = (
    λ is. nothing_from s n c answer.Nothing
        (answer_source s t n c answer.Nothing h live (subst (λ r. Step eq s n r t) is step)) refl,
    λ why. by why,
  )
    where
      by : Reads s n c settled.Nothing ⊎ (c.plan ≡ end_load settled.Nothing answer.Nothing) →
          reply ≡ turn.Answer answer.Nothing
      by (inl r) = reads_answer s t n c settled.Nothing answer.Nothing reply live step r (λ sought. refl)
      by (inr e) = ends_answer s t n c settled.Nothing answer.Nothing reply live step e

  pub error_cause : ErrorByCause K V E eq
  error_cause s t n c error reply h live step = (
    λ is. error_from s n c (answer.InitErr error) error
        (answer_source s t n c (answer.InitErr error) h live (subst (λ r. Step eq s n r t) is step)) refl,
    λ why. by why,
  )
    where
      by : Reads s n c (settled.Err error) ⊎
          (c.plan ≡ end_load (settled.Err error) (answer.InitErr error)) →
          reply ≡ turn.Answer (answer.InitErr error)
      by (inl r) = reads_answer s t n c (settled.Err error) (answer.InitErr error) reply live step r
          (λ sought. refl)
      by (inr e) = ends_answer s t n c (settled.Err error) (answer.InitErr error) reply live step e

  pub exhausted_last : ExhaustedAtLast K V E eq
  exhausted_last s t n c reply h live step = (
    λ is. exhausted_from s n c answer.RetriesExhausted
        (answer_source s t n c answer.RetriesExhausted h live (subst (λ r. Step eq s n r t) is step))
        refl,
    λ why. reads_answer s t n c settled.Aborted answer.RetriesExhausted reply live step why.0
        (λ sought. gives_up sought (eq-eqb (c.aborts + 1) retries why.1)),
  )
    where
      gives_up : (sought : Sought K) → (c.aborts + 1 == retries) ≡ true →
          (after_abort c sought).turn ≡ turn.Answer answer.RetriesExhausted
      gives_up sought e = rw e refl
