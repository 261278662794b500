-- A call whose answer says that it has stored a value has committed its write.
use Rattle.std.proofs.Common.{◌≡◌, ℕ, ◌+◌, ◌≤◌, ◌==◌, Bool, true, false, cond, List, [], ◌∷◌, ◌++◌, Some, None, refl, sym, ap, ◌∙◌, subst, arith, Option, map, Result, Ok, Err, zero, suc}
use Rattle.std.proofs.lemmas.Bool.{eqb-true, false≢true}
use Rattle.moka_hist.specs.Visits.{registering}
use Rattle.moka_hist.specs.Invalidating.{registering_answer}
use Rattle.moka_hist.specs.Plan.{or_insert_plan, seek, lists_from}
use Rattle.moka_hist.specs.Finite.{times}
use Rattle.moka_hist.specs.State.{State, World, Call}
use Rattle.moka_hist.specs.Plan.{Item, Aim, Removal, insert_plan, is_disabled, load_plan, plan_of}
use Rattle.moka_hist.specs.Plan as plan
use Rattle.moka_hist.specs.Next.{Next, goes}
use Rattle.moka_hist.specs.Looking.{shown, hits, misses, finds_pair}
use Rattle.moka_hist.specs.Loading.{after_read, after_told, after_abort, retries}
use Rattle.moka_hist.specs.Step.{Step}
use Rattle.moka_hist.specs.Run.{fresh_call, started}
use Rattle.moka_hist.specs.declared.predicates.PredicateError.{PredicateError}
use Rattle.moka_hist.specs.declared.predicates.PredicateError.TheVariants as refused
use Rattle.moka_hist.specs.declared.accesses.Turn.{Turn}
use Rattle.moka_hist.specs.declared.accesses.Turn.TheVariants as turns
use Rattle.moka_hist.specs.declared.rules.Rules.{Rules}
use Rattle.moka_hist.specs.declared.events.Start.{Start}
use Rattle.moka_hist.specs.declared.events.Start.TheVariants as start
use Rattle.moka_hist.specs.declared.events.Told.{Told}
use Rattle.moka_hist.specs.declared.events.Told.TheVariants as answer
use Rattle.moka_hist.specs.declared.loads.Load.{Load}
use Rattle.moka_hist.specs.declared.loads.Sought.{Sought}
use Rattle.moka_hist.specs.declared.loads.Kind.TheVariants as kind
use Rattle.moka_hist.specs.declared.records.Stored.{Stored}
use Rattle.moka_hist.specs.declared.replies.Answer.{Answer}
use Rattle.moka_hist.specs.declared.replies.Answer.TheVariants as reply
use Rattle.moka_hist.specs.declared.visits.Settled.{Settled}
use Rattle.moka_hist.specs.declared.visits.Settled.TheVariants as settled
use Rattle.moka_hist.specs.declared.visits.Found.TheVariants as found
use Rattle.moka_laws.specs.Answered.{StoredIsCommitted}
use Rattle.moka_laws.specs.Starts.{has_put, is_done, is_fresh, says_stored}
use Rattle.moka_laws.proofs.Counting.{differ, none_some, some_same, put_cases, put_here, put_there, same_number}
use Rattle.moka_laws.proofs.Weights.{weigh, weigh_call}
use Rattle.moka_laws.proofs.Balance.{times_last}
use Rattle.moka_laws.proofs.OnePlace.{times_contains}
use Rattle.moka_laws.proofs.Owning.{plan_left}
use Rattle.moka_laws.proofs.Roles.{IsLast}
use Rattle.moka_laws.proofs.Safe.{IsWell, in_well, well_kept}
use Rattle.moka_laws.proofs.Rules.{shown_next, put_plans, loaded_plans_by, put_plans, read_key_next, told_op_next_by}
use Rattle.moka_hist.specs.Entries.{unchanged, put_answer, removed_value}
use Rattle.moka_laws.proofs.Starting.{begins_so, from_start}
use Rattle.moka_laws.proofs.Steady.{rules_stable, step_calls, step_commits, step_last, step_rules}
use Rattle.moka_laws.proofs.Kept.{IsStable}
use Rattle.moka_laws.proofs.StepCases.{OnStep, step_cases}
use Rattle.moka_laws.proofs.Outcomes.{Outcomes, outcomes, passes_on}
use Rattle.moka_hist.specs.declared.loads.Compute.{Compute}
use Rattle.moka_hist.specs.Computing.{after_told_op, after_read_key}
use Rattle.moka_laws.proofs.Walks.{weigh_finds, weigh_retiring}
use Rattle.moka_hist.specs.Maintenance.{carrying}

-- 1 where the answer of a call that was started for this says that it has stored a value
abbrev stored : {K V E : Type 0} → Start K V → Answer K V E → ℕ
stored begun a = cond (says_stored begun a) 1 0

counts : (says : Bool) → says ≡ true → cond {A = ℕ} says 1 0 ≡ 1
counts says e = ap (λ b. cond {A = ℕ} b 1 0) e

at_most_once : (says : Bool) → cond {A = ℕ} says 1 0 ≤ 1
at_most_once true = omega arith
at_most_once false = omega arith

stores_once : {K V E : Type 0} (begun : Start K V) (a : Answer K V E) → stored begun a ≤ 1
stores_once begun a = at_most_once (says_stored begun a)

-- an answer that no call gives which has stored a value counts nothing, whatever its call
stores_none : {K V E : Type 0} (begun : Start K V) (a : Answer K V E) → is_done a ≡ false →
    is_fresh a ≡ false → has_put a ≡ false → stored begun a ≡ 0
stores_none begun a done fresh put = ap (λ b. cond {A = ℕ} b 1 0) (by begun)
  where
    by : (begun : Start _ _) → says_stored begun a ≡ false
    by (start.Insert key value) = done
    by (start.GetWith key replace) = fresh
    by (start.Optional key) = fresh
    by (start.Try key) = fresh
    by (start.OrInsert key value) = fresh
    by (start.Compute key) = put
    by (start.TryCompute key) = put
    by (start.ComputeAlone key) = put
    by (start.Upsert key) = put
    by _ = refl

same_answer : {K V E : Type 0} (a b : Answer K V E) → ◌≡◌ {A = Turn K V E} (turns.Answer a)
    (turns.Answer b) → a ≡ b
same_answer a b e = cc

unchanged_stores : {K V : Type 0} (E : Type 0) (begun : Start K V) (key : K)
    (pair : Option (K × V)) → stored begun (unchanged {E = E} key pair) ≡ 0
unchanged_stores E begun key None = stores_none begun _ refl refl refl
unchanged_stores E begun key (Some pair) = stores_none begun _ refl refl refl

registering_stores : {K V : Type 0} (E : Type 0) (begun : Start K V) (registering : Result ℕ PredicateError) →
    stored begun (registering_answer {E = E} registering) ≡ 0
registering_stores E begun (Ok id) = stores_none begun _ refl refl refl
registering_stores E begun (Err refused.InvalidationClosuresDisabled) = stores_none begun _ refl refl refl
registering_stores E begun (Err refused.NoId) = stores_none begun _ refl refl refl
registering_stores E begun (Err refused.Memory) = stores_none begun _ refl refl refl

-- 1 where a call was started to take a record out so
abbrev for_out : {K : Type 0} → Removal K → ℕ
for_out (plan.To_remove_as_told key) = 0
for_out _ = 1

module _ {K V E : Type 0} where
  -- the item makes a write
  abbrev makes : Item K V E → ℕ
  makes (plan.Moment (plan.To_store key value)) = 1
  makes (plan.Write key value moment) = 1
  makes _ = 0

  -- the item takes a record out, or is to, for which the call was started
  abbrev takes : Item K V E → ℕ
  takes (plan.Moment (plan.To_take_out removal key)) = for_out removal
  takes (plan.Out removal key) = for_out removal
  takes (plan.Get (plan.To_evict key stamp cause) at) = 1
  takes (plan.Judge (plan.To_evict key stamp cause) at found) = 1
  takes (plan.Holds key stamp cause there found) = 1
  takes _ = 0

module _ {K V E : Type 0} (begun : Start K V) where
  -- the item answers that a value was stored
  abbrev says : Item K V E → ℕ
  says (plan.Reply a) = stored begun a
  says (plan.Candidates parts) = stored {K = K} {V = V} {E = E} begun reply.Done
  says plan.Retire = stored {K = K} {V = V} {E = E} begun reply.Done
  says _ = 0

  -- the lists of a walk that carries predicates say what its end does
  lists_say : (rest : List (Item K V E)) (part left : ℕ) → weigh says (lists_from part left rest) ≡ weigh says rest
  lists_say rest part zero = refl
  lists_say rest part (suc left) = let h = lists_say rest (part + 1) left in omega (arith, h)

  -- the plan, once so often was committed: it says that a value was stored only where it has made a
  -- write or is to make one, and it takes nothing out
  record Stores (committed : ℕ) (p : List (Item K V E)) : Type 0 where
    says : weigh says p ≤ weigh makes p + committed
    plain : weigh takes p ≡ 0

  -- How the call goes on, once it has committed so often: it says that it has stored a value only
  -- where it has made a write or is to make one.
  record Says (committed : ℕ) (next : Next K V E) : Type 0 where
    left : weigh_call says next.left ≤ weigh_call makes next.left + committed
    plain : weigh_call takes next.left ≡ 0
    now : (a : Answer K V E) → next.turn ≡ turns.Answer a → stored begun a ≤ committed

  module _ (k : ℕ) where
    goes_says : (c : Call K V E) (rest : List (Item K V E)) → weigh says rest ≤ weigh makes rest + k →
        weigh takes rest ≡ 0 → Says k (goes c rest)
    goes_says c (plan.Reply a ∷ []) h t = record {
      left = omega arith;
      plain = refl;
      now = λ b e. omega
          (arith, h, ap (stored begun) (same_answer a b e));
    }
    goes_says c _ h t = record { left = h; plain = t; now = λ b e. cc }

    -- the call has its plan still
    stays_says : (c : Call K V E) (next : Next K V E) → next.left ≡ Some c →
        ((a : Answer K V E) → next.turn ≡ turns.Answer a → ⊥) → Stores k c.plan → Says k next
    stays_says c next is going p = record {
      left = subst (λ v. weigh_call says v ≤ weigh_call makes v + k) (sym is) p.says;
      plain = subst (λ v. weigh_call takes v ≡ 0) (sym is) p.plain;
      now = λ b e. absurd (going b e);
    }

    misses_says : (c : Call K V E) (aim : Aim K V) (key : K) → takes {E = E} (plan.Get aim key) ≡ 0 → Says k
        (misses c aim)
    misses_says c (plan.To_show form) key t = record {
      left = omega arith;
      plain = refl;
      now = λ b e. omega (
        arith,
        ap (stored begun) (same_answer (shown form None) b e),
        shown_next {V = V} {E = E} (λ a. stored begun a ≡ 0) form None
            (stores_none {E = E} begun (reply.Found None) refl refl refl)
            (λ under. unchanged_stores E begun under None),
      );
    }
    misses_says c (plan.To_insert under new) key t =
        let once = stores_once {E = E} begun (reply.Loaded new true) in
        put_plans (λ q. Says k (goes c q)) c.rules under new _
        (record { left = omega (arith, once); plain = refl; now = λ b e. cc })
        (record { left = omega (arith, once); plain = refl; now = λ b e. cc })
    misses_says c (plan.To_evict own stamp cause) key t = absurd (omega (arith, t))
    misses_says c _ key t = record
        { left = omega arith; plain = refl; now = λ b e. cc }

    finds_says : (c : Call K V E) (aim : Aim K V) (key there : K) (found : Stored V) → takes {E = E}
        (plan.Get aim key) ≡ 0 → Says k (finds_pair c aim there found)
    finds_says c (plan.To_evict own stamp cause) key there found t = absurd (omega (arith, t))
    finds_says c _ key there found t = record
        { left = omega arith; plain = refl; now = λ b e. cc }

    hits_says : (c : Call K V E) (aim : Aim K V) (key : K) (found : Stored V) → takes {E = E}
        (plan.Judge aim key found) ≡ 0 → Says k (hits c aim key found.value)
    hits_says c (plan.To_show form) key found t =
        record {
          left = omega arith;
          plain = refl;
          now = λ b e. omega (
            arith,
            ap (stored begun) (same_answer (shown form (Some (key, found.value))) b e),
            shown_next {V = V} {E = E} (λ a. stored begun a ≡ 0) form (Some (key, found.value))
                (stores_none {E = E} begun (reply.Found (Some found.value)) refl refl refl)
                (λ under. unchanged_stores E begun under (Some (key, found.value))),
          );
        }
    hits_says c (plan.To_own sought) key found t =
        let none = stores_none {E = E} begun (reply.Loaded found.value false) refl refl refl in
        record { left = omega (arith, none); plain = refl; now = λ b e. cc }
    hits_says c (plan.To_compute compute) key found t = record
        { left = omega arith; plain = refl; now = λ b e. cc }
    hits_says c (plan.To_evict own stamp cause) key found t = absurd (omega (arith, t))
    hits_says c _ key found t =
        record {
          left = omega arith;
          plain = refl;
          now = λ b e. omega
              (arith, ap (stored begun) (same_answer (reply.Loaded found.value false) b e), stores_none {E = E} begun (reply.Loaded found.value false) refl refl refl);
        }

    -- the record that was judged is not seen
    unseen_says : (c : Call K V E) (aim : Aim K V) (key : K) (found : Stored V) →
        takes {E = E} (plan.Judge aim key found) ≡ 0 → Says k (misses c aim)
    unseen_says c (plan.To_evict own stamp cause) key found t = absurd (omega (arith, t))
    unseen_says c (plan.To_show form) key found t = misses_says c (plan.To_show form) key t
    unseen_says c (plan.To_insert under new) key found t =
        misses_says c (plan.To_insert under new) key t
    unseen_says c (plan.To_load sought) key found t = misses_says c (plan.To_load sought) key t
    unseen_says c (plan.To_own sought) key found t = misses_says c (plan.To_own sought) key t
    unseen_says c (plan.To_compute compute) key found t =
        misses_says c (plan.To_compute compute) key t

    read_says : (c : Call K V E) (sought : Sought K) (with : Settled V E) → Stores k c.plan → Says k
        (after_read c sought (found.ReadSettled with))
    read_says c sought (settled.Ready value) p =
        record {
          left = omega arith;
          plain = refl;
          now = λ b e. omega
              (arith, ap (stored begun) (same_answer (reply.Loaded value false) b e), stores_none {E = E} begun (reply.Loaded value false) refl refl refl);
        }
    read_says c sought (settled.Err error) p =
        record {
          left = omega arith;
          plain = refl;
          now = λ b e. omega
              (arith, ap (stored begun) (same_answer (reply.InitErr error) b e), stores_none {E = E} begun (reply.InitErr error) refl refl refl);
        }
    read_says c sought settled.Nothing p =
        record {
          left = omega arith;
          plain = refl;
          now = λ b e. omega
              (arith, ap (stored begun) (same_answer reply.Nothing b e), stores_none {E = E} begun reply.Nothing refl refl refl);
        }
    read_says c sought settled.NotYet p = record { left = p.says; plain = p.plain; now = λ b e. cc }
    read_says c sought settled.Aborted p = by (c.aborts + 1 == retries) refl
      where
        by : (b : Bool) → (c.aborts + 1 == retries) ≡ b → Says k (after_abort c sought)
        by true e = rw e (record {
          left = omega arith;
          plain = refl;
          now = λ b e. omega
              (arith, ap (stored begun) (same_answer reply.RetriesExhausted b e), stores_none {E = E} begun reply.RetriesExhausted refl refl refl);
        })
        by false e = rw e (record { left = omega arith; plain = refl; now = λ b e. cc })

    read_key_says : (c : Call K V E) (compute : Compute K) (with : Settled V E) → Stores k c.plan →
        Says k (after_read_key c compute (found.ReadSettled with))
    read_key_says c compute with p = read_key_next (λ v. Says k v) c compute with
        (record { left = p.says; plain = p.plain; now = λ b e. cc })
        (record
        { left = omega arith; plain = refl; now = λ b e. cc })

    told_says : (c : Call K V E) (load : Load K) (given : Told V E) → is_disabled c.rules ≡ false →
        Stores k c.plan →
        Says k (after_told c load (found.TakeTold (Some given)))
    told_says c load (answer.Value value) able p =
        let once = stores_once {E = E} begun (reply.Loaded value true) in
        loaded_plans_by (λ q. Says k (goes c q)) c.rules load value
        (λ disabled. absurd (false≢true (sym able ∙ disabled)))
        (λ e off. record { left = omega (arith, once); plain = refl; now = λ b e. cc })
        (λ e on. record { left = omega (arith, once); plain = refl; now = λ b e. cc })
    told_says c load answer.Nothing able p =
        let none = stores_none {E = E} begun reply.Nothing refl refl refl in
        record { left = omega (arith, none); plain = refl; now = λ b e. cc }
    told_says c load (answer.Err error) able p =
        let none = stores_none {E = E} begun (reply.InitErr error) refl refl refl in
        record { left = omega (arith, none); plain = refl; now = λ b e. cc }
    told_says c load _ able p = record { left = p.says; plain = p.plain; now = λ b e. cc }

    told_op_says : (c : Call K V E) (compute : Compute K) (pair : Option (K × V))
        (given : Told V E) → is_disabled c.rules ≡ false → Stores k c.plan →
        Says k (after_told_op c compute pair (found.TakeTold (Some given)))
    told_op_says c compute pair given able p = told_op_next_by (Says k) c compute pair given
        (record {
          left = omega (arith, unchanged_stores E begun compute.key pair);
          plain = refl;
          now = λ b e. cc;
        })
        (λ error f. record {
          left = omega (arith, stores_none {E = E} begun (reply.ComputeErr error) refl refl refl);
          plain = refl;
          now = λ b e. cc;
        })
        (λ value disabled. absurd (false≢true (sym able ∙ disabled)))
        (λ value yes off. record {
          left = omega (arith, stores_once begun (put_answer {E = E} compute.key pair value));
          plain = refl;
          now = λ b e. cc;
        })
        (λ value yes on. record {
          left = omega (arith, stores_once begun (put_answer {E = E} compute.key pair value));
          plain = refl;
          now = λ b e. cc;
        })
        (λ off. record { left = omega arith; plain = refl; now = λ b e. cc })
        (λ on. record { left = omega arith; plain = refl; now = λ b e. cc })
        (λ lost. record { left = p.says; plain = p.plain; now = λ b e. cc })

  module _ (eq : K → K → Bool) (w : World K V E) (n : ℕ) (c : Call K V E)
      (able : is_disabled c.rules ≡ false) where
    -- how the call goes on, by what it has committed then
    abbrev After : World K V E → Next K V E → Type 0
    After new next = Says (times n new.table.committed) next

    on_item : (item : Item K V E) (rest : List (Item K V E)) → IsLast (item ∷ rest) → Stores
        (times n w.table.committed) c.plan →
        Stores (times n w.table.committed) (item ∷ rest) → Outcomes eq After w n c item rest
    on_item plan.Drain rest l p q = (
      λ e. goes_says _ c rest (omega (arith, q.says)) (omega (arith, q.plain)),
      λ x xs e. record {
        left = omega (arith, q.says);
        plain = omega (arith, q.plain);
        now =
            λ b e. cc;
      },
      λ x number xs e. record {
        left = omega (arith, q.says);
        plain = omega (arith, q.plain);
        now =
            λ b e. cc;
      },
    )
    on_item (plan.Notice key old cause upsert) rest l p q = (
      λ e. goes_says _ c rest (omega (arith, q.says)) (omega (arith, q.plain)),
      λ e. record { left = omega (arith, q.says); plain = omega (arith, q.plain); now = λ b e. cc },
    )
    on_item (plan.Post write) rest l p q = (
      λ e. goes_says _ c rest (omega (arith, q.says)) (omega (arith, q.plain)),
      λ e. record { left = omega (arith, q.says); plain = omega (arith, q.plain); now = λ b e. cc },
    )
    on_item plan.Apply rest l p q = (
      λ e. goes_says _ c rest (omega (arith, q.says)) (omega (arith, q.plain)),
      λ x xs e. record {
        left = omega (arith, q.says);
        plain = omega (arith, q.plain);
        now =
            λ b e. cc;
      },
    )
    on_item (plan.Get aim key) rest l p q = (
      λ more. record { left = p.says; plain = p.plain; now = λ b e. cc },
      λ none. misses_says _ c aim key (omega (arith, q.plain)),
      λ there found some. finds_says _ c aim key there found (omega (arith, q.plain)),
    )
    on_item (plan.Judge aim key found) rest l p q = (
      λ seen. hits_says _ c aim key found (omega (arith, q.plain)),
      λ unseen. unseen_says _ c aim key found (omega (arith, q.plain)),
    )
    on_item (plan.Own sought) rest l p q = (
      λ yes e. record { left = omega arith; plain = refl; now = λ b e. cc },
      λ no e. record { left = omega arith; plain = refl; now = λ b e. cc },
      λ owner e. record { left = omega arith; plain = refl; now = λ b e. cc },
    )
    on_item (plan.Own_key compute) rest l p q = (
      (
        (λ yes e. record { left = omega arith; plain = refl; now = λ b e. cc }),
        λ no e. record { left = omega arith; plain = refl; now = λ b e. cc },
      ),
      λ owner e. record { left = omega arith; plain = refl; now = λ b e. cc },
    )
    on_item (plan.Own_alone key) rest l p q = let none = unchanged_stores E begun key None in (
      (
        (λ yes e. record { left = omega arith; plain = refl; now = λ b e. cc }),
        λ no e. record { left = omega arith; plain = refl; now = λ b e. cc },
      ),
      λ owner e. (
        (λ able. record { left = omega (arith, none); plain = refl; now = λ b e. cc }),
        λ not. record { left = omega (arith, none); plain = refl; now = λ b e. cc },
      ),
    )
    on_item (plan.Read sought) rest l p q = (
      λ e. record { left = p.says; plain = p.plain; now = λ b e. cc },
      λ with e. read_says _ c sought with p,
    )
    on_item (plan.Read_key compute) rest l p q = (
      λ e. record { left = p.says; plain = p.plain; now = λ b e. cc },
      λ with e. read_key_says _ c compute with p,
    )
    on_item (plan.Ask load) rest l p q = record
        { left = omega arith; plain = refl; now = λ b e. cc }
    on_item (plan.Ask_op compute pair) rest l p q = record
        { left = omega arith; plain = refl; now = λ b e. cc }
    on_item (plan.Told load) rest l p q = (
      λ e. record { left = p.says; plain = p.plain; now = λ b e. cc },
      λ given e. told_says _ c load given able p,
    )
    on_item (plan.Told_op compute pair) rest l p q = (
      λ e. record { left = p.says; plain = p.plain; now = λ b e. cc },
      λ given e. told_op_says _ c compute pair given able p,
    )
    on_item (plan.Holds key stamp cause there found) rest l p q = absurd (omega (arith, q.plain))
    on_item (plan.Moment (plan.To_store key value)) rest l p q =
        record { left = omega (arith, q.says); plain = omega (arith, q.plain); now = λ b e. cc }
    on_item (plan.Moment (plan.To_take_out removal key)) rest l p q =
        record { left = omega (arith, q.says); plain = omega (arith, q.plain); now = λ b e. cc }
    on_item (plan.Write key value moment) rest l p q = (
      λ more. record { left = p.says; plain = p.plain; now = λ b e. cc },
      λ off old. record {
        left = omega (arith, q.says, one);
        plain = omega (arith, q.plain);
        now =
            λ b e. cc;
      },
      λ on. record {
        left = omega (arith, q.says, one);
        plain = omega (arith, q.plain);
        now =
            λ b e. cc;
      },
      λ k old on some. record {
        left = omega (arith, q.says, one);
        plain = omega (arith, q.plain);
        now = λ b e. cc;
      },
    )
      where
        one : times n (w.table.committed ++ n ∷ []) ≡ times n w.table.committed + 1
        one = omega (arith, times_last n n w.table.committed, ap (λ b. cond {A = ℕ} b 1 0) (same_number n))
    on_item (plan.Out (plan.To_remove_as_told own) key) rest l p q = (
      (λ more. record { left = p.says; plain = p.plain; now = λ b e. cc }),
      (λ off none. record { left = omega (arith, missed); plain = refl; now = λ b e. cc }),
      (λ on none. record { left = omega (arith, missed); plain = refl; now = λ b e. cc }),
      (λ k old off some. record {
        left = omega (arith, taken old);
        plain = refl;
        now = λ b e. cc;
      }),
      λ k old on some. record {
        left = omega (arith, taken old);
        plain = refl;
        now = λ b e. cc;
      },
    )
      where
        missed : stored begun (unchanged {E = E} own None) ≡ 0
        missed = unchanged_stores E begun own None

        taken : (old : Stored V) → stored begun (removed_value {E = E} own old.value) ≡ 0
        taken old = stores_none {E = E} begun (removed_value own old.value) refl refl refl
    on_item (plan.Out plan.To_invalidate key) rest l p q = absurd (omega (arith, q.plain))
    on_item (plan.Out plan.To_remove key) rest l p q = absurd (omega (arith, q.plain))
    on_item (plan.Out (plan.To_evict_chosen stamp cause) key) rest l p q =
        absurd (omega (arith, q.plain))
    on_item (plan.List_keys part) rest l p q = (
      (λ more. record { left = p.says; plain = p.plain; now = λ b e. cc }),
      λ listed keys is gives. goes_says _ c (map plan.Find keys ++ rest)
          (omega (arith, q.says, weigh_finds {E = E} says (λ key. refl) keys rest, weigh_finds {E = E} makes (λ key. refl) keys rest))
          (omega (arith, q.plain, weigh_finds {E = E} takes (λ key. refl) keys rest)),
    )
    on_item (plan.Find key) rest l p q = (
      (λ more. record { left = p.says; plain = p.plain; now = λ b e. cc }),
      (λ none. goes_says _ c rest (omega (arith, q.says)) (omega (arith, q.plain))),
      (λ k stored some none. record { left = omega (arith, q.says); plain = omega (arith, q.plain); now = λ b e. cc }),
      λ k stored ids some is. record { left = omega (arith, q.says); plain = omega (arith, q.plain); now = λ b e. cc },
    )
    on_item (plan.Scan there stored) rest l p q = (
      (λ seen. record { left = omega (arith, q.says); plain = omega (arith, q.plain); now = λ b e. cc }),
      λ unseen. goes_says _ c rest (omega (arith, q.says)) (omega (arith, q.plain)),
    )
    on_item (plan.Register test) rest l p q = record {
      left = omega arith;
      plain = refl;
      now = λ b e. omega
          (arith, registering_stores E begun (registering w.desk), ap (stored begun) (same_answer _ b e));
    }
    on_item (plan.Candidates parts) rest l p q =
        let alone = subst (λ v. weigh says (plan.Candidates parts ∷ v) ≤ weigh makes
        (plan.Candidates parts ∷ v) + times n w.table.committed) l q.says in (
          (λ none. record {
            left = omega arith;
            plain = refl;
            now = λ b e. omega (arith, alone, ap (stored begun) (same_answer reply.Done b e));
          }),
          λ id more some. goes_says _ (carrying c (id ∷ more)) (lists_from 0 parts (plan.Retire ∷ []))
              (omega (arith, alone, lists_say (plan.Retire ∷ []) 0 parts)) (weigh_retiring takes (λ part. refl) refl parts),
        )
    on_item (plan.Strike there stored) rest l p q = goes_says _ (carrying c _) rest (omega (arith, q.says)) (omega (arith, q.plain))
    on_item plan.Retire rest l p q =
        let alone = subst (λ v. weigh says (plan.Retire ∷ v) ≤ weigh makes (plan.Retire ∷ v) + times n w.table.committed) l q.says in
        record { left = omega arith; plain = refl; now = λ b e. omega (arith, alone, ap (stored begun) (same_answer reply.Done b e)) }
    on_item (plan.Reply a) rest l p q =
        let alone = subst (λ v. weigh says (plan.Reply a ∷ v) ≤ weigh makes
        (plan.Reply a ∷ v) + times n w.table.committed) l q.says in
        record {
          left = omega arith;
          plain = refl;
          now = λ b e. omega
              (arith, alone, ap (stored begun) (same_answer a b e));
        }
    on_item item rest l p q = passes_on eq After w n c item rest tt
        (λ d. goes_says _ c rest (omega (arith, q.says)) (omega (arith, q.plain)))
        (record { left = p.says; plain = p.plain; now = λ b e. cc })

    on_plan : (plan : List (Item K V E)) → c.plan ≡ plan → IsLast c.plan → Stores
        (times n w.table.committed) c.plan → OnStep eq After w n c plan
    on_plan [] e l p = record { left = p.says; plain = p.plain; now = λ b e. cc }
    on_plan (item ∷ rest) e l p = outcomes eq After w n c item rest
        (on_item item rest (subst IsLast e l) p (subst (Stores (times n w.table.committed)) e p))

module _ {K V E : Type 0} (eq : K → K → Bool) (begun : Start K V) (n : ℕ) where
  -- the call of this number, started so on a cache that is not disabled, stores a value where it says
  -- so
  record IsSaying (s : State K V E) : Type 0 where
    well : IsWell eq s
    able : is_disabled s.world.desk.rules ≡ false
    born : n ≤ s.world.desk.last
    says : (c : Call K V E) → s.calls n ≡ Some c → Stores begun (times n s.world.table.committed) c.plan

  last_of : (s : State K V E) (c : Call K V E) → IsWell eq s → s.calls n ≡ Some c → IsLast c.plan
  last_of s c well live = subst (λ v. IsLast (plan_left v)) live (well.served.fits n).last

  able_call : (s : State K V E) (c : Call K V E) → IsSaying s → s.calls n ≡ Some c →
      is_disabled c.rules ≡ false
  able_call s c i live = ap is_disabled (i.well.replacing.locking.rules n c live) ∙ i.able

  -- what a step of this call leaves
  own_step : (s t : State K V E) (turn : Turn K V E) → IsSaying s → (step : Step eq s n turn t) →
      ((c : Call K V E) → t.calls n ≡ Some c → Stores begun (times n t.world.table.committed) c.plan) ×
      ((a : Answer K V E) → turn ≡ turns.Answer a → stored begun a ≤ times n t.world.table.committed)
  own_step s t turn i step =
      step_cases eq (λ w next. Says begun (times n w.table.committed) next)
      (λ v r. ((c : Call K V E) → v.calls n ≡ Some c → Stores begun
      (times n v.world.table.committed) c.plan) ×
      ((a : Answer K V E) → r ≡ turns.Answer a → stored begun a ≤
      times n v.world.table.committed)) s t n turn step
      (on_plan begun eq s.world n step.call (able_call s step.call i step.live) step.call.plan refl
      (last_of s step.call i.well step.live)
      (i.says step.call step.live))
      (λ w next l. (
        λ c live.
            let is : next.left ≡ Some c = sym (put_here s.calls n next.left) ∙ live in
            record {
              says = subst
                  (λ v. weigh_call (says begun) v ≤
                  weigh_call makes v + times n w.table.committed) is l.left;
              plain = subst (λ v. weigh_call takes v ≡ 0) is l.plain;
            },
        l.now,
      ))

  saying_step : (s t : State K V E) (m : ℕ) (turn : Turn K V E) → IsSaying s → Step eq s m turn t →
      IsSaying t
  saying_step s t m turn i step = record {
    well = (well_kept eq).step s t m turn i.well step;
    able = ap is_disabled (step_rules eq s t m turn step) ∙ i.able;
    born = omega (arith, i.born, step_last eq s t m turn step);
    says = by (m == n) refl;
  }
    where
      by : (b : Bool) → (m == n) ≡ b → (c : Call K V E) → t.calls n ≡ Some c → Stores begun
          (times n t.world.table.committed) c.plan
      by true e = (own_step s t turn i (subst (λ v. Step eq s v turn t) (eqb-true m n e) step)).0
      by false e = λ c live.
          subst (λ v. Stores begun v c.plan) (sym (step_commits eq s t m n turn e step))
          (i.says c (sym (step_calls eq s t m n turn e step) ∙ live))

  -- another call is started
  other_start : (s : State K V E) (start : Start K V) (c : Call K V E) → n ≤ s.world.desk.last →
      (started s start).calls n ≡ Some c → s.calls n ≡ Some c
  other_start s start c born live =
      sym (put_there s.calls (s.world.desk.last + 1) _ n
      (differ (s.world.desk.last + 1) n (λ e. omega (arith, born, e)))) ∙ live

  saying_stable : IsStable eq IsSaying
  saying_stable = record {
    at = λ s moment i. record {
      well = (well_kept eq).at s moment i.well;
      able = i.able;
      born =
          i.born;
      says = i.says;
    };
    start = λ s start i. record {
      well = (well_kept eq).start s start i.well;
      able = i.able;
      born = omega (arith, i.born);
      says = λ c live. i.says c (other_start s start c i.born live);
    };
    step = saying_step;
    tell = λ s m given asked i. record {
      well = (well_kept eq).tell s m given asked i.well;
      able =
          i.able;
      born = i.born;
      says = i.says;
    };
    hear = λ s m off running i. record {
      well = (well_kept eq).hear s m off running i.well;
      able =
          i.able;
      born = i.born;
      says = i.says;
    };
    drop = λ s m c live between i. record {
      well = (well_kept eq).drop s m c live between i.well;
      able = i.able;
      born = i.born;
      says = λ d lives. put_cases s.calls m None n (Some d)
          (Stores begun (times n s.world.table.committed) d.plan) lives
          (λ here is. absurd (none_some is)) (λ there is. i.says d is);
    };
  }

module _ {K V E : Type 0} (eq : K → K → Bool) where
  load_stores : (begun : Start K V) (rules : Rules) (sought : Sought K) → is_disabled rules ≡ false →
      Stores {E = E} begun 0 (load_plan (is_disabled rules) sought)
  load_stores begun rules sought able =
      subst (λ b. Stores {E = E} begun 0 (load_plan b sought)) (sym able)
      (record { says = omega arith; plain = refl })

  -- what an insert or a load is to do on a cache that is not disabled
  fresh_stores : (parts : ℕ) (rules : Rules) (s : Start K V) (a : Answer K V E) → is_disabled rules ≡ false →
      says_stored s a ≡ true → Stores {E = E} s 0 (plan_of parts rules s)
  fresh_stores parts rules (start.Insert key value) a able e =
      subst (λ b. Stores {E = E} (start.Insert key value) 0 (insert_plan b rules key value))
      (sym able)
      (put_plans (Stores {E = E} (start.Insert key value) 0) rules key value (plan.Reply reply.Done ∷ [])
      (record { says = omega arith; plain = refl })
      (record { says = omega arith; plain = refl }))
  fresh_stores parts rules (start.GetWith key replace) a able e =
      load_stores (start.GetWith key replace) rules (seek kind.GetWith key replace) able
  fresh_stores parts rules (start.Optional key) a able e =
      load_stores (start.Optional key) rules (seek kind.Optional key None) able
  fresh_stores parts rules (start.Try key) a able e =
      load_stores (start.Try key) rules (seek kind.Try key None) able
  fresh_stores parts rules (start.OrInsert key value) a able e =
      subst (λ b. Stores {E = E} (start.OrInsert key value) 0 (or_insert_plan b key value)) (sym able)
      (record { says = omega arith; plain = refl })
  fresh_stores parts rules (start.Compute key) a able e = record { says = omega arith; plain = refl }
  fresh_stores parts rules (start.TryCompute key) a able e = record { says = omega arith; plain = refl }
  fresh_stores parts rules (start.ComputeAlone key) a able e = record { says = omega arith; plain = refl }
  fresh_stores parts rules (start.Upsert key) a able e = record { says = omega arith; plain = refl }
  fresh_stores parts rules _ a able e = absurd (false≢true e)

  pub stored_committed : StoredIsCommitted K V E eq
  stored_committed s t start n a w able step says =
      let i : IsSaying eq start n s = subst (λ v. IsSaying eq start v s) (sym (begins_so eq start n s w).0)
      (from_start eq start n s w (IsSaying eq start (w.before.world.desk.last + 1))
      (saying_stable eq start (w.before.world.desk.last + 1)) begun) in
      let enough : stored start a ≤ times n t.world.table.committed =
      (own_step eq start n s t (turns.Answer a) i step).1 a refl in
      times_contains n t.world.table.committed (omega (arith, enough, counts (says_stored start a) says))
    where
      new : ℕ
      new = w.before.world.desk.last + 1

      was_able : is_disabled w.before.world.desk.rules ≡ false
      was_able =
          ap is_disabled (sym (from_start eq start n s w (λ v. v.world.desk.rules ≡
          w.before.world.desk.rules) (rules_stable eq w.before.world.desk.rules) refl)) ∙
          able

      begun : IsSaying eq start (w.before.world.desk.last + 1) (started w.before start)
      begun = record {
        well = (well_kept eq).start w.before start (in_well eq w.before w.reached);
        able = was_able;
        born = omega arith;
        says = λ c live.
            let is : fresh_call w.before.world.table.division.parts w.before.world.desk.rules start ≡ c = some_same
            (sym (put_here w.before.calls (w.before.world.desk.last + 1) _) ∙ live) in
            let f = fresh_stores w.before.world.table.division.parts w.before.world.desk.rules start a was_able says in
            subst (λ (d : Call K V E). Stores start
            (times (w.before.world.desk.last + 1) w.before.world.table.committed) d.plan) is
            (record { says = omega (arith, f.says); plain = f.plain });
      }
