-- A call holds a lock exactly between its locking and its freeing, where a listener is set.
use Rattle.std.proofs.Common.{◌≡◌, ℕ, ◌+◌, ◌==◌, Bool, true, false, cond, List, [], ◌∷◌, Option, Some, None, is_some, IsSome, IsNone, refl, sym, ap, ◌∙◌, subst, arith, map, ◌++◌}
use Rattle.std.proofs.lemmas.Bool.{eqb-true, false≢true}
use Rattle.std.specs.Prelude.{◌↔◌}
use Rattle.moka_hist.specs.declared.replies.Answer.TheVariants as reply
use Rattle.moka_hist.specs.Finite.{put_at}
use Rattle.moka_hist.specs.State.{State, World, Call, DeskPart}
use Rattle.moka_hist.specs.Plan.{end_load, Item, Aim, Removal, plan_of, told_on, lists_from}
use Rattle.moka_hist.specs.Plan as plan
use Rattle.moka_hist.specs.Next.{Next, goes}
use Rattle.moka_hist.specs.Looking.{hits, misses, keeps as stays, finds_pair}
use Rattle.moka_hist.specs.Loading.{after_read, after_told, retries}
use Rattle.moka_hist.specs.Notices.{IsUnderLock, HoldsLock}
use Rattle.moka_hist.specs.Step.{Step}
use Rattle.moka_hist.specs.Run.{IsReached, started, fresh_call}
use Rattle.moka_hist.specs.declared.events.Start.{Start}
use Rattle.moka_hist.specs.declared.events.Told.{Told}
use Rattle.moka_hist.specs.declared.events.Told.TheVariants as answer
use Rattle.moka_hist.specs.declared.records.Stored.{Stored}
use Rattle.moka_hist.specs.declared.replies.Answer.{Answer}
use Rattle.moka_hist.specs.declared.loads.Load.{Load}
use Rattle.moka_hist.specs.declared.loads.Sought.{Sought}
use Rattle.moka_hist.specs.declared.rules.Rules.{Rules}
use Rattle.moka_hist.specs.declared.visits.Settled.{Settled}
use Rattle.moka_hist.specs.declared.visits.Settled.TheVariants as settled
use Rattle.moka_hist.specs.declared.visits.Found.TheVariants as found
use Rattle.moka_hist.specs.declared.accesses.Turn.{Turn}
use Rattle.moka_laws.specs.Listening.{changed_key, locked_key}
use Rattle.moka_laws.proofs.Counting.{none_some, some_same, put_cases, put_here, put_there}
use Rattle.moka_laws.proofs.Weights.{weigh}
use Rattle.moka_laws.proofs.Balance.{IsBalanced}
use Rattle.moka_laws.proofs.Balanced.{balanced_kept, next_free}
use Rattle.moka_laws.proofs.Owning.{plan_left}
use Rattle.moka_laws.proofs.Rules.{put_plans_by, loaded_plans_by, kept_next, chosen_by, IsFresh, Puts, Locks_and_puts, Takes_out, Locks_and_takes_out, Evicts, Locks_and_evicts, fresh_plan, read_key_next, told_op_next, Walks_over}
use Rattle.moka_laws.proofs.Kept.{IsInvariant, in_reached}
use Rattle.moka_laws.proofs.StepCases.{OnStep, step_cases}
use Rattle.moka_laws.proofs.Outcomes.{Outcomes, outcomes}
use Rattle.moka_hist.specs.declared.loads.Compute.{Compute}
use Rattle.moka_hist.specs.Computing.{after_told_op, after_read_key}
use Rattle.moka_hist.specs.Entries.{put_answer}
use Rattle.moka_hist.specs.Computing.{end_compute}
use Rattle.moka_hist.specs.Writing.{cause_handed, nothing_answer, removed_answer}
use Rattle.moka_hist.specs.declared.writes.Write.TheVariants.{Remove}
use Rattle.moka_laws.proofs.Rules.{said_next}
use Rattle.moka_laws.proofs.Walks.{weigh_walk, weigh_finds, walk_is_walk, weigh_retiring}
use Rattle.moka_hist.specs.Maintenance.{carrying}

true_false : true ≡ false → ⊥
true_false e = false≢true (sym e)

module _ {K V E : Type 0} where
  -- the item is one of a change under a lock
  abbrev of_lock : Item K V E → ℕ
  of_lock (plan.Lock key) = 1
  of_lock (plan.Unlock wrote) = 1
  of_lock (plan.Notice key old cause upsert) = 1
  of_lock plan.Heard = 1
  of_lock (plan.Get (plan.To_evict key stamp cause) at) = 1
  of_lock (plan.Judge (plan.To_evict key stamp cause) at found) = 1
  of_lock (plan.Holds key stamp cause there stored) = 1
  of_lock (plan.Moment change) = 1
  of_lock (plan.Write key value moment) = 1
  of_lock (plan.Out removal key) = 1
  of_lock _ = 0

  -- it locks, frees, or stands between a write and the freeing
  abbrev pub of_key : Item K V E → ℕ
  of_key (plan.Lock key) = 1
  of_key (plan.Unlock wrote) = 1
  of_key (plan.Notice key old cause upsert) = 1
  of_key plan.Heard = 1
  of_key _ = 0

  -- the plan frees the lock next
  abbrev pub Freeing : List (Item K V E) → Type 0
  Freeing (plan.Unlock wrote ∷ rest) = weigh of_lock rest ≡ 0
  Freeing _ = ⊥

  -- the plan of a call that holds the lock of this key
  abbrev pub Inside : K → List (Item K V E) → Type 0
  Inside k (plan.Get (plan.To_evict key stamp cause) at ∷ rest) =
      (k ≡ key) × (k ≡ at) × (weigh of_lock rest ≡ 0)
  Inside k (plan.Holds key stamp cause there stored ∷ rest) = (k ≡ key) × (weigh of_lock rest ≡ 0)
  Inside k (plan.Moment change ∷ rest) = (k ≡ changed_key change) × (weigh of_lock rest ≡ 0)
  Inside k (plan.Write key value moment ∷ rest) = (k ≡ key) × (weigh of_lock rest ≡ 0)
  Inside k (plan.Out removal key ∷ rest) = (k ≡ key) × (weigh of_lock rest ≡ 0)
  Inside k (plan.Notice key old cause upsert ∷ rest) = (k ≡ key) × Freeing rest
  Inside k (plan.Heard ∷ rest) = Freeing rest
  Inside k (plan.Unlock wrote ∷ rest) = weigh of_lock rest ≡ 0
  Inside k _ = ⊥

  -- the plan of a call that holds no lock, and may come to take one
  abbrev pub Outside : List (Item K V E) → Type 0
  Outside [] = Unit {0}
  Outside (plan.Lock key ∷ rest) = Inside key rest
  Outside (plan.Drain ∷ rest) = Outside rest
  Outside (plan.Ended number ∷ rest) = Outside rest
  Outside (plan.Post write ∷ rest) = Outside rest
  Outside (plan.Turn ∷ rest) = Outside rest
  Outside (plan.Apply ∷ rest) = Outside rest
  Outside (plan.End ∷ rest) = Outside rest
  Outside (plan.Get (plan.To_evict key stamp cause) at ∷ rest) = ⊥
  Outside (plan.Judge (plan.To_evict key stamp cause) at found ∷ rest) = ⊥
  Outside (plan.Holds key stamp cause there stored ∷ rest) = ⊥
  Outside (plan.Moment change ∷ rest) = ⊥
  Outside (plan.Write key value moment ∷ rest) = ⊥
  Outside (plan.Out removal key ∷ rest) = ⊥
  Outside (plan.Notice key old cause upsert ∷ rest) = ⊥
  Outside (plan.Heard ∷ rest) = ⊥
  Outside (plan.Unlock wrote ∷ rest) = ⊥
  Outside (_ ∷ rest) = weigh of_lock rest ≡ 0

  -- The plan is that of a call that holds this lock, if any: without a listener no call holds one.
  pub record Locks (listener : Bool) (locked : Option K) (plan : List (Item K V E)) : Type 0 where
    pub none : listener ≡ false → (locked ≡ None) × (weigh of_key plan ≡ 0)
    pub outside : listener ≡ true → locked ≡ None → Outside plan
    pub inside : listener ≡ true → (k : K) → locked ≡ Some k → Inside k plan

  -- ---- plans with no part in it

  calm_outside : (p : List (Item K V E)) → weigh of_lock p ≡ 0 → Outside p
  calm_outside [] h = tt
  calm_outside (plan.Lock key ∷ rest) h = absurd (omega arith)
  calm_outside (plan.Get (plan.To_evict key stamp cause) at ∷ rest) h = absurd (omega arith)
  calm_outside (plan.Judge (plan.To_evict key stamp cause) at found ∷ rest) h = absurd (omega arith)
  calm_outside (plan.Holds key stamp cause there stored ∷ rest) h = absurd (omega arith)
  calm_outside (plan.Moment change ∷ rest) h = absurd (omega arith)
  calm_outside (plan.Write key value moment ∷ rest) h = absurd (omega arith)
  calm_outside (plan.Out removal key ∷ rest) h = absurd (omega arith)
  calm_outside (plan.Notice key old cause upsert ∷ rest) h = absurd (omega arith)
  calm_outside (plan.Heard ∷ rest) h = absurd (omega arith)
  calm_outside (plan.Unlock wrote ∷ rest) h = absurd (omega arith)
  calm_outside (plan.Drain ∷ rest) h = calm_outside rest (omega arith)
  calm_outside (plan.Ended number ∷ rest) h = calm_outside rest (omega arith)
  calm_outside (plan.Post write ∷ rest) h = calm_outside rest (omega arith)
  calm_outside (plan.Turn ∷ rest) h = calm_outside rest (omega arith)
  calm_outside (plan.Apply ∷ rest) h = calm_outside rest (omega arith)
  calm_outside (plan.End ∷ rest) h = calm_outside rest (omega arith)
  calm_outside (_ ∷ rest) h = omega arith

  calm_key : (p : List (Item K V E)) → weigh of_lock p ≡ 0 → weigh of_key p ≡ 0
  calm_key [] h = refl
  calm_key (plan.Lock key ∷ rest) h = absurd (omega arith)
  calm_key (plan.Notice key old cause upsert ∷ rest) h = absurd (omega arith)
  calm_key (plan.Heard ∷ rest) h = absurd (omega arith)
  calm_key (plan.Unlock wrote ∷ rest) h = absurd (omega arith)
  calm_key (_ ∷ rest) h = let e = calm_key rest (omega arith) in omega arith

  module _ (b : Bool) (l : Option K) where
    -- a plan that locks as another does
    like : {old new : List (Item K V E)} → Locks b l old → (weigh of_key old ≡ 0 → weigh of_key new ≡ 0) → (Outside old → Outside new) →
        ((k : K) → Inside k old → Inside k new) → Locks b l new
    like q key out inner = record {
      none = λ e. let n = q.none e in (n.0, key n.1);
      outside = λ e f. out (q.outside e f);
      inside = λ e k f. inner k (q.inside e k f);
    }

    -- one that has no part in locks any more
    calm : {old : List (Item K V E)} (new : List (Item K V E)) → Locks b l old → ((k : K) → Inside k old → ⊥) → weigh of_lock new ≡ 0 → Locks b l new
    calm new q not h = like q (λ e. calm_key new h) (λ o. calm_outside new h) (λ k i. absurd (not k i))

  -- ---- how a call goes on, with the rules that it has

  -- the call, if it is still live, has its rules still
  abbrev SameRules : Call K V E → Option (Call K V E) → Type 0
  SameRules c None = Unit {0}
  SameRules c (Some d) = d.rules ≡ c.rules

  goes_rules : (c : Call K V E) (rest : List (Item K V E)) → SameRules c (goes c rest).left
  goes_rules c (plan.Reply a ∷ []) = tt
  goes_rules c _ = refl

  goes_locks : (b : Bool) (l : Option K) (c : Call K V E) (rest : List (Item K V E)) → Locks b l rest → Locks b l (plan_left (goes c rest).left)
  goes_locks b l c (plan.Reply a ∷ []) q = like b l q (λ e. refl) (λ o. tt) (λ k i. i)
  goes_locks b l c _ q = q

  -- What a step has to show: what this call locks then, and that the others' locks are as they were.
  record Leaves (d : DeskPart K V E) (n : ℕ) (c : Call K V E) (rules : Rules) (locked : ℕ → Option K) (left : Option (Call K V E)) : Type 0 where
    desk : rules ≡ d.rules
    call : SameRules c left
    own : Locks d.rules.listener (locked n) (plan_left left)
    others : (m : ℕ) → (n == m) ≡ false → locked m ≡ d.locked m

  module _ (d : DeskPart K V E) (n : ℕ) (c : Call K V E) where
    -- no lock has changed
    keeps : {left : Option (Call K V E)} → SameRules c left → Locks d.rules.listener (d.locked n) (plan_left left) → Leaves d n c d.rules d.locked left
    keeps r q = record { desk = refl; call = r; own = q; others = λ m e. refl }

    goes_on : (rest : List (Item K V E)) → Locks d.rules.listener (d.locked n) rest → Leaves d n c d.rules d.locked (goes c rest).left
    goes_on rest q = keeps (goes_rules c rest) (goes_locks d.rules.listener (d.locked n) c rest q)

    -- so where it carries predicates
    goes_as : (ids : List (ℕ × ℕ)) (rest : List (Item K V E)) → Locks d.rules.listener (d.locked n) rest →
        Leaves d n c d.rules d.locked (goes (carrying c ids) rest).left
    goes_as ids rest q = keeps (goes_rules (carrying c ids) rest) (goes_locks d.rules.listener (d.locked n) (carrying c ids) rest q)

    either : (b : Bool) (x y : Next K V E) → Leaves d n c d.rules d.locked x.left → Leaves d n c d.rules d.locked y.left →
        Leaves d n c d.rules d.locked (cond b x y).left
    either true x y h k = h
    either false x y h k = k

    -- this call alone locks or frees
    locks_now : {left : Option (Call K V E)} (l : Option K) → SameRules c left → Locks d.rules.listener l (plan_left left) →
        Leaves d n c d.rules (put_at d.locked n l) left
    locks_now {left} l r q = record {
      desk = refl;
      call = r;
      own = subst (λ v. Locks d.rules.listener v (plan_left left)) (sym (put_here d.locked n l)) q;
      others = λ m e. put_there d.locked n l m e;
    }

  module _ (eq : K → K → Bool) (w : World K V E) (n : ℕ) (c : Call K V E) (rules : c.rules ≡ w.desk.rules) where
    abbrev After : World K V E → Next K V E → Type 0
    After new next = Leaves w.desk n c new.desk.rules new.desk.locked next.left

    abbrev Now : List (Item K V E) → Type 0
    Now p = Locks w.desk.rules.listener (w.desk.locked n) p

    free : (p : List (Item K V E)) → weigh of_lock p ≡ 0 → {item : Item K V E} {rest : List (Item K V E)} → Now (item ∷ rest) → ((k : K) → Inside k (item ∷ rest) → ⊥) → Now p
    free p h q not = calm _ _ p q not h

    is_on : c.rules.listener ≡ true → w.desk.rules.listener ≡ true
    is_on on = ap (λ v. v.listener) (sym rules) ∙ on

    is_off : c.rules.listener ≡ false → w.desk.rules.listener ≡ false
    is_off off = ap (λ v. v.listener) (sym rules) ∙ off

    -- the call frees its lock next, with nothing written under it
    frees : (a : Answer K V E) {old : List (Item K V E)} → (Outside old → ⊥) → Now old →
        c.rules.listener ≡ true →
        Now (plan.Unlock false ∷ plan.Reply a ∷ [])
    frees a out q on = record {
      none = λ e. absurd (true_false (sym (is_on on) ∙ e));
      outside = λ e f. absurd (out (q.outside e f));
      inside = λ e k f. refl;
    }

    reads : (sought : Sought K) (rest : List (Item K V E)) (with : Settled V E) → Now c.plan → Now (plan.Read sought ∷ rest) →
        Leaves w.desk n c w.desk.rules w.desk.locked (after_read c sought (found.ReadSettled with)).left
    reads sought rest settled.NotYet p q = keeps w.desk n c refl p
    reads sought rest settled.Aborted p q = either w.desk n c (c.aborts + 1 == retries) _ _ (keeps w.desk n c tt (free [] refl q (λ k i. i)))
        (keeps w.desk n c refl (free (plan.Own sought ∷ []) refl q (λ k i. i)))
    reads sought rest _ p q = keeps w.desk n c tt (free [] refl q (λ k i. i))

    reads_key : (compute : Compute K) (rest : List (Item K V E)) (with : Settled V E) → Now c.plan →
        Now (plan.Read_key compute ∷ rest) →
        Leaves w.desk n c w.desk.rules w.desk.locked (after_read_key c compute (found.ReadSettled with)).left
    reads_key compute rest with p q =
        read_key_next (λ v. Leaves w.desk n c w.desk.rules w.desk.locked v.left) c compute with
        (keeps w.desk n c refl p)
        (keeps w.desk n c refl (free (plan.Own_key compute ∷ []) refl q (λ k i. i)))

    told : (load : Load K) (rest : List (Item K V E)) (given : Told V E) → Now c.plan → Now (plan.Told load ∷ rest) →
        Leaves w.desk n c w.desk.rules w.desk.locked (after_told c load (found.TakeTold (Some given))).left
    told load rest (answer.Value value) p q =
        let after : List (Item K V E) = told_on value in
        loaded_plans_by (λ v. Leaves w.desk n c w.desk.rules w.desk.locked (goes c v).left)
        c.rules load value
        (λ not. goes_on w.desk n c after (free after refl q (λ k i. i)))
        (λ able off. goes_on w.desk n c
        (plan.Drain ∷ plan.Moment (plan.To_store load.key value) ∷ after) (record {
          none = λ e. ((q.none e).0, refl);
          outside = λ e f. absurd (true_false (sym e ∙ is_off off));
          inside = λ e k f. absurd (q.inside e k f);
        }))
        (λ able on. goes_on w.desk n c
        (plan.Drain ∷ plan.Lock load.key ∷ plan.Moment (plan.To_store load.key value) ∷ after)
        (record {
          none = λ e. absurd (true_false (sym (is_on on) ∙ e));
          outside = λ e f. (refl, refl);
          inside = λ e k f. absurd (q.inside e k f);
        }))
    told load rest answer.Nothing p q =
        goes_on w.desk n c _ (free (end_load settled.Nothing reply.Nothing) refl q (λ k i. i))
    told load rest (answer.Err error) p q =
        goes_on w.desk n c _
        (free (end_load (settled.Err error) (reply.InitErr error)) refl q (λ k i. i))
    told load rest _ p q = keeps w.desk n c refl p

    told_op : (compute : Compute K) (pair : Option (K × V)) (rest : List (Item K V E))
        (given : Told V E) → Now c.plan → Now (plan.Told_op compute pair ∷ rest) →
        Leaves w.desk n c w.desk.rules w.desk.locked (after_told_op c compute pair (found.TakeTold (Some given))).left
    told_op compute pair rest given p q =
        told_op_next (λ v. Leaves w.desk n c w.desk.rules w.desk.locked v.left) c compute pair given
        (λ a. goes_on w.desk n c (end_compute a) (free (end_compute a) refl q (λ k i. i)))
        (λ value able off. goes_on w.desk n c
        (plan.Drain ∷ plan.Moment (plan.To_store compute.key value) ∷ end_compute (put_answer compute.key pair value)) (record {
          none = λ e. ((q.none e).0, refl);
          outside = λ e f. absurd (true_false (sym e ∙ is_off off));
          inside = λ e k f. absurd (q.inside e k f);
        }))
        (λ value able on. goes_on w.desk n c
        (plan.Drain ∷ plan.Lock compute.key ∷ plan.Moment (plan.To_store compute.key value)
        ∷ end_compute (put_answer compute.key pair value)) (record {
          none = λ e. absurd (true_false (sym (is_on on) ∙ e));
          outside = λ e f. (refl, refl);
          inside = λ e k f. absurd (q.inside e k f);
        }))
        (λ off. goes_on w.desk n c
        (plan.Drain ∷ plan.Moment (plan.To_take_out (plan.To_remove_as_told compute.key) compute.key) ∷ []) (record {
          none = λ e. ((q.none e).0, refl);
          outside = λ e f. absurd (true_false (sym e ∙ is_off off));
          inside = λ e k f. absurd (q.inside e k f);
        }))
        (λ on. goes_on w.desk n c
        (plan.Drain ∷ plan.Lock compute.key ∷ plan.Moment
        (plan.To_take_out (plan.To_remove_as_told compute.key) compute.key) ∷ []) (record {
          none = λ e. absurd (true_false (sym (is_on on) ∙ e));
          outside = λ e f. (refl, refl);
          inside = λ e k f. absurd (q.inside e k f);
        }))
        (keeps w.desk n c refl p)

    -- the chosen record stays: the lock is to be freed, where a listener is set
    kept : (old : List (Item K V E)) → (Outside old → ⊥) → Now old →
        Leaves w.desk n c w.desk.rules w.desk.locked (stays c).left
    kept old out q = kept_next (λ v. Leaves w.desk n c w.desk.rules w.desk.locked v.left) c
        (λ off. keeps w.desk n c tt (record {
          none = λ e. ((q.none e).0, refl);
          outside = λ e f. tt;
          inside = λ e k f. absurd (true_false (sym e ∙ is_off off));
        }))
        (λ on. keeps w.desk n c refl (frees _ out q on))

    missed : (aim : Aim K V) (key : K) (rest : List (Item K V E)) → Now (plan.Get aim key ∷ rest) →
        Leaves w.desk n c w.desk.rules w.desk.locked (misses c aim).left
    missed (plan.To_show form) key rest q = keeps w.desk n c tt (free _ refl q (λ k i. i))
    missed (plan.To_insert there value) key rest q =
        put_plans_by (λ v. Leaves w.desk n c w.desk.rules w.desk.locked (goes c v).left)
        c.rules there value _
        (λ off. goes_on w.desk n c (plan.Drain ∷ plan.Moment (plan.To_store there value) ∷ _) (record {
          none = λ e. ((q.none e).0, refl);
          outside = λ e f. absurd (true_false (sym e ∙ is_off off));
          inside = λ e k f. absurd (q.inside e k f);
        }))
        (λ on. goes_on w.desk n c
        (plan.Drain ∷ plan.Lock there ∷ plan.Moment (plan.To_store there value) ∷ _) (record {
          none = λ e. absurd (true_false (sym (is_on on) ∙ e));
          outside = λ e f. (refl, refl);
          inside = λ e k f. absurd (q.inside e k f);
        }))
    missed (plan.To_evict there stamp cause) key rest q = kept _ (λ o. o) q
    missed _ key rest q = keeps w.desk n c refl (free _ refl q (λ k i. i))

    -- the record that was judged is not seen
    unseen : (aim : Aim K V) (key : K) (stored : Stored V) (rest : List (Item K V E)) →
        Now (plan.Judge aim key stored ∷ rest) →
        Leaves w.desk n c w.desk.rules w.desk.locked (misses c aim).left
    unseen (plan.To_show form) key stored rest q = keeps w.desk n c tt (free _ refl q (λ k i. i))
    unseen (plan.To_insert there value) key stored rest q =
        put_plans_by (λ v. Leaves w.desk n c w.desk.rules w.desk.locked (goes c v).left)
        c.rules there value _
        (λ off. goes_on w.desk n c (plan.Drain ∷ plan.Moment (plan.To_store there value) ∷ _) (record {
          none = λ e. ((q.none e).0, refl);
          outside = λ e f. absurd (true_false (sym e ∙ is_off off));
          inside = λ e k f. absurd (q.inside e k f);
        }))
        (λ on. goes_on w.desk n c
        (plan.Drain ∷ plan.Lock there ∷ plan.Moment (plan.To_store there value) ∷ _) (record {
          none = λ e. absurd (true_false (sym (is_on on) ∙ e));
          outside = λ e f. (refl, refl);
          inside = λ e k f. absurd (q.inside e k f);
        }))
    unseen (plan.To_evict there stamp cause) key stored rest q = kept _ (λ o. o) q
    unseen _ key stored rest q = keeps w.desk n c refl (free _ refl q (λ k i. i))

    has_found : (aim : Aim K V) (key k : K) (stored : Stored V) (rest : List (Item K V E)) →
        Now (plan.Get aim key ∷ rest) →
        Leaves w.desk n c w.desk.rules w.desk.locked (finds_pair c aim k stored).left
    has_found (plan.To_evict there stamp cause) key k stored rest q =
        chosen_by (λ v. Leaves w.desk n c w.desk.rules w.desk.locked v.left)
        c there stamp cause k stored
        (λ other. kept _ (λ o. o) q)
        (λ same. keeps w.desk n c refl
        (like _ _ q (λ h. refl) (λ o. absurd o) (λ l i. (i.0, refl))))
    has_found _ key k stored rest q = keeps w.desk n c refl (free _ refl q (λ l i. i))

    hit : (aim : Aim K V) (key : K) (stored : Stored V) (rest : List (Item K V E)) → Now c.plan →
        Now (plan.Judge aim key stored ∷ rest) →
        Leaves w.desk n c w.desk.rules w.desk.locked (hits c aim key stored.value).left
    hit (plan.To_own sought) key stored rest p q = keeps w.desk n c refl (free _ refl q (λ k i. i))
    hit (plan.To_compute compute) key stored rest p q =
        keeps w.desk n c refl (free _ refl q (λ k i. i))
    hit (plan.To_evict there stamp cause) key stored rest p q = keeps w.desk n c refl p
    hit _ key stored rest p q = keeps w.desk n c tt (free _ refl q (λ k i. i))

    -- after a removal, the lock is to be freed where a listener is set
    took : (removal : Removal K) (key : K) (rest new : List (Item K V E)) →
        (c.rules.listener ≡ false → weigh of_key new ≡ 0) →
        (c.rules.listener ≡ true → (k : K) → k ≡ key → Inside k new) →
        Now (plan.Out removal key ∷ rest) → Now new
    took removal key rest new off on q = record {
      none = λ e. ((q.none e).0, off (ap (λ v. v.listener) rules ∙ e));
      outside = λ e f. absurd (q.outside e f);
      inside = λ e k f. on (ap (λ v. v.listener) rules ∙ e) k (q.inside e k f).0;
    }

    -- after a write, the lock is to be freed where a listener is set
    wrote : (key : K) (value : V) (moment : ℕ) (rest new : List (Item K V E)) → (c.rules.listener ≡ false → weigh of_key rest ≡ 0 → weigh of_key new ≡ 0) →
        (c.rules.listener ≡ true → (k : K) → (k ≡ key) × (weigh of_lock rest ≡ 0) → Inside k new) → Now (plan.Write key value moment ∷ rest) → Now new
    wrote key value moment rest new off on q = record {
      none = λ e. let h = q.none e in (h.0, off (ap (λ v. v.listener) rules ∙ e) (omega arith));
      outside = λ e f. absurd (q.outside e f);
      inside = λ e k f. on (ap (λ v. v.listener) rules ∙ e) k (q.inside e k f);
    }

    on_item : (item : Item K V E) (rest : List (Item K V E)) → Now c.plan → Now (item ∷ rest) → Outcomes eq After w n c item rest
    on_item plan.Drain rest p q = (
      λ e. goes_on w.desk n c rest (like _ _ q (λ h. omega arith) (λ h. h) (λ k i. absurd i)),
      λ x xs e. keeps w.desk n c refl (like _ _ q (λ h. omega arith) (λ h. h) (λ k i. absurd i)),
      λ x number xs e. keeps w.desk n c refl (like _ _ q (λ h. omega arith) (λ h. h) (λ k i. absurd i)),
    )
    on_item (plan.Ended number) rest p q =
        ((λ e. goes_on w.desk n c rest (like _ _ q (λ h. omega arith) (λ h. h) (λ k i. absurd i))), λ e. keeps w.desk n c refl p)
    on_item (plan.Post write) rest p q = (
      λ e. goes_on w.desk n c rest (like _ _ q (λ h. omega arith) (λ h. h) (λ k i. absurd i)),
      λ e. keeps w.desk n c refl (like _ _ q (λ h. omega arith) (λ h. h) (λ k i. absurd i)),
    )
    on_item plan.Turn rest p q = ((λ e. goes_on w.desk n c rest (like _ _ q (λ h. omega arith) (λ h. h) (λ k i. absurd i))), λ e. keeps w.desk n c refl p)
    on_item plan.Apply rest p q =
        ((λ e. goes_on w.desk n c rest (like _ _ q (λ h. omega arith) (λ h. h) (λ k i. absurd i))), λ x xs e. keeps w.desk n c refl q)
    on_item plan.End rest p q = goes_on w.desk n c rest (like _ _ q (λ h. omega arith) (λ h. h) (λ k i. absurd i))
    on_item (plan.Get aim key) rest p q = (
      (λ more. keeps w.desk n c refl p),
      (λ none. missed aim key rest q),
      λ k stored some. has_found aim key k stored rest q,
    )
    on_item (plan.Judge aim key stored) rest p q =
        ((λ seen. hit aim key stored rest p q), λ e. unseen aim key stored rest q)
    on_item (plan.Own sought) rest p q = (
      (λ able e. keeps w.desk n c refl (free _ refl q (λ k i. i))),
      (λ not e. keeps w.desk n c refl (free _ refl q (λ k i. i))),
      λ owner e. keeps w.desk n c refl (free _ refl q (λ k i. i)),
    )
    on_item (plan.Own_key compute) rest p q = (
      (
        (λ able e. keeps w.desk n c refl (free _ refl q (λ k i. i))),
        λ not e. keeps w.desk n c refl (free _ refl q (λ k i. i)),
      ),
      λ owner e. keeps w.desk n c refl (free _ refl q (λ k i. i)),
    )
    on_item (plan.Own_alone key) rest p q = (
      (
        (λ able e. keeps w.desk n c refl (free _ refl q (λ k i. i))),
        λ not e. keeps w.desk n c refl (free _ refl q (λ k i. i)),
      ),
      λ owner e. (
        (λ able. keeps w.desk n c refl (free _ refl q (λ k i. i))),
        λ not. keeps w.desk n c refl (free _ refl q (λ k i. i)),
      ),
    )
    on_item (plan.Read sought) rest p q = ((λ e. keeps w.desk n c refl p), λ with e. reads sought rest with p q)
    on_item (plan.Read_key compute) rest p q =
        ((λ e. keeps w.desk n c refl p), λ with e. reads_key compute rest with p q)
    on_item (plan.Ask load) rest p q = keeps w.desk n c refl (free _ refl q (λ k i. i))
    on_item (plan.Ask_op compute pair) rest p q = keeps w.desk n c refl (free _ refl q (λ k i. i))
    on_item (plan.Told load) rest p q = ((λ e. keeps w.desk n c refl p), λ given e. told load rest given p q)
    on_item (plan.Told_op compute pair) rest p q =
        ((λ e. keeps w.desk n c refl p), λ given e. told_op compute pair rest given p q)
    on_item (plan.Lock key) rest p q = (
      λ e. locks_now w.desk n c (Some key) (goes_rules c rest) (goes_locks _ _ c rest (record {
        none = λ f. absurd (let h = (q.none f).1 in omega arith);
        outside = λ f g. absurd (none_some (sym g));
        inside = λ f k g. by f k g (w.desk.locked n) refl;
      })),
      λ e. keeps w.desk n c refl p,
    )
      where
        by : w.desk.rules.listener ≡ true → (k : K) → Some key ≡ Some k → (l : Option K) → w.desk.locked n ≡ l → Inside k rest
        by f k g None e = subst (λ v. Inside v rest) (some_same g) (q.outside f e)
        by f k g (Some held) e = absurd (q.inside f held e)
    on_item (plan.Unlock wrote) rest p q =
        locks_now w.desk n c None (goes_rules c rest) (goes_locks _ _ c rest (record {
          none = λ f. absurd (let h = (q.none f).1 in omega arith);
          outside = λ f g. by f (w.desk.locked n) refl;
          inside = λ f k g. absurd (none_some g);
        }))
      where
        by : w.desk.rules.listener ≡ true → (l : Option K) → w.desk.locked n ≡ l → Outside rest
        by f None e = absurd (q.outside f e)
        by f (Some held) e = calm_outside rest (q.inside f held e)
    on_item (plan.Notice key old cause upsert) rest p q = (
      λ e. goes_on w.desk n c rest (like _ _ q (λ h. absurd (omega arith)) (λ o. absurd o) (λ k i. freeing k rest i.1)),
      λ e. keeps w.desk n c refl (like _ _ q (λ h. absurd (omega arith)) (λ o. absurd o) (λ k i. i.1)),
    )
      where
        freeing : (k : K) (p : List (Item K V E)) → Freeing p → Inside k p
        freeing k (plan.Unlock wrote ∷ more) h = h
        freeing k [] h = absurd h
        freeing k (_ ∷ more) h = absurd h
    on_item plan.Heard rest p q = (
      λ e. goes_on w.desk n c rest (like _ _ q (λ h. absurd (omega arith)) (λ o. absurd o) (λ k i. freeing k rest i)),
      λ e. keeps w.desk n c refl p,
    )
      where
        freeing : (k : K) (p : List (Item K V E)) → Freeing p → Inside k p
        freeing k (plan.Unlock wrote ∷ more) h = h
        freeing k [] h = absurd h
        freeing k (_ ∷ more) h = absurd h
    on_item (plan.Holds key stamp cause there stored) rest p q = (
      (λ e. keeps w.desk n c refl (like _ _ q (λ h. refl) (λ o. absurd o) (λ k i. (i.0, refl)))),
      λ e. kept (plan.Holds key stamp cause there stored ∷ rest) (λ o. o) q,
    )
    on_item (plan.Moment (plan.To_store key value)) rest p q =
        keeps w.desk n c refl (like _ _ q (λ h. omega arith) (λ o. absurd o) (λ k i. i))
    on_item (plan.Moment (plan.To_take_out removal key)) rest p q =
        keeps w.desk n c refl (like _ _ q (λ h. omega arith) (λ o. absurd o) (λ k i. i))
    on_item (plan.Write key value moment) rest p q = (
      λ more. keeps w.desk n c refl p,
      λ off old. keeps w.desk n c refl
          (wrote key value moment rest (plan.Post _ ∷ rest) (λ f h. omega arith) (λ on k i. absurd (true_false (sym on ∙ off))) q),
      λ on. keeps w.desk n c refl
          (wrote key value moment rest (plan.Unlock true ∷ plan.Post _ ∷ rest)
          (λ f h. absurd (true_false (sym on ∙ f))) (λ f k i. omega (arith, i.1)) q),
      λ there old on some. keeps w.desk n c refl
          (wrote key value moment rest
          (plan.Notice key old None true ∷ plan.Unlock true ∷ plan.Post _ ∷ rest)
          (λ f h. absurd (true_false (sym on ∙ f)))
          (λ f k i. (i.0, omega (arith, i.1))) q),
    )
    on_item (plan.Out removal key) rest p q = (
      (λ more. keeps w.desk n c refl p),
      (λ off none. said_next (λ v. Leaves w.desk n c w.desk.rules w.desk.locked v.left) c (λ q. plan.Idle ∷ q) removal (nothing_answer removal)
          (keeps w.desk n c refl (took removal key rest (plan.Idle ∷ plan.Reply _ ∷ []) (λ f. refl)
          (λ on k i. absurd (true_false (sym on ∙ off))) q))
          (keeps w.desk n c refl (took removal key rest (plan.Idle ∷ end_compute _) (λ f. refl)
          (λ on k i. absurd (true_false (sym on ∙ off))) q))),
      (λ on none. said_next (λ v. Leaves w.desk n c w.desk.rules w.desk.locked v.left) c (λ q. plan.Unlock false ∷ q) removal (nothing_answer removal)
          (keeps w.desk n c refl (took removal key rest (plan.Unlock false ∷ plan.Reply _ ∷ [])
          (λ f. absurd (true_false (sym on ∙ f))) (λ f k i. refl) q))
          (keeps w.desk n c refl (took removal key rest (plan.Unlock false ∷ end_compute _)
          (λ f. absurd (true_false (sym on ∙ f))) (λ f k i. refl) q))),
      (λ there old off some. said_next (λ v. Leaves w.desk n c w.desk.rules w.desk.locked v.left) c (λ q. plan.Post (Remove n old.stamp) ∷ q) removal (removed_answer removal old.value)
          (keeps w.desk n c refl (took removal key rest (plan.Post (Remove n old.stamp) ∷ plan.Reply _ ∷ []) (λ f. refl) (λ on k i. absurd (true_false (sym on ∙ off))) q))
          (keeps w.desk n c refl (took removal key rest (plan.Post (Remove n old.stamp) ∷ end_compute _) (λ f. refl) (λ on k i. absurd (true_false (sym on ∙ off))) q))),
      λ there old on some. said_next (λ v. Leaves w.desk n c w.desk.rules w.desk.locked v.left) c (λ q. plan.Notice key old (cause_handed removal) false ∷ plan.Unlock true ∷ plan.Post (Remove n old.stamp) ∷ q) removal (removed_answer removal old.value)
          (keeps w.desk n c refl (took removal key rest (plan.Notice key old (cause_handed removal) false ∷ plan.Unlock true ∷ plan.Post (Remove n old.stamp) ∷ plan.Reply _ ∷ []) (λ f. absurd (true_false (sym on ∙ f))) (λ f k i. (i, refl)) q))
          (keeps w.desk n c refl (took removal key rest (plan.Notice key old (cause_handed removal) false ∷ plan.Unlock true ∷ plan.Post (Remove n old.stamp) ∷ end_compute _) (λ f. absurd (true_false (sym on ∙ f))) (λ f k i. (i, refl)) q)),
    )
    on_item (plan.List_keys part) rest p q = (
      (λ more. keeps w.desk n c refl p),
      λ listed keys e gives. goes_on w.desk n c (map plan.Find keys ++ rest)
          (like _ _ q (λ h. omega (arith, weigh_finds {E = E} of_key (λ key. refl) keys rest))
          (λ h. calm_outside (map plan.Find keys ++ rest) (weigh_finds of_lock (λ key. refl) keys rest ∙ h)) (λ k i. absurd i)),
    )
    on_item (plan.Find key) rest p q = (
      (λ more. keeps w.desk n c refl p),
      (λ none. goes_on w.desk n c rest (like _ _ q (λ h. omega arith) (λ h. calm_outside rest h) (λ k i. absurd i))),
      (λ k stored some none. keeps w.desk n c refl (like _ _ q (λ h. omega arith) (λ h. h) (λ k i. absurd i))),
      λ k stored ids some is. keeps w.desk n c refl (like _ _ q (λ h. omega arith) (λ h. h) (λ k i. absurd i)),
    )
    on_item (plan.Scan there stored) rest p q = (
      (λ seen. keeps w.desk n c refl (like _ _ q (λ h. omega arith) (λ h. calm_outside rest h) (λ k i. absurd i))),
      λ unseen. goes_on w.desk n c rest (like _ _ q (λ h. omega arith) (λ h. calm_outside rest h) (λ k i. absurd i)),
    )
    on_item (plan.Register test) rest p q = keeps w.desk n c tt (free _ refl q (λ k i. i))
    on_item (plan.Candidates parts) rest p q = (
      (λ none. keeps w.desk n c tt (free _ refl q (λ k i. i))),
      λ id more some. goes_as w.desk n c (id ∷ more) (lists_from 0 parts (plan.Retire ∷ []))
          (like _ _ q (λ h. weigh_retiring of_key (λ part. refl) refl parts)
          (λ h. calm_outside (lists_from 0 parts (plan.Retire ∷ [])) (weigh_retiring of_lock (λ part. refl) refl parts)) (λ k i. absurd i)),
    )
    on_item (plan.Strike there stored) rest p q =
        goes_as w.desk n c _ rest (like _ _ q (λ h. omega arith) (λ h. calm_outside rest h) (λ k i. absurd i))
    on_item plan.Retire rest p q = keeps w.desk n c tt (free _ refl q (λ k i. i))
    on_item (plan.Reply a) rest p q = keeps w.desk n c tt (free _ refl q (λ k i. i))
    on_item _ rest p q = goes_on w.desk n c rest (like _ _ q (λ h. omega arith) (λ h. calm_outside rest h) (λ k i. absurd i))

    on_plan : (p : List (Item K V E)) → c.plan ≡ p → Now c.plan → OnStep eq After w n c p
    on_plan [] e q = keeps w.desk n c refl q
    on_plan (item ∷ rest) e q = outcomes eq After w n c item rest (on_item item rest q (subst Now e q))

  -- ---- of a state

  -- Each call locks what its plan says, by the rules of its cache.
  pub record IsLocking (s : State K V E) : Type 0 where
    pub balanced : IsBalanced s
    pub rules : (n : ℕ) (c : Call K V E) → s.calls n ≡ Some c → c.rules ≡ s.world.desk.rules
    pub locks : (n : ℕ) → Locks s.world.desk.rules.listener (s.world.desk.locked n) (plan_left (s.calls n))

  none_locked : (b : Bool) (l : Option K) (p : List (Item K V E)) → Locks b l p → p ≡ [] → l ≡ None
  none_locked b None p q e = refl
  none_locked false (Some k) p q e = (q.none refl).0
  none_locked true (Some k) p q e = absurd (subst (Inside k) e (q.inside refl k refl))

  -- a fresh plan without the lock, and with it
  starts : (listener : Bool) (p : List (Item K V E)) → weigh of_key p ≡ 0 →
      (listener ≡ true → Outside p) →
      Locks listener None p
  starts listener p zero out =
      record {
        none = λ e. (refl, zero);
        outside = λ e f. out e;
        inside = λ e k f. absurd
            (none_some f);
      }

  starts_locked : (listener : Bool) (p : List (Item K V E)) → listener ≡ true → Outside p →
      Locks listener None p
  starts_locked listener p on out = record {
    none = λ e. absurd (true_false (sym on ∙ e));
    outside = λ e f. out;
    inside = λ e k f. absurd (none_some f);
  }

  fresh_form : (rules : Rules) (p : List (Item K V E)) → IsFresh rules p → Locks rules.listener None p
  fresh_form rules p (Puts key value d off) =
      starts rules.listener _ refl (λ e. absurd (true_false (sym e ∙ off)))
  fresh_form rules p (Locks_and_puts key value d on) =
      starts_locked rules.listener _ on (refl, refl)
  fresh_form rules p (Takes_out removal key off named) =
      starts rules.listener _ refl (λ e. absurd (true_false (sym e ∙ off)))
  fresh_form rules p (Locks_and_takes_out removal key on named) =
      starts_locked rules.listener _ on (refl, refl)
  fresh_form rules p (Evicts key stamp cause off) =
      starts rules.listener _ refl (λ e. absurd (true_false (sym e ∙ off)))
  fresh_form rules p (Locks_and_evicts key stamp cause on) =
      starts_locked rules.listener _ on (refl, refl, refl)
  fresh_form rules p (Walks_over parts able) =
      starts rules.listener p (weigh_walk of_key (record { list = λ part. refl; find = λ key. refl; scan = λ there stored. refl; end = refl; choose = λ parts. refl; strike = λ there stored. refl; retire = refl }) p (walk_is_walk 0 parts))
      (λ e. calm_outside p (weigh_walk of_lock (record { list = λ part. refl; find = λ key. refl; scan = λ there stored. refl; end = refl; choose = λ parts. refl; strike = λ there stored. refl; retire = refl }) p (walk_is_walk 0 parts)))
  fresh_form rules p _ = starts rules.listener _ refl (λ e. refl)

  fresh_locks : (parts : ℕ) (rules : Rules) (start : Start K V) → Locks rules.listener None (plan_of parts rules start)
  fresh_locks parts rules start = fresh_form rules (plan_of parts rules start) (fresh_plan parts rules start)

module _ {K V E : Type 0} (eq : K → K → Bool) where
  locks_on : (s : State K V E) (n : ℕ) (c : Call K V E) (w : World K V E) (left : Option (Call K V E)) → IsLocking s →
      c.rules ≡ s.world.desk.rules → Leaves s.world.desk n c w.desk.rules w.desk.locked left →
      let t : State K V E = record { world = w; calls = put_at s.calls n left } in
      IsBalanced t → IsLocking t
  locks_on s n c w left i rules b balanced = record {
    balanced = balanced;
    rules = λ m d live. put_cases s.calls n left m (Some d) (d.rules ≡ w.desk.rules) live
        (λ here is. subst (λ v. SameRules c v) is b.call ∙ rules ∙ sym b.desk) (λ there is. i.rules m d is ∙ sym b.desk);
    locks = λ m. subst (λ v. Locks v.listener (w.desk.locked m) (plan_left (put_at s.calls n left m))) (sym b.desk) (by m (n == m) refl);
  }
    where
      by : (m : ℕ) (t : Bool) → (n == m) ≡ t → Locks s.world.desk.rules.listener (w.desk.locked m) (plan_left (put_at s.calls n left m))
      by m true e =
          subst (λ v. Locks s.world.desk.rules.listener (w.desk.locked v) (plan_left (put_at s.calls n left v))) (eqb-true n m e)
          (subst (λ v. Locks s.world.desk.rules.listener (w.desk.locked n) (plan_left v)) (sym (put_here s.calls n left)) b.own)
      by m false e =
          subst (λ v. Locks s.world.desk.rules.listener v (plan_left (put_at s.calls n left m))) (sym (b.others m e))
          (subst (λ v. Locks s.world.desk.rules.listener (s.world.desk.locked m) (plan_left v)) (sym (put_there s.calls n left m e)) (i.locks m))

  locking_step : (s t : State K V E) (n : ℕ) (turn : Turn K V E) → IsLocking s → Step eq s n turn t → IsLocking t
  locking_step s t n turn i step =
      let c : Call K V E = step.call in
      let rules : c.rules ≡ s.world.desk.rules = i.rules n c step.live in
      let q : Locks s.world.desk.rules.listener (s.world.desk.locked n) c.plan =
      subst (λ v. Locks s.world.desk.rules.listener (s.world.desk.locked n) (plan_left v)) step.live (i.locks n) in
      let kept : IsBalanced t → IsLocking t =
      step_cases eq (λ new next. Leaves s.world.desk n c new.desk.rules new.desk.locked next.left) (λ v _. IsBalanced v → IsLocking v) s t n turn step
      (on_plan eq s.world n c rules c.plan refl q) (λ w next l. locks_on s n c w next.left i rules l) in
      kept ((balanced_kept eq).step s t n turn i.balanced step)

  locking_start : (s : State K V E) (start : Start K V) → IsLocking s → IsLocking (started s start)
  locking_start s start i =
      let new : ℕ = s.world.desk.last + 1 in
      let none : s.world.desk.locked new ≡ None = none_locked _ _ _ (i.locks new) (ap plan_left (next_free s i.balanced)) in
      locks_on s new (fresh_call s.world.table.division.parts s.world.desk.rules start) _ (Some (fresh_call s.world.table.division.parts s.world.desk.rules start)) i refl (record {
        desk = refl;
        call = refl;
        own = subst (λ v. Locks s.world.desk.rules.listener v (plan_of {E = E} s.world.table.division.parts s.world.desk.rules start)) (sym none)
            (fresh_locks s.world.table.division.parts s.world.desk.rules start);
        others = λ m e. refl;
      }) ((balanced_kept eq).start s start i.balanced)

  pub locking_kept : IsInvariant eq (IsLocking {K = K} {V = V} {E = E})
  locking_kept = record {
    fresh = λ division divides rules size built has_log. record {
      balanced = (balanced_kept eq).fresh division divides rules size built has_log;
      rules = λ n c live. absurd (none_some live);
      locks = λ n. record { none = λ e. (refl, refl); outside = λ e f. tt; inside = λ e k f. absurd (none_some f) };
    };
    at = λ s moment i. record { balanced = (balanced_kept eq).at s moment i.balanced; rules = i.rules; locks = i.locks };
    start = locking_start;
    step = locking_step;
    tell = λ s n given asked i. record { balanced = (balanced_kept eq).tell s n given asked i.balanced; rules = i.rules; locks = i.locks };
    hear = λ s n off running i.
        record { balanced = (balanced_kept eq).hear s n off running i.balanced; rules = i.rules; locks = i.locks };
    drop = λ s n c live between i.
        locks_on s n c _ None i (i.rules n c live) (record {
          desk = refl;
          call = tt;
          own = subst (λ v. Locks {V = V} {E = E} s.world.desk.rules.listener v []) (sym (put_here s.world.desk.locked n None))
              (record { none = λ e. (refl, refl); outside = λ e f. tt; inside = λ e k f. absurd (none_some f) });
          others = λ m e. put_there s.world.desk.locked n None m e;
        }) ((balanced_kept eq).drop s n c live between i.balanced);
  }

  pub in_locking : (s : State K V E) → IsReached eq s → IsLocking s
  in_locking s h = in_reached eq IsLocking locking_kept s h

module _ {K V E : Type 0} where
  -- ---- what follows

  -- what a call that is about to lock, or to free, holds
  pub lock_free : (b : Bool) (l : Option K) (key : K) (rest : List (Item K V E)) → Locks b l (plan.Lock key ∷ rest) → IsNone l
  lock_free b None key rest q = refl
  lock_free false (Some k) key rest q = absurd (none_some (sym (q.none refl).0))
  lock_free true (Some k) key rest q = absurd (q.inside refl k refl)

  pub lock_held : (b : Bool) (l : Option K) (wrote : Bool) (rest : List (Item K V E)) →
      Locks b l (plan.Unlock wrote ∷ rest) → IsSome l
  lock_held b (Some k) wrote rest q = refl
  lock_held false None wrote rest q = absurd (let h = (q.none refl).1 in omega arith)
  lock_held true None wrote rest q = absurd (q.outside refl refl)

  inside_under : (k : K) (p : List (Item K V E)) → Inside k p → IsUnderLock p
  inside_under k (plan.Get (plan.To_evict key stamp cause) at ∷ rest) h = tt
  inside_under k (plan.Holds key stamp cause there stored ∷ rest) h = tt
  inside_under k (plan.Moment change ∷ rest) h = tt
  inside_under k (plan.Write key value moment ∷ rest) h = tt
  inside_under k (plan.Out removal key ∷ rest) h = tt
  inside_under k (plan.Notice key old cause upsert ∷ rest) h = tt
  inside_under k (plan.Heard ∷ rest) h = tt
  inside_under k (plan.Unlock wrote ∷ rest) h = tt
  inside_under k [] h = absurd h
  inside_under k (_ ∷ rest) h = absurd h

  under_not : (p : List (Item K V E)) → IsUnderLock p → Outside p → ⊥
  under_not (plan.Get (plan.To_evict key stamp cause) at ∷ rest) u o = o
  under_not (plan.Holds key stamp cause there stored ∷ rest) u o = o
  under_not (plan.Moment change ∷ rest) u o = o
  under_not (plan.Write key value moment ∷ rest) u o = o
  under_not (plan.Out removal key ∷ rest) u o = o
  under_not (plan.Notice key old cause upsert ∷ rest) u o = o
  under_not (plan.Heard ∷ rest) u o = o
  under_not (plan.Unlock wrote ∷ rest) u o = o
  under_not [] u o = u
  under_not (_ ∷ rest) u o = u

  inside_key : (k key : K) (p : List (Item K V E)) → Inside k p → locked_key p ≡ Some key → k ≡ key
  inside_key k key (plan.Get (plan.To_evict there stamp cause) at ∷ rest) h e = h.1 ∙ some_same e
  inside_key k key (plan.Holds at stamp cause there stored ∷ rest) h e = h.0 ∙ some_same e
  inside_key k key (plan.Moment change ∷ rest) h e = h.0 ∙ some_same e
  inside_key k key (plan.Write there value moment ∷ rest) h e = h.0 ∙ some_same e
  inside_key k key (plan.Out removal there ∷ rest) h e = h.0 ∙ some_same e
  inside_key k key (plan.Notice there old cause upsert ∷ rest) h e = h.0 ∙ some_same e
  inside_key k key [] h e = absurd h
  inside_key k key (_ ∷ rest) h e = absurd (none_some e)

  under_key : (key : K) (p : List (Item K V E)) → locked_key p ≡ Some key → IsUnderLock p
  under_key key (plan.Get (plan.To_evict there stamp cause) at ∷ rest) e = tt
  under_key key (plan.Holds at stamp cause there stored ∷ rest) e = tt
  under_key key (plan.Moment change ∷ rest) e = tt
  under_key key (plan.Write there value moment ∷ rest) e = tt
  under_key key (plan.Out removal there ∷ rest) e = tt
  under_key key (plan.Notice there old cause upsert ∷ rest) e = tt
  under_key key [] e = absurd (none_some e)
  under_key key (_ ∷ rest) e = absurd (none_some e)

  module _ (s : State K V E) (i : IsLocking s) where
    -- the key that a call is to write or to tell of is locked by it
    pub key_locked : (n : ℕ) (c : Call K V E) (key : K) → s.world.desk.rules.listener ≡ true → s.calls n ≡ Some c → locked_key c.plan ≡ Some key →
        s.world.desk.locked n ≡ Some key
    key_locked n c key on live e = by (s.world.desk.locked n) refl
      where
        by : (l : Option K) → s.world.desk.locked n ≡ l → l ≡ Some key
        by None f = absurd (under_not c.plan (under_key key c.plan e) (subst (λ v. Outside (plan_left v)) live ((i.locks n).outside on f)))
        by (Some k) f = ap Some (inside_key k key c.plan (subst (λ v. Inside k (plan_left v)) live ((i.locks n).inside on k f)) e)

    -- a call that holds a lock is live, and between its locking and its freeing
    pub locker_live : (n : ℕ) (k : K) → s.world.desk.rules.listener ≡ true → s.world.desk.locked n ≡ Some k → HoldsLock s n
    locker_live n k on e = by (s.calls n) refl ((i.locks n).inside on k e)
      where
        by : (o : Option (Call K V E)) → s.calls n ≡ o → Inside k (plan_left o) → HoldsLock s n
        by None is h = absurd h
        by (Some c) is h = record { call = c; live = is; under = inside_under k c.plan h }

    pub is_listening : (n : ℕ) → IsSome (s.world.desk.locked n) → s.world.desk.rules.listener ≡ true
    is_listening n some = by s.world.desk.rules.listener refl
      where
        by : (b : Bool) → s.world.desk.rules.listener ≡ b → b ≡ true
        by true e = refl
        by false e = absurd (false≢true (sym (ap is_some ((i.locks n).none e).0) ∙ some))

    -- the number of a call holds a lock exactly where that is between its locking and its freeing
    pub lock_is_held : (n : ℕ) → s.world.desk.rules.listener ≡ true → IsSome (s.world.desk.locked n) ↔ HoldsLock s n
    lock_is_held n on = ((λ some. by (s.world.desk.locked n) refl some), λ h. holds h (s.world.desk.locked n) refl)
      where
        by : (l : Option K) → s.world.desk.locked n ≡ l → IsSome l → HoldsLock s n
        by None e some = absurd (false≢true some)
        by (Some k) e some = locker_live n k on e

        holds : HoldsLock s n → (l : Option K) → s.world.desk.locked n ≡ l → IsSome l
        holds h (Some k) e = refl
        holds h None e = absurd (under_not h.call.plan h.under (subst (λ v. Outside (plan_left v)) h.live ((i.locks n).outside on e)))
