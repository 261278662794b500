-- What a call holds, by its plan.
use Rattle.std.proofs.Common.{◌≡◌, ◌≢◌, ℕ, ◌+◌, ◌<◌, ◌≤◌, ◌==◌, Bool, true, false, cond, List, [], ◌∷◌, ◌++◌, map, Option, Some, None, ◌⊎◌, inl, inr, refl, sym, ap, ◌∙◌, subst, arith}
use Rattle.std.proofs.lemmas.Bool.{eqb-true}
use Rattle.std.specs.Option.{option_map}
use Rattle.moka_hist.specs.Finite.{put_at, times}
use Rattle.moka_hist.specs.State.{State, World, Call, DeskPart}
use Rattle.moka_hist.specs.Plan.{Change, Item, Aim, held_by, plan_of, lists_from}
use Rattle.moka_hist.specs.Plan as plan
use Rattle.moka_hist.specs.Visits.{number_of, without_moment}
use Rattle.moka_laws.specs.Held.{MayAllLeave}
use Rattle.moka_hist.specs.Conditions.{held_number, numbers_of, IsPlaceOf, IsUnused, MayLeave, MayLeaveWith}
use Rattle.moka_hist.specs.Next.{Next, goes}
use Rattle.moka_hist.specs.Looking.{hits, misses, keeps as stays, finds_pair}
use Rattle.moka_hist.specs.Loading.{after_read, after_told}
use Rattle.moka_hist.specs.Step.{Step}
use Rattle.moka_hist.specs.Run.{IsReached, started, fresh_call}
use Rattle.moka_hist.specs.Places.{HeldAreKnown}
use Rattle.moka_hist.specs.declared.rules.Rules.{Rules}
use Rattle.moka_hist.specs.declared.events.Start.{Start}
use Rattle.moka_hist.specs.declared.events.Told.{Told}
use Rattle.moka_hist.specs.declared.events.Told.TheVariants as answer
use Rattle.moka_hist.specs.declared.loads.Load.{Load}
use Rattle.moka_hist.specs.declared.loads.Sought.{Sought}
use Rattle.moka_hist.specs.declared.records.Stored.{Stored}
use Rattle.moka_hist.specs.declared.visits.Settled.{Settled}
use Rattle.moka_hist.specs.declared.visits.Settled.TheVariants as settled
use Rattle.moka_hist.specs.declared.visits.Found.TheVariants as found
use Rattle.moka_hist.specs.declared.accesses.Turn.{Turn}
use Rattle.moka_hist.specs.declared.writes.Holding.{Holding}
use Rattle.moka_hist.specs.declared.writes.Holding.TheVariants as holding
use Rattle.moka_hist.specs.declared.writes.Write.{Write}
use Rattle.moka_hist.specs.declared.writes.Write.TheVariants.{Remove, Upsert}
use Rattle.moka_hist.specs.Plan.{Removal}
use Rattle.moka_hist.specs.declared.replies.Answer.{Answer}
use Rattle.moka_hist.specs.Writing.{nothing_answer, removed_answer, said}
use Rattle.moka_laws.proofs.Rules.{abort_next, put_plans, loaded_plans, kept_next, chosen_next, IsFresh, Disabled, fresh_plan, read_key_next, told_op_next, Walks_over}
use Rattle.moka_laws.proofs.Counting.{none_some, some_same, put_here, put_there, same_number}
use Rattle.moka_laws.proofs.Sums.{sum_holds}
use Rattle.moka_laws.proofs.Weights.{weigh, weigh_call}
use Rattle.moka_laws.proofs.Posts.{among, may_write, once, post_of}
use Rattle.moka_laws.proofs.Balance.{IsBalanced, among_append, owed_numbers, on_desk}
use Rattle.moka_laws.proofs.Balanced.{balanced_kept, next_free}
use Rattle.moka_laws.proofs.Owning.{plan_left}
use Rattle.moka_laws.proofs.Kept.{IsInvariant, in_reached}
use Rattle.moka_laws.proofs.StepCases.{OnStep, step_cases}
use Rattle.moka_laws.proofs.Outcomes.{Outcomes, outcomes}
use Rattle.moka_hist.specs.declared.loads.Compute.{Compute}
use Rattle.moka_hist.specs.Computing.{after_told_op, after_read_key}
use Rattle.moka_laws.proofs.Walks.{weigh_finds, weigh_walk, walk_is_walk, weigh_retiring}
use Rattle.moka_hist.specs.Maintenance.{carrying}

-- the call holds the place of a write of its own
abbrev IsOwn : Option Holding → Type 0
IsOwn h = (pending : Option ℕ) × (h ≡ Some (holding.Own pending))

-- the call holds at most that
abbrev MayOwn : Option Holding → Type 0
MayOwn h = (h ≡ None) ⊎ IsOwn h

-- no moment is pending with it any more
still_own : (h : Option Holding) → IsOwn h → IsOwn (option_map without_moment h)
still_own h own = (None, ap (option_map without_moment) own.1)

may_still : (h : Option Holding) → MayOwn h → MayOwn (option_map without_moment h)
may_still h (inl none) = inl (ap (option_map without_moment) none)
may_still h (inr own) = inr (still_own h own)

-- a call with no write but its own may leave, and has taken up none
own_leaves : (h : Option Holding) (n : ℕ) → IsOwn h → MayLeaveWith h n None
own_leaves h n own = subst (λ v. MayLeaveWith v n None) (sym own.1) tt

may_leave : (h : Option Holding) (n : ℕ) → MayOwn h → MayLeaveWith h n None
may_leave h n (inl none) = subst (λ v. MayLeaveWith v n None) (sym none) tt
may_leave h n (inr own) = own_leaves h n own

own_not : (h : Option Holding) (write : Write) → IsOwn h → h ≢ Some (holding.TookUp write)
own_not h write own e =
    let f : Some (holding.Own own.0) ≡ Some (holding.TookUp write) = sym own.1 ∙ e in cc

may_not : (h : Option Holding) (write : Write) → MayOwn h → h ≢ Some (holding.TookUp write)
may_not h write (inl none) e = none_some (sym none ∙ e)
may_not h write (inr own) e = own_not h write own e

-- the place of its own write has its number
own_number : (n : ℕ) (x : Holding) → IsOwn (Some x) → held_number n x ≡ n
own_number n x own = ap (held_number n) (some_same own.1)

may_number : (n : ℕ) (x : Holding) → MayOwn (Some x) → held_number n x ≡ n
may_number n x (inl none) = absurd (none_some (sym none))
may_number n x (inr own) = own_number n x own

-- what a call holds is still the place of the write, once no moment is pending
still_place : (h : Option Holding) (n : ℕ) (write : Write) → IsPlaceOf h n write → IsPlaceOf (option_map without_moment h) n write
still_place (Some (holding.TookUp held)) n write place = place
still_place _ n write place = place

-- the place of a call's own write is that of any of its number
own_place : (h : Option Holding) (n : ℕ) (write : Write) → number_of write ≡ n → IsOwn h →
    IsPlaceOf h n write
own_place h n write is own = subst (λ v. IsPlaceOf v n write) (sym own.1) is

pub place_number : (x : Holding) (n : ℕ) (write : Write) → IsPlaceOf (Some x) n write → held_number n x ≡ number_of write
place_number (holding.Own pending) n write place = sym place
place_number (holding.TookUp held) n write place = ap number_of (sym place)

module _ {K V E : Type 0} where
  -- the item needs the place of a write
  abbrev held : Item K V E → ℕ
  held (plan.Post write) = 1
  held (plan.Write key value moment) = 1
  held (plan.Out removal key) = 1
  held plan.Idle = 1
  held _ = 0

  -- What the call with this plan holds: the place of the write that it is to post or make first,
  -- and else nothing. Where nothing was taken out it may still hold its own place, which it gives
  -- back.
  abbrev pub HoldsAs : ℕ → Option Holding → List (Item K V E) → Type 0
  HoldsAs n h [] = h ≡ None
  HoldsAs n h (plan.Post write ∷ rest) = IsPlaceOf h n write × (weigh held rest ≡ 0)
  HoldsAs n h (plan.Write key value moment ∷ rest) = IsOwn h × (weigh held rest ≡ 0)
  HoldsAs n h (plan.Turn ∷ rest) = HoldsAs n h rest
  HoldsAs n h (plan.Apply ∷ rest) = HoldsAs n h rest
  HoldsAs n h (plan.End ∷ rest) = HoldsAs n h rest
  HoldsAs n h (plan.Ended number ∷ rest) = HoldsAs n h rest
  HoldsAs n h (plan.Notice key old cause upsert ∷ rest) = HoldsAs n h rest
  HoldsAs n h (plan.Heard ∷ rest) = HoldsAs n h rest
  HoldsAs n h (plan.Unlock true ∷ rest) = HoldsAs n h rest
  HoldsAs n h (plan.Unlock false ∷ rest) = MayOwn h × (weigh held rest ≡ 0)
  HoldsAs n h (plan.Out removal key ∷ rest) = IsOwn h × (weigh held rest ≡ 0)
  HoldsAs n h (plan.Idle ∷ rest) = IsOwn h × (weigh held rest ≡ 0)
  HoldsAs n h (_ ∷ rest) = (h ≡ None) × (weigh held rest ≡ 0)

  -- ---- plans that need no place

  fresh_free : (rules : Rules) (p : List (Item K V E)) → IsFresh rules p → weigh held p ≡ 0
  fresh_free rules p (Disabled a d plain) = refl
  fresh_free rules p (Walks_over parts able) =
      weigh_walk held (record { list = λ part. refl; find = λ key. refl; scan = λ there stored. refl; end = refl; choose = λ parts. refl; strike = λ there stored. refl; retire = refl }) p (walk_is_walk 0 parts)
  fresh_free rules p _ = refl

  stays_weighs : (c : Call K V E) → weigh_call held (stays c).left ≡ 0
  stays_weighs c = kept_next (λ v. weigh_call held v.left ≡ 0) c (λ off. refl) (λ on. refl)

  misses_weigh : (c : Call K V E) (aim : Aim K V) → weigh_call held (misses c aim).left ≡ 0
  misses_weigh c (plan.To_insert key value) =
      put_plans (λ p. weigh_call held (goes c p).left ≡ 0) c.rules key value _ refl refl
  misses_weigh c (plan.To_evict key stamp cause) = stays_weighs c
  misses_weigh c _ = refl

  finds_weigh : (c : Call K V E) (aim : Aim K V) (k : K) (stored : Stored V) →
      weigh_call held (finds_pair c aim k stored).left ≡ 0
  finds_weigh c (plan.To_evict key stamp cause) k stored =
      chosen_next (λ v. weigh_call held v.left ≡ 0) c key stamp cause k stored (λ off. refl)
      (λ on. refl) refl
  finds_weigh c _ k stored = refl

  module _ (n : ℕ) (h : Option Holding) where
    free_holds : (rest : List (Item K V E)) → weigh held rest ≡ 0 → h ≡ None → HoldsAs n h rest
    free_holds [] e none = none
    free_holds (plan.Post write ∷ rest) e none = absurd (omega arith)
    free_holds (plan.Write key value moment ∷ rest) e none = absurd (omega arith)
    free_holds (plan.Turn ∷ rest) e none = free_holds rest (omega arith) none
    free_holds (plan.Apply ∷ rest) e none = free_holds rest (omega arith) none
    free_holds (plan.End ∷ rest) e none = free_holds rest (omega arith) none
    free_holds (plan.Ended number ∷ rest) e none = free_holds rest (omega arith) none
    free_holds (plan.Notice key old cause upsert ∷ rest) e none = free_holds rest (omega arith) none
    free_holds (plan.Heard ∷ rest) e none = free_holds rest (omega arith) none
    free_holds (plan.Unlock true ∷ rest) e none = free_holds rest (omega arith) none
    free_holds (plan.Unlock false ∷ rest) e none = (inl none, omega arith)
    free_holds (plan.Out removal key ∷ rest) e none = absurd (omega arith)
    free_holds (plan.Idle ∷ rest) e none = absurd (omega arith)
    free_holds (_ ∷ rest) e none = (none, omega arith)

    left_holds : (left : Option (Call K V E)) → weigh_call held left ≡ 0 → h ≡ None → HoldsAs n h (plan_left left)
    left_holds None e none = none
    left_holds (Some c) e none = free_holds c.plan e none

    goes_holds : (c : Call K V E) (rest : List (Item K V E)) → HoldsAs n h rest → HoldsAs n h (plan_left (goes c rest).left)
    goes_holds c (plan.Reply a ∷ []) q = q.0
    goes_holds c _ q = q

    hits_holds : (c : Call K V E) (aim : Aim K V) (there : K) (value : V) → HoldsAs n h c.plan →
        h ≡ None →
        HoldsAs n h (plan_left (hits c aim there value).left)
    hits_holds c (plan.To_own sought) there value p none = (none, refl)
    hits_holds c (plan.To_compute compute) there value p none = (none, refl)
    hits_holds c (plan.To_evict key stamp cause) there value p none = p
    hits_holds c _ there value p none = none

    read_holds : (c : Call K V E) (sought : Sought K) (with : Settled V E) → HoldsAs n h c.plan → h ≡ None →
        HoldsAs n h (plan_left (after_read c sought (found.ReadSettled with)).left)
    read_holds c sought settled.NotYet p none = p
    read_holds c sought settled.Aborted p none =
        left_holds _ (abort_next (λ v. weigh_call held v.left ≡ 0) c sought refl refl) none
    read_holds c sought _ p none = none

    read_key_holds : (c : Call K V E) (compute : Compute K) (with : Settled V E) →
        HoldsAs n h c.plan → h ≡ None →
        HoldsAs n h (plan_left (after_read_key c compute (found.ReadSettled with)).left)
    read_key_holds c compute with p none =
        read_key_next (λ v. HoldsAs n h (plan_left v.left)) c compute with
        (p)
        (none, refl)

    told_holds : (c : Call K V E) (load : Load K) (given : Told V E) → HoldsAs n h c.plan → h ≡ None →
        HoldsAs n h (plan_left (after_told c load (found.TakeTold (Some given))).left)
    told_holds c load (answer.Value value) p none =
        loaded_plans (λ p. HoldsAs n h (plan_left (goes c p).left)) c.rules load value (none, refl)
        (none, refl)
        (none, refl)
    told_holds c load answer.Nothing p none = (none, refl)
    told_holds c load (answer.Err error) p none = (none, refl)
    told_holds c load _ p none = p

    told_op_holds : (c : Call K V E) (compute : Compute K) (pair : Option (K × V))
        (given : Told V E) → HoldsAs n h c.plan → h ≡ None →
        HoldsAs n h (plan_left (after_told_op c compute pair (found.TakeTold (Some given))).left)
    told_op_holds c compute pair given p none =
        told_op_next (λ v. HoldsAs n h (plan_left v.left)) c compute pair given
        (λ a. (none, refl))
        (λ value able off. (none, refl))
        (λ value able on. (none, refl))
        (λ off. (none, refl))
        (λ on. (none, refl))
        (p)

  -- what a call holds is as much as before, once no moment is pending with it
  still_holds : (n : ℕ) (h : Option Holding) (rest : List (Item K V E)) → HoldsAs n h rest → HoldsAs n (option_map without_moment h) rest
  still_holds n h [] q = ap (option_map without_moment) q
  still_holds n h (plan.Post write ∷ rest) q = (still_place h n write q.0, q.1)
  still_holds n h (plan.Write key value moment ∷ rest) q = ((None, ap (option_map without_moment) q.0.1), q.1)
  still_holds n h (plan.Turn ∷ rest) q = still_holds n h rest q
  still_holds n h (plan.Apply ∷ rest) q = still_holds n h rest q
  still_holds n h (plan.End ∷ rest) q = still_holds n h rest q
  still_holds n h (plan.Ended number ∷ rest) q = still_holds n h rest q
  still_holds n h (plan.Notice key old cause upsert ∷ rest) q = still_holds n h rest q
  still_holds n h (plan.Heard ∷ rest) q = still_holds n h rest q
  still_holds n h (plan.Unlock true ∷ rest) q = still_holds n h rest q
  still_holds n h (plan.Unlock false ∷ rest) q = (may_still h q.0, q.1)
  still_holds n h (plan.Out removal key ∷ rest) q = (still_own h q.0, q.1)
  still_holds n h (plan.Idle ∷ rest) q = (still_own h q.0, q.1)
  still_holds n h (_ ∷ rest) q = (ap (option_map without_moment) q.0, q.1)

  -- what a step has to show: what this call holds then, and that the others hold what they held
  record Leaves (d : DeskPart K V E) (n : ℕ) (held : ℕ → Option Holding) (left : Option (Call K V E)) : Type 0 where
    own : HoldsAs n (held n) (plan_left left)
    others : (m : ℕ) → (n == m) ≡ false → held m ≡ d.holding m

  module _ (d : DeskPart K V E) (n : ℕ) where
    -- nothing has changed of what calls hold, or of what this one holds alone
    keeps : {left : Option (Call K V E)} → HoldsAs n (d.holding n) (plan_left left) → Leaves d n d.holding left
    keeps q = record { own = q; others = λ m e. refl }

    holds_now : {left : Option (Call K V E)} (h : Option Holding) → HoldsAs n h (plan_left left) → Leaves d n (put_at d.holding n h) left
    holds_now {left} h q = record {
      own = subst (λ v. HoldsAs n v (plan_left left)) (sym (put_here d.holding n h)) q;
      others = λ m e. put_there d.holding n h m e;
    }

  said_free : (removal : Removal K) (a : Answer K V E) → weigh held (said removal a) ≡ 0
  said_free (plan.To_remove_as_told key) a = refl
  said_free _ a = refl

  module _ (eq : K → K → Bool) (w : World K V E) (n : ℕ) (c : Call K V E) where
    abbrev After : World K V E → Next K V E → Type 0
    After new next = Leaves w.desk n new.desk.holding next.left

    on_item : (item : Item K V E) (rest : List (Item K V E)) → HoldsAs n (w.desk.holding n) c.plan → HoldsAs n (w.desk.holding n) (item ∷ rest) →
        Outcomes eq After w n c item rest
    on_item plan.Drain rest p q = (
      λ e. keeps w.desk n (goes_holds n _ c rest (free_holds n _ rest q.1 q.0)),
      λ x xs e. holds_now w.desk n (Some (holding.TookUp x)) (refl, omega (arith, q.1)),
      λ x number xs e. holds_now w.desk n (Some (holding.TookUp x)) (refl, omega (arith, q.1)),
    )
    on_item (plan.Lock key) rest p q =
        ((λ e. keeps w.desk n (goes_holds n _ c rest (free_holds n _ rest q.1 q.0))), λ e. keeps w.desk n p)
    on_item (plan.Unlock true) rest p q =
        holds_now w.desk n _ (goes_holds n _ c rest (still_holds n (w.desk.holding n) rest q))
    on_item (plan.Unlock false) rest p q =
        holds_now w.desk n None (goes_holds n None c rest (free_holds n None rest q.1 refl))
    on_item (plan.Notice key old cause upsert) rest p q = (
      λ e. holds_now w.desk n _ (goes_holds n _ c rest (still_holds n (w.desk.holding n) rest q)),
      λ e. holds_now w.desk n _ (still_holds n (w.desk.holding n) rest q),
    )
    on_item (plan.Post write) rest p q = (
      λ e. holds_now w.desk n None (goes_holds n None c rest (free_holds n None rest q.1 refl)),
      λ e. holds_now w.desk n _ (still_place (w.desk.holding n) n write q.0, q.1),
    )
    on_item plan.Apply rest p q = (λ e. keeps w.desk n (goes_holds n _ c rest q), λ x xs e. keeps w.desk n q)
    on_item plan.End rest p q = keeps w.desk n (goes_holds n _ c rest q)
    on_item (plan.Get aim key) rest p q = (
      (λ more. keeps w.desk n p),
      (λ none. keeps w.desk n (left_holds n _ _ (misses_weigh c aim) q.0)),
      λ k stored some. keeps w.desk n (left_holds n _ _ (finds_weigh c aim k stored) q.0),
    )
    on_item (plan.Judge aim key stored) rest p q = (
      (λ seen. keeps w.desk n (hits_holds n _ c aim key stored.value p q.0)),
      λ unseen. keeps w.desk n (left_holds n _ _ (misses_weigh c aim) q.0),
    )
    on_item (plan.Own sought) rest p q = (
      (λ able e. keeps w.desk n (q.0, refl)),
      (λ not e. keeps w.desk n (q.0, refl)),
      λ owner e. keeps w.desk n (q.0, refl),
    )
    on_item (plan.Own_key compute) rest p q = (
      ((λ able e. keeps w.desk n (q.0, refl)), λ not e. keeps w.desk n (q.0, refl)),
      λ owner e. keeps w.desk n (q.0, refl),
    )
    on_item (plan.Own_alone key) rest p q = (
      ((λ able e. keeps w.desk n (q.0, refl)), λ not e. keeps w.desk n (q.0, refl)),
      λ owner e. ((λ able. keeps w.desk n (q.0, refl)), λ not. keeps w.desk n (q.0, refl)),
    )
    on_item (plan.Read sought) rest p q = (λ e. keeps w.desk n p, λ with e. keeps w.desk n (read_holds n _ c sought with p q.0))
    on_item (plan.Read_key compute) rest p q =
        (λ e. keeps w.desk n p, λ with e. keeps w.desk n (read_key_holds n _ c compute with p q.0))
    on_item (plan.Settle with) rest p q = keeps w.desk n (goes_holds n _ c rest (free_holds n _ rest q.1 q.0))
    on_item (plan.Ask load) rest p q = keeps w.desk n (q.0, refl)
    on_item (plan.Ask_op compute pair) rest p q = keeps w.desk n (q.0, refl)
    on_item (plan.Told load) rest p q = (λ e. keeps w.desk n p, λ given e. keeps w.desk n (told_holds n _ c load given p q.0))
    on_item (plan.Told_op compute pair) rest p q = (
      λ e. keeps w.desk n p,
      λ given e. keeps w.desk n (told_op_holds n _ c compute pair given p q.0),
    )
    on_item (plan.Holds key stamp cause there stored) rest p q = (
      (λ e. keeps w.desk n (q.0, refl)),
      λ e. keeps w.desk n (left_holds n _ _ (stays_weighs c) q.0),
    )
    on_item (plan.Moment (plan.To_store key value)) rest p q =
        holds_now w.desk n (Some (holding.Own (Some w.desk.clock))) ((Some w.desk.clock, refl), q.1)
    on_item (plan.Moment (plan.To_take_out removal key)) rest p q =
        holds_now w.desk n (Some (holding.Own (Some w.desk.clock))) ((Some w.desk.clock, refl), q.1)
    on_item (plan.Write key value moment) rest p q =
        let place = λ (old : Option ℕ). own_place (w.desk.holding n) n (Upsert n old) refl q.0 in (
          (λ more. keeps w.desk n p),
          (λ off old. keeps w.desk n (place old, q.1)),
          (λ on. keeps w.desk n (place None, q.1)),
          λ k old on some. keeps w.desk n (place (Some old.stamp), q.1),
        )
    on_item (plan.Out removal key) rest p q =
        let place = λ (old : ℕ). own_place (w.desk.holding n) n (Remove n old) refl q.0 in (
          (λ more. keeps w.desk n p),
          (λ off none. keeps w.desk n (q.0, said_free removal (nothing_answer removal))),
          (λ on none. keeps w.desk n (inr q.0, said_free removal (nothing_answer removal))),
          (λ k old off some. keeps w.desk n (place old.stamp, said_free removal (removed_answer removal old.value))),
          λ k old on some. keeps w.desk n (place old.stamp, said_free removal (removed_answer removal old.value)),
        )
    on_item plan.Invalidate_all rest p q =
        keeps w.desk n (goes_holds n _ c rest (free_holds n _ rest q.1 q.0))
    on_item (plan.Register test) rest p q = keeps w.desk n q.0
    on_item (plan.Candidates parts) rest p q = (
      (λ none. keeps w.desk n q.0),
      λ id more some. keeps w.desk n
          (goes_holds n _ (carrying c (id ∷ more)) (lists_from 0 parts (plan.Retire ∷ []))
          (free_holds n _ (lists_from 0 parts (plan.Retire ∷ [])) (weigh_retiring held (λ part. refl) refl parts) q.0)),
    )
    on_item (plan.Strike there stored) rest p q =
        keeps w.desk n (goes_holds n _ (carrying c _) rest (free_holds n _ rest q.1 q.0))
    on_item plan.Retire rest p q = keeps w.desk n q.0
    on_item (plan.List_keys part) rest p q = (
      (λ more. keeps w.desk n p),
      λ listed keys e gives. keeps w.desk n
          (goes_holds n (w.desk.holding n) c (map plan.Find keys ++ rest)
          (free_holds n (w.desk.holding n) (map plan.Find keys ++ rest) (weigh_finds held (λ key. refl) keys rest ∙ q.1) q.0)),
    )
    on_item (plan.Find key) rest p q = (
      (λ more. keeps w.desk n p),
      (λ none. keeps w.desk n (goes_holds n _ c rest (free_holds n _ rest q.1 q.0))),
      (λ k stored some none. keeps w.desk n (q.0, q.1)),
      λ k stored ids some is. keeps w.desk n (q.0, q.1),
    )
    on_item (plan.Scan there stored) rest p q = (
      (λ seen. keeps w.desk n (free_holds n _ rest q.1 q.0)),
      λ unseen. keeps w.desk n (goes_holds n _ c rest (free_holds n _ rest q.1 q.0)),
    )
    on_item plan.Idle rest p q =
        holds_now w.desk n None (goes_holds n None c rest (free_holds n None rest q.1 refl))
    on_item (plan.Reply answer) rest p q = holds_now w.desk n None refl
    on_item _ rest p q = (λ e. keeps w.desk n (goes_holds n _ c rest q), λ e. keeps w.desk n p)

    on_plan : (plan : List (Item K V E)) → c.plan ≡ plan → HoldsAs n (w.desk.holding n) c.plan → OnStep eq After w n c plan
    on_plan [] e p = holds_now w.desk n None (subst (HoldsAs n None) (sym e) refl)
    on_plan (item ∷ rest) e p = outcomes eq After w n c item rest (on_item item rest p (subst (HoldsAs n (w.desk.holding n)) e p))

  -- ---- of a state

  -- What each call holds is what its plan needs, and a call that isn't live holds nothing.
  pub record IsHolding (s : State K V E) : Type 0 where
    pub balanced : IsBalanced s
    pub holds : (n : ℕ) → HoldsAs n (s.world.desk.holding n) (plan_left (s.calls n))

  holds_on : (s : State K V E) (n : ℕ) (w : World K V E) (left : Option (Call K V E)) → IsHolding s → Leaves s.world.desk n w.desk.holding left →
      let t : State K V E = record { world = w; calls = put_at s.calls n left } in
      IsBalanced t → IsHolding t
  holds_on s n w left i l balanced = record { balanced = balanced; holds = λ m. by m (n == m) refl }
    where
      by : (m : ℕ) (b : Bool) → (n == m) ≡ b → HoldsAs m (w.desk.holding m) (plan_left (put_at s.calls n left m))
      by m true e =
          subst (λ v. HoldsAs v (w.desk.holding v) (plan_left (put_at s.calls n left v))) (eqb-true n m e)
          (subst (λ v. HoldsAs n (w.desk.holding n) (plan_left v)) (sym (put_here s.calls n left)) l.own)
      by m false e =
          subst (λ v. HoldsAs m (w.desk.holding m) (plan_left v)) (sym (put_there s.calls n left m e))
          (subst (λ v. HoldsAs m v (plan_left (s.calls m))) (sym (l.others m e)) (i.holds m))

module _ {K V E : Type 0} where
  -- the numbers that stand with the desk
  pub numbers_stand : (x : ℕ) (d : DeskPart K V E) → times x (numbers_of d) ≡ on_desk x d
  numbers_stand x d =
      let writes : List Write = map (λ o. o.write) d.owed in
      let all : times x (numbers_of d) ≡ among x (writes ++ d.log) + among x d.applied = among_append x (writes ++ d.log) d.applied in
      omega (arith, among_append x writes d.log, ap (times x) (owed_numbers d.owed))

module _ {K V E : Type 0} (eq : K → K → Bool) where
  holding_step : (s t : State K V E) (n : ℕ) (turn : Turn K V E) → IsHolding s → Step eq s n turn t → IsHolding t
  holding_step s t n turn i step =
      let c : Call K V E = step.call in
      let p : HoldsAs n (s.world.desk.holding n) c.plan =
      subst (λ v. HoldsAs n (s.world.desk.holding n) (plan_left v)) step.live (i.holds n) in
      let kept : IsBalanced t → IsHolding t =
      step_cases eq (λ new next. Leaves s.world.desk n new.desk.holding next.left) (λ v _. IsBalanced v → IsHolding v) s t n turn step
      (on_plan eq s.world n c c.plan refl p) (λ w next l. holds_on s n w next.left i l) in
      kept ((balanced_kept eq).step s t n turn i.balanced step)

  -- a step leaves what other calls hold
  pub others_hold : (s t : State K V E) (n : ℕ) (turn : Turn K V E) → IsHolding s → Step eq s n turn t →
      (m : ℕ) → (n == m) ≡ false →
      t.world.desk.holding m ≡ s.world.desk.holding m
  others_hold s t n turn i step =
      let c : Call K V E = step.call in
      let p : HoldsAs n (s.world.desk.holding n) c.plan =
      subst (λ v. HoldsAs n (s.world.desk.holding n) (plan_left v)) step.live (i.holds n) in
      step_cases eq (λ new next. Leaves s.world.desk n new.desk.holding next.left)
      (λ v _. (m : ℕ) → (n == m) ≡ false → v.world.desk.holding m ≡
      s.world.desk.holding m) s t n turn step
      (on_plan eq s.world n c c.plan refl p) (λ w next l. l.others)

  holding_start : (s : State K V E) (start : Start K V) → IsHolding s → IsHolding (started s start)
  holding_start s start i =
      let new : ℕ = s.world.desk.last + 1 in
      let none : s.world.desk.holding new ≡ None =
      subst (λ v. HoldsAs new (s.world.desk.holding new) (plan_left v)) (next_free s i.balanced) (i.holds new) in
      holds_on s new _ (Some (fresh_call s.world.table.division.parts s.world.desk.rules start)) i (record { own = free_holds new _ (plan_of s.world.table.division.parts s.world.desk.rules start) (fresh_free s.world.desk.rules _ (fresh_plan s.world.table.division.parts s.world.desk.rules start)) none; others = λ m e. refl })
      ((balanced_kept eq).start s start i.balanced)

  pub holding_kept : IsInvariant eq (IsHolding {K = K} {V = V} {E = E})
  holding_kept = record {
    fresh = λ division divides rules size built has_log. record { balanced = (balanced_kept eq).fresh division divides rules size built has_log; holds = λ n. refl };
    at = λ s moment i. record { balanced = (balanced_kept eq).at s moment i.balanced; holds = i.holds };
    start = holding_start;
    step = holding_step;
    tell = λ s n given asked i. record { balanced = (balanced_kept eq).tell s n given asked i.balanced; holds = i.holds };
    hear = λ s n off running i. record { balanced = (balanced_kept eq).hear s n off running i.balanced; holds = i.holds };
    drop = λ s n c live between i.
        holds_on s n _ None i (record { own = put_here s.world.desk.holding n None; others = λ m e. put_there s.world.desk.holding n None m e })
        ((balanced_kept eq).drop s n c live between i.balanced);
  }

  pub in_holding : (s : State K V E) → IsReached eq s → IsHolding s
  in_holding s h = in_reached eq IsHolding holding_kept s h

  -- ---- what follows

  free_by : (rest : List (Item K V E)) → weigh held rest ≡ 0 → held_by rest ≡ None
  free_by [] e = refl
  free_by (plan.Post write ∷ rest) e = absurd (omega arith)
  free_by (plan.Write key value moment ∷ rest) e = absurd (omega arith)
  free_by (_ ∷ rest) e = free_by rest (omega arith)

  place_of : (n : ℕ) (h : Option Holding) (write : Write) (plan : List (Item K V E)) → HoldsAs n h plan → held_by plan ≡ Some write → IsPlaceOf h n write
  place_of n h write [] q e = absurd (none_some e)
  place_of n h write (plan.Post held ∷ rest) q e = subst (IsPlaceOf h n) (some_same e) q.0
  place_of n h write (plan.Turn ∷ rest) q e = place_of n h write rest q e
  place_of n h write (plan.Apply ∷ rest) q e = place_of n h write rest q e
  place_of n h write (plan.End ∷ rest) q e = place_of n h write rest q e
  place_of n h write (plan.Ended number ∷ rest) q e = place_of n h write rest q e
  place_of n h write (plan.Notice key old cause upsert ∷ rest) q e = place_of n h write rest q e
  place_of n h write (plan.Heard ∷ rest) q e = place_of n h write rest q e
  place_of n h write (plan.Unlock true ∷ rest) q e = place_of n h write rest q e
  place_of n h write (_ ∷ rest) q e = absurd (none_some (sym (free_by rest q.1) ∙ e))

  -- a call whose plan posts no write took none up
  leaves_none : (n : ℕ) (h : Option Holding) (plan : List (Item K V E)) → HoldsAs n h plan → held_by plan ≡ None → MayLeaveWith h n None
  leaves_none n h [] q e = subst (λ v. MayLeaveWith v n None) (sym q) tt
  leaves_none n h (plan.Post held ∷ rest) q e = absurd (none_some (sym e))
  leaves_none n h (plan.Write key value moment ∷ rest) q e = own_leaves h n q.0
  leaves_none n h (plan.Turn ∷ rest) q e = leaves_none n h rest q e
  leaves_none n h (plan.Apply ∷ rest) q e = leaves_none n h rest q e
  leaves_none n h (plan.End ∷ rest) q e = leaves_none n h rest q e
  leaves_none n h (plan.Ended number ∷ rest) q e = leaves_none n h rest q e
  leaves_none n h (plan.Notice key old cause upsert ∷ rest) q e = leaves_none n h rest q e
  leaves_none n h (plan.Heard ∷ rest) q e = leaves_none n h rest q e
  leaves_none n h (plan.Unlock true ∷ rest) q e = leaves_none n h rest q e
  leaves_none n h (plan.Unlock false ∷ rest) q e = may_leave h n q.0
  leaves_none n h (plan.Out removal key ∷ rest) q e = own_leaves h n q.0
  leaves_none n h (plan.Idle ∷ rest) q e = own_leaves h n q.0
  leaves_none n h (_ ∷ rest) q e = subst (λ v. MayLeaveWith v n None) (sym q.0) tt

  pub none_left : (s : State K V E) → IsHolding s → (n : ℕ) (c : Call K V E) → s.calls n ≡ Some c → held_by c.plan ≡ None →
      MayLeaveWith (s.world.desk.holding n) n None
  none_left s i n c live e =
      leaves_none n (s.world.desk.holding n) c.plan (subst (λ v. HoldsAs n (s.world.desk.holding n) (plan_left v)) live (i.holds n)) e

  -- the desk knows each write that a live call holds
  pub known_held : (s : State K V E) → IsHolding s → HeldAreKnown s
  known_held s i n c write live e =
      place_of n (s.world.desk.holding n) write c.plan
      (subst (λ v. HoldsAs n (s.world.desk.holding n) (plan_left v)) live (i.holds n)) e

  -- a live call may leave what it holds
  may_leave_it : (s : State K V E) → IsHolding s → (n : ℕ) (c : Call K V E) → s.calls n ≡ Some c → (o : Option Write) → held_by c.plan ≡ o →
      MayLeave s.world.desk n o
  may_leave_it s i n c live None e = none_left s i n c live e
  may_leave_it s i n c live (Some write) e = known_held s i n c write live e

  pub all_leave : (s : State K V E) → IsReached eq s → MayAllLeave s
  all_leave s h n c live = may_leave_it s (in_holding s h) n c live (held_by c.plan) refl

  pub held_known : (s : State K V E) → IsReached eq s → HeldAreKnown s
  held_known s h = known_held s (in_holding s h)

  -- what the rest of a plan posts, the plan does
  later : (n : ℕ) (x : Holding) (rest : List (Item K V E)) (item : Item K V E) →
      weigh (post_of (held_number n x)) rest ≤ weigh (post_of (held_number n x)) (item ∷ rest) →
      (0 < weigh (post_of (held_number n x)) rest) ⊎ (held_number n x ≡ n) →
      (0 < weigh (post_of (held_number n x)) (item ∷ rest)) ⊎ (held_number n x ≡ n)
  later n x rest item posts (inl h) = inl (omega (arith, posts))
  later n x rest item posts (inr h) = inr h

  -- a call that holds something posts the write of that number, or holds the place of its own
  held_way : (n : ℕ) (x : Holding) (plan : List (Item K V E)) → HoldsAs n (Some x) plan →
      (0 < weigh (post_of (held_number n x)) plan) ⊎ (held_number n x ≡ n)
  held_way n x [] q = absurd (none_some (sym q))
  held_way n x (plan.Post write ∷ rest) q =
      let one : once (held_number n x) (number_of write) ≡ 1 =
      ap (λ v. once v (number_of write)) (place_number x n write q.0) ∙ ap (λ b. cond {A = ℕ} b 1 0) (same_number (number_of write)) in
      inl (omega arith)
  held_way n x (plan.Write key value moment ∷ rest) q = inr (own_number n x q.0)
  held_way n x (plan.Turn ∷ rest) q = later n x rest plan.Turn (omega arith) (held_way n x rest q)
  held_way n x (plan.Apply ∷ rest) q = later n x rest plan.Apply (omega arith) (held_way n x rest q)
  held_way n x (plan.End ∷ rest) q = later n x rest plan.End (omega arith) (held_way n x rest q)
  held_way n x (plan.Ended number ∷ rest) q =
      later n x rest (plan.Ended number) (omega arith) (held_way n x rest q)
  held_way n x (plan.Notice key old cause upsert ∷ rest) q =
      later n x rest (plan.Notice key old cause upsert) (omega arith) (held_way n x rest q)
  held_way n x (plan.Heard ∷ rest) q = later n x rest plan.Heard (omega arith) (held_way n x rest q)
  held_way n x (plan.Unlock true ∷ rest) q =
      later n x rest (plan.Unlock true) (omega arith) (held_way n x rest q)
  held_way n x (plan.Unlock false ∷ rest) q = inr (may_number n x q.0)
  held_way n x (plan.Out removal key ∷ rest) q = inr (own_number n x q.0)
  held_way n x (plan.Idle ∷ rest) q = inr (own_number n x q.0)
  held_way n x (_ ∷ rest) q = absurd (none_some (sym q.0))

  -- a call that gives its place back has taken up no write
  pub idle_free : (n : ℕ) (h : Option Holding) (rest : List (Item K V E)) (write : Write) →
      HoldsAs n h (plan.Idle ∷ rest) → h ≢ Some (holding.TookUp write)
  idle_free n h rest write q = own_not h write q.0

  pub freeing_free : (n : ℕ) (h : Option Holding) (rest : List (Item K V E)) (write : Write) →
      HoldsAs n h (plan.Unlock false ∷ rest) → h ≢ Some (holding.TookUp write)
  freeing_free n h rest write q = may_not h write q.0

  module _ (s : State K V E) (i : IsHolding s) where
    live_posts : (m x : ℕ) (o : Option (Call K V E)) → s.calls m ≡ o → 0 < weigh (post_of x) (plan_left o) → 0 < weigh_call (post_of x) (s.calls m) × (m ≤ s.world.desk.last)
    live_posts m x None e h = absurd (omega arith)
    live_posts m x (Some c) e h = (omega (arith, h, ap (weigh_call (post_of x)) e), i.balanced.numbered m c e)

    -- a call that is to take the moment of its write holds none, and no write of its number is
    -- anywhere
    pub is_unused : (n : ℕ) (c : Call K V E) (change : Change K V) (rest : List (Item K V E)) →
        s.calls n ≡ Some c → c.plan ≡ plan.Moment change ∷ rest →
        (s.world.desk.holding n ≡ None) × IsUnused s.world.desk n
    is_unused n c change rest live e =
        let q : HoldsAs n (s.world.desk.holding n) (plan.Moment change ∷ rest) =
        subst (HoldsAs n (s.world.desk.holding n)) e (subst (λ v. HoldsAs n (s.world.desk.holding n) (plan_left v)) live (i.holds n)) in
        let spent : times n s.world.table.committed ≡ 0 = omega (arith, i.balanced.unspent n c live, ap (weigh may_write) e) in (
          q.0,
          record {
            stands = omega (arith, numbers_stand n s.world.desk, i.balanced.balance n);
            held = λ m x h is. apart q.0 spent m x h is;
          },
        )
      where
        apart : s.world.desk.holding n ≡ None → times n s.world.table.committed ≡ 0 → (m : ℕ) (x : Holding) → s.world.desk.holding m ≡ Some x → held_number m x ≡ n → ⊥
        apart none spent m x h is = by (held_way m x (plan_left (s.calls m)) (subst (λ v. HoldsAs m v (plan_left (s.calls m))) h (i.holds m)))
          where
            by : (0 < weigh (post_of (held_number m x)) (plan_left (s.calls m))) ⊎
                (held_number m x ≡ m) → ⊥
            by (inl posts) =
                let one = live_posts m n (s.calls m) refl (subst (λ v. 0 < weigh (post_of v) (plan_left (s.calls m))) is posts) in
                omega (arith, one.0, i.balanced.balance n, sum_holds s.world.desk.last (λ v. weigh_call (post_of n) (s.calls v)) m one.1)
            by (inr own) = none_some (sym none ∙ ap s.world.desk.holding (sym is ∙ own) ∙ h)
