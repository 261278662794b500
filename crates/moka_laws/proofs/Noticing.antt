-- Notices are numbered by their writes, which are logged only once the listener has answered.
use Rattle.std.proofs.Common.{◌≡◌, ◌≢◌, ◌⊎◌, inl, inr, ℕ, ◌+◌, ◌≤◌, ◌==◌, ◌||◌, Bool, true, false, cond, List, [], ◌∷◌, ◌++◌, map, Option, Some, None, is_some, IsSome, refl, sym, ap, ◌∙◌, subst, arith}
use Rattle.std.proofs.lemmas.Bool.{eqb-true, false≢true}
use Rattle.std.specs.Option.{option_map, option_map_or, option_to_list}
use Rattle.moka_hist.specs.declared.replies.Answer.TheVariants as reply
use Rattle.moka_hist.specs.Finite.{put_at, times}
use Rattle.moka_hist.specs.State.{State, World, Call, DeskPart}
use Rattle.moka_hist.specs.Plan.{Item, Aim, held_by, hearing, plan_of}
use Rattle.moka_hist.specs.Plan as plan
use Rattle.moka_hist.specs.Next.{Next, goes}
use Rattle.moka_hist.specs.Looking.{hits, misses, keeps, finds_pair}
use Rattle.moka_hist.specs.Loading.{after_read, after_told}
use Rattle.moka_hist.specs.Dropping.{dropped, owed_with, running_of}
use Rattle.moka_hist.specs.Telling.{ended, with_end}
use Rattle.moka_hist.specs.Step.{Step}
use Rattle.moka_hist.specs.Run.{IsReached, started, fresh_call}
use Rattle.moka_hist.specs.Visits.{number_of, is_running, runs}
use Rattle.moka_hist.specs.declared.events.Start.{Start}
use Rattle.moka_hist.specs.declared.events.Told.{Told}
use Rattle.moka_hist.specs.declared.events.Told.TheVariants as answer
use Rattle.moka_hist.specs.declared.loads.Load.{Load}
use Rattle.moka_hist.specs.declared.loads.Sought.{Sought}
use Rattle.moka_hist.specs.declared.notices.Notice.{Notice}
use Rattle.moka_hist.specs.declared.notices.NoticeState.{NoticeState}
use Rattle.moka_hist.specs.declared.notices.NoticeState.TheVariants as notice
use Rattle.moka_hist.specs.Notices.{OpensNotice}
use Rattle.moka_hist.specs.declared.records.Mode.TheVariants as mode
use Rattle.moka_hist.specs.declared.records.Stored.{Stored}
use Rattle.moka_hist.specs.declared.rules.Rules.{Rules}
use Rattle.moka_hist.specs.declared.visits.Settled.{Settled}
use Rattle.moka_hist.specs.declared.visits.Settled.TheVariants as settled
use Rattle.moka_hist.specs.declared.visits.Found.TheVariants as found
use Rattle.moka_hist.specs.declared.accesses.Turn.{Turn}
use Rattle.moka_hist.specs.declared.writes.Owed.{Owed}
use Rattle.moka_hist.specs.declared.writes.Write.{Write}
use Rattle.moka_laws.proofs.Counting.{none_some, some_same, put_cases, put_here, put_there, same_number, other_number, differ}
use Rattle.moka_laws.proofs.Sums.{sum_to, sum_next, sum_same, sum_change, sum_holds}
use Rattle.moka_laws.proofs.Weights.{weigh_call}
use Rattle.moka_laws.proofs.Posts.{once, among, among_owed, post_of, posts_held}
use Rattle.moka_laws.proofs.Balance.{times_first, times_last}
use Rattle.moka_laws.proofs.Owning.{plan_left}
use Rattle.moka_laws.proofs.Plans.{IsTail, Answering, Settling, IsDrained, Looking, Putting, IsPosted, Draining, Ended, Locking, IsPlan, Posted, Drained, Posting, Hearing, Noticing, Listening, Unlocking, Turning, Applying, Ending, Judging, Owning, Giving, Reading, Asking, Telling, Writing, IsLook, Removing, Locking_out, Choosing, Finding, Chosen, Taking, Freeing, Hiding, Registering, Idling, Asking_op, Owning_key, Owning_alone, Reading_key, Telling_op, Walking, Maintaining, Applying_all, Ending_all}
use Rattle.moka_laws.proofs.Replacing.{IsReplacing, replacing_kept, not_opened}
use Rattle.moka_laws.proofs.Rules.{abort_next, put_plans, loaded_plans, kept_next, chosen_next, IsFresh, Disabled, fresh_plan, read_key_next, told_op_next, Walks_over}
use Rattle.moka_laws.proofs.Kept.{IsInvariant, in_reached}
use Rattle.moka_laws.proofs.StepCases.{OnStep, step_cases}
use Rattle.moka_laws.proofs.Outcomes.{outcomes}
use Rattle.moka_hist.specs.declared.loads.Compute.{Compute}
use Rattle.moka_hist.specs.Computing.{after_told_op, after_read_key}
use Rattle.moka_laws.proofs.Walks.{Ends, Finds, IsWalk, Lists, Scans, Walks, Walks_giving, Walks_on, Walks_still, on_walk, walk_is_walk, Chooses, Retires, Strikes, Walks_carrying, Walks_free}
use Rattle.moka_hist.specs.Maintenance.{carrying}

-- ---- notices that are heard

-- 1 where it is the notice of this number
abbrev pub guards : ℕ → Option ℕ → ℕ
guards x None = 0
guards x (Some y) = once x y

abbrev pub guards_owed : ℕ → List Owed → ℕ
guards_owed x [] = 0
guards_owed x (o ∷ os) = guards x o.notice + guards_owed x os

guards_append : (x : ℕ) (os ps : List Owed) → guards_owed x (os ++ ps) ≡ guards_owed x os + guards_owed x ps
guards_append x [] ps = omega arith
guards_append x (o ∷ os) ps = let e = guards_append x os ps in omega arith

-- the notice of an owed write is that of the write's number
abbrev pub OwedNamed : List Owed → Type 0
OwedNamed [] = Unit {0}
OwedNamed (o ∷ os) = ((y : ℕ) → o.notice ≡ Some y → number_of o.write ≡ y) × OwedNamed os

named_append : (os ps : List Owed) → OwedNamed os → OwedNamed ps → OwedNamed (os ++ ps)
named_append [] ps h k = k
named_append (o ∷ os) ps h k = (h.0, named_append os ps h.1 k)

pub guards_few : (x : ℕ) (os : List Owed) → OwedNamed os → guards_owed x os ≤ among_owed x os
guards_few x [] h = omega arith
guards_few x (o ∷ os) h =
    let more = guards_few x os h.1 in
    omega (arith, one o.notice refl, times_first x (number_of o.write) (map (λ v. number_of v.write) os))
  where
    one : (y : Option ℕ) → o.notice ≡ y → guards x o.notice ≤ once x (number_of o.write)
    one None e = omega (arith, ap (guards x) e)
    one (Some y) e = omega (arith, ap (guards x) e, ap (once x) (h.0 y e))

module _ {K V E : Type 0} where
  -- the notice that the plan is to open, or hears
  abbrev pub naming : ℕ → List (Item K V E) → Option ℕ
  naming n (plan.Notice key old cause upsert ∷ rest) = Some n
  naming n (plan.Heard ∷ rest) = Some n
  naming n (plan.Ended number ∷ rest) = Some number
  naming n _ = None

  -- that is the notice of the write that the plan posts
  abbrev IsNamed : ℕ → List (Item K V E) → Type 0
  IsNamed n p = (y : ℕ) (v : Write) → naming n p ≡ Some y → held_by p ≡ Some v → number_of v ≡ y

  hearing_named : (n y : ℕ) (p : List (Item K V E)) → hearing n p ≡ Some y → naming n p ≡ Some y
  hearing_named n y (plan.Heard ∷ rest) e = e
  hearing_named n y (plan.Ended number ∷ rest) e = e
  hearing_named n y [] e = absurd (none_some e)
  hearing_named n y (_ ∷ rest) e = absurd (none_some e)

  unnamed : (n : ℕ) (p : List (Item K V E)) → naming n p ≡ None → IsNamed n p
  unnamed n p none y v e f = absurd (none_some (sym none ∙ e))

  pub tail_none : (n : ℕ) (c : Call K V E) (p : List (Item K V E)) → IsTail p → naming n (plan_left (goes c p).left) ≡ None
  tail_none n c p (Answering a) = refl
  tail_none n c p (Settling with a) = refl

  pub drained_none : (n : ℕ) (c : Call K V E) (p : List (Item K V E)) → IsDrained p → naming n (plan_left (goes c p).left) ≡ None
  drained_none n c p (Locking key value rest t) = refl
  drained_none n c p _ = refl

  pub posted_none : (n : ℕ) (c : Call K V E) (p : List (Item K V E)) → IsPosted p → naming n (plan_left (goes c p).left) ≡ None
  posted_none n c p (Draining rest d) = refl
  posted_none n c p (Ended rest t) = tail_none n c rest t

  pub keeps_none : (n : ℕ) (c : Call K V E) → naming n (plan_left (keeps c).left) ≡ None
  keeps_none n c = kept_next (λ v. naming n (plan_left v.left) ≡ None) c (λ off. refl) (λ on. refl)

  pub misses_none : (n : ℕ) (c : Call K V E) (aim : Aim K V) → naming n (plan_left (misses c aim).left) ≡ None
  misses_none n c (plan.To_insert key value) =
      put_plans (λ p. naming n (plan_left (goes c p).left) ≡ None) c.rules key value
      (plan.Reply (reply.Loaded value true) ∷ []) refl refl
  misses_none n c (plan.To_evict key stamp cause) = keeps_none n c
  misses_none n c _ = refl

  pub finds_none : (n : ℕ) (c : Call K V E) (aim : Aim K V) (there : K) (stored : Stored V) →
      naming n (plan_left (finds_pair c aim there stored).left) ≡ None
  finds_none n c (plan.To_evict key stamp cause) there stored =
      chosen_next (λ v. naming n (plan_left v.left) ≡ None) c key stamp cause there stored
      (λ off. refl)
      (λ on. refl) refl
  finds_none n c _ there stored = refl

  pub hits_none : (n : ℕ) (c : Call K V E) (aim : Aim K V) (there : K) (value : V) → IsLook aim →
      naming n (plan_left (hits c aim there value).left) ≡ None
  hits_none n c (plan.To_evict key stamp cause) there value l = absurd l
  hits_none n c _ there value l = refl

  pub read_none : (n : ℕ) (c : Call K V E) (sought : Sought K) (with : Settled V E) → naming n c.plan ≡ None →
      naming n (plan_left (after_read c sought (found.ReadSettled with)).left) ≡ None
  read_none n c sought settled.NotYet h = h
  read_none n c sought settled.Aborted h = abort_next (λ v. naming n (plan_left v.left) ≡ None) c sought refl refl
  read_none n c sought _ h = refl

  pub read_key_none : (n : ℕ) (c : Call K V E) (compute : Compute K) (with : Settled V E) →
      naming n c.plan ≡ None →
      naming n (plan_left (after_read_key c compute (found.ReadSettled with)).left) ≡ None
  read_key_none n c compute with h =
      read_key_next (λ v. naming n (plan_left v.left) ≡ None) c compute with
      (h)
      (refl)

  pub told_none : (n : ℕ) (c : Call K V E) (load : Load K) (given : Told V E) → naming n c.plan ≡ None →
      naming n (plan_left (after_told c load (found.TakeTold (Some given))).left) ≡ None
  told_none n c load (answer.Value value) h =
      loaded_plans (λ p. naming n (plan_left (goes c p).left) ≡
      None) c.rules load value refl refl refl
  told_none n c load answer.Nothing h = refl
  told_none n c load (answer.Err error) h = refl
  told_none n c load _ h = h

  pub told_op_none : (n : ℕ) (c : Call K V E) (compute : Compute K) (pair : Option (K × V))
      (given : Told V E) → naming n c.plan ≡ None →
      naming n (plan_left (after_told_op c compute pair (found.TakeTold (Some given))).left) ≡ None
  told_op_none n c compute pair given h =
      told_op_next (λ v. naming n (plan_left v.left) ≡ None) c compute pair given
      (λ a. refl)
      (λ value able off. refl)
      (λ value able on. refl)
      (λ off. refl)
      (λ on. refl)
      (h)

  pub walk_none : (n : ℕ) (p : List (Item K V E)) → IsWalk p → naming n p ≡ None
  walk_none n p Ends = refl
  walk_none n p Retires = refl
  walk_none n p (Chooses parts) = refl
  walk_none n p (Strikes there stored rest walk) = refl
  walk_none n p (Lists part rest walk) = refl
  walk_none n p (Finds key rest walk) = refl
  walk_none n p (Scans there stored rest walk) = refl

  -- nor does a walk hear a notice
  walk_quiet : (n : ℕ) (p : List (Item K V E)) → IsWalk p → hearing n p ≡ None
  walk_quiet n p Ends = refl
  walk_quiet n p Retires = refl
  walk_quiet n p (Chooses parts) = refl
  walk_quiet n p (Strikes there stored rest walk) = refl
  walk_quiet n p (Lists part rest walk) = refl
  walk_quiet n p (Finds key rest walk) = refl
  walk_quiet n p (Scans there stored rest walk) = refl

  goes_none : (n : ℕ) (c : Call K V E) (p : List (Item K V E)) → IsWalk p → naming n (plan_left (goes c p).left) ≡ None
  goes_none n c p Ends = refl
  goes_none n c p Retires = refl
  goes_none n c p (Chooses parts) = refl
  goes_none n c p (Strikes there stored rest walk) = refl
  goes_none n c p (Lists part rest walk) = refl
  goes_none n c p (Finds key rest walk) = refl
  goes_none n c p (Scans there stored rest walk) = refl

  pub walks_none : (n : ℕ) (c : Call K V E) → naming n c.plan ≡ None → (next : Next K V E) → Walks c next →
      naming n (plan_left next.left) ≡ None
  walks_none n c none next (Walks_on rest walk) = goes_none n c rest walk
  walks_none n c none next Walks_still = none
  walks_none n c none next (Walks_giving key value rest walk) = walk_none n rest walk
  walks_none n c none next (Walks_carrying ids rest walk) = goes_none n (carrying c ids) rest walk
  walks_none n c none next Walks_free = refl

  pub form_none : (n : ℕ) (rules : Rules) (p : List (Item K V E)) → IsFresh rules p → naming n p ≡ None
  form_none n rules p (Disabled a d plain) = refl
  form_none n rules p (Walks_over parts able) = walk_none n p (walk_is_walk 0 parts)
  form_none n rules p _ = refl

  -- a plan that hears a notice posts a write
  hears_held : (n y : ℕ) (p : List (Item K V E)) → IsPlan p → hearing n p ≡ Some y → IsSome (held_by p)
  hears_held n y p (Hearing number x rest d) e = refl
  hears_held n y p (Listening x rest t) e = refl
  hears_held n y p (Noticing key old cause upsert x rest t) e = refl
  hears_held n y p (Posting x rest d) e = refl
  hears_held n y p (Unlocking x rest t) e = refl
  hears_held n y p (Turning x rest d) e = refl
  hears_held n y p (Applying x rest d) e = refl
  hears_held n y p (Ending x rest d) e = refl
  hears_held n y p (Posted rest (Draining more d)) e = absurd (none_some e)
  hears_held n y p (Posted rest (Ended more (Answering a))) e = absurd (none_some e)
  hears_held n y p (Posted rest (Ended more (Settling with a))) e = absurd (none_some e)
  hears_held n y p (Drained rest (Looking aim key l)) e = absurd (none_some e)
  hears_held n y p (Drained rest (Owning sought)) e = absurd (none_some e)
  hears_held n y p (Drained rest (Asking_op compute pair)) e = absurd (none_some e)
  hears_held n y p (Drained rest (Giving a)) e = absurd (none_some e)
  hears_held n y p (Drained rest (Removing removal key)) e = absurd (none_some e)
  hears_held n y p (Drained rest (Locking_out removal key)) e = absurd (none_some e)
  hears_held n y p (Drained rest (Putting key value more t)) e = absurd (none_some e)
  hears_held n y p (Drained rest (Locking key value more t)) e = absurd (none_some e)
  hears_held n y p (Walking rest Ends) e = absurd (none_some e)
  hears_held n y p (Walking rest (Lists part more walk)) e = absurd (none_some e)
  hears_held n y p (Walking rest (Finds key more walk)) e = absurd (none_some e)
  hears_held n y p (Walking rest (Scans there stored more walk)) e = absurd (none_some e)
  hears_held n y p _ e = absurd (none_some e)
  -- ---- notices with the desk

module _ {K V : Type 0} where
  -- a notice in this map runs
  abbrev pub running : (ℕ → Option (Notice K V)) → ℕ → Bool
  running notices x = option_map_or (λ v. runs v.state) (notices x) false

  -- Each notice has its number, was opened once, and was skipped only where the listener is off.
  pub record Noted (notices : ℕ → Option (Notice K V)) (opened : List ℕ) (off : Bool) : Type 0 where
    pub numbered : (n : ℕ) (x : Notice K V) → notices n ≡ Some x → x.number ≡ n
    pub opened_once : (n : ℕ) → times n opened ≡ cond (is_some (notices n)) 1 0
    pub skipped : (n : ℕ) (x : Notice K V) → notices n ≡ Some x → x.state ≡ notice.Skipped → off ≡ true

  -- two notices of which one runs and the other doesn't are two
  apart : (notices : ℕ → Option (Notice K V)) (x y : ℕ) → running notices x ≡ true → running notices y ≡ false → once x y ≡ 0
  apart notices x y r q = by (x == y) refl
    where
      by : (b : Bool) → (x == y) ≡ b → cond {A = ℕ} b 1 0 ≡ 0
      by false e = refl
      by true e = absurd (false≢true (sym q ∙ ap (running notices) (sym (eqb-true x y e)) ∙ r))

module _ {K V E : Type 0} where
  -- ---- a step

  -- What a step has to show: what it leaves is named; and each notice that runs is heard by a call
  -- or with an owed write, as before or anew.
  record Leaves (d : DeskPart K V E) (n : ℕ) (p : List (Item K V E)) (notices : ℕ → Option (Notice K V)) (opened : List ℕ) (off : Bool)
      (owed : List Owed) (last : ℕ) (left : Option (Call K V E)) : Type 0 where
    last_same : last ≡ d.last
    named : IsNamed n (plan_left left)
    owed_named : OwedNamed owed
    noted : Noted notices opened off
    heard : (x : ℕ) → running notices x ≡ true →
        ((running d.notices x ≡ true) × (guards x (hearing n p) + guards_owed x d.owed ≤ guards x (hearing n (plan_left left)) + guards_owed x owed)) ⊎
        (1 ≤ guards x (hearing n (plan_left left)) + guards_owed x owed)

  module _ (d : DeskPart K V E) (n : ℕ) (owed : OwedNamed d.owed) (noted : Noted d.notices d.opened d.off) where
    abbrev Same : List (Item K V E) → Option (Call K V E) → Type 0
    Same p left = Leaves d n p d.notices d.opened d.off d.owed d.last left

    -- the desk's notices and owed writes are as they were, and the plan heard no notice that runs
    as_before : (p : List (Item K V E)) (left : Option (Call K V E)) →
        ((x : ℕ) → running d.notices x ≡ true → guards x (hearing n p) ≡ 0) →
        IsNamed n (plan_left left) → Same p left
    as_before p left quiet named = record {
      last_same = refl;
      named = named;
      owed_named = owed;
      noted = noted;
      heard = λ x r. inl (r, omega (arith, quiet x r));
    }

    -- nor does it open or hear one any more
    plain : (p : List (Item K V E)) (left : Option (Call K V E)) → hearing n p ≡ None → naming n (plan_left left) ≡ None → Same p left
    plain p left quiet none = as_before p left (λ x r. ap (guards x) quiet)
        (unnamed n (plan_left left) none)

    -- the call has its plan still
    stays : (p : List (Item K V E)) (c : Call K V E) → c.plan ≡ p → IsNamed n p → Same p (Some c)
    stays p c e named = record {
      last_same = refl;
      named = subst (IsNamed n) (sym e) named;
      owed_named = owed;
      noted = noted;
      heard = λ x r. inl (r, omega (arith, ap (λ v. guards x (hearing n v)) e));
    }

    -- the call opens its notice, in this state
    module _ (p : List (Item K V E)) (left : Option (Call K V E)) (v : Notice K V) (own : v.number ≡ n) (fresh : d.notices n ≡ None)
        (may : v.state ≡ notice.Skipped → d.off ≡ true) where
      opened_noted : Noted (put_at d.notices n (Some v)) (d.opened ++ n ∷ []) d.off
      opened_noted = record {
        numbered = λ m x e. put_cases d.notices n (Some v) m (Some x) (x.number ≡ m) e
            (λ here is. ap (λ (u : Notice K V). u.number) (sym (some_same is)) ∙ own ∙ here) (λ there is. noted.numbered m x is);
        opened_once = λ m. by m (n == m) refl;
        skipped = λ m x e s. put_cases d.notices n (Some v) m (Some x) (d.off ≡ true) e
            (λ here is. may (ap (λ (u : Notice K V). u.state) (some_same is) ∙ s)) (λ there is. noted.skipped m x is s);
      }
        where
          by : (m : ℕ) (t : Bool) → (n == m) ≡ t → times m (d.opened ++ n ∷ []) ≡ cond (is_some (cond t (Some v) (d.notices m))) 1 0
          by m false e =
              omega (arith, times_last m n d.opened, ap (λ b. cond {A = ℕ} b 1 0) (other_number n m e), noted.opened_once m)
          by m true e = subst (λ u. times u (d.opened ++ n ∷ []) ≡ 1) (eqb-true n m e)
              (omega (arith, times_last n n d.opened, ap (λ b. cond {A = ℕ} b 1 0) (same_number n), noted.opened_once n, ap (λ o. cond {A = ℕ} (is_some o) 1 0) fresh))

      opens : hearing n p ≡ None → IsNamed n (plan_left left) → (runs v.state ≡ true → hearing n (plan_left left) ≡ Some n) →
          Leaves d n p (put_at d.notices n (Some v)) (d.opened ++ n ∷ []) d.off d.owed d.last left
      opens quiet named hears = record {
        last_same = refl;
        named = named;
        owed_named = owed;
        noted = opened_noted;
        heard = λ x r. by x (n == x) refl r;
      }
        where
          by : (x : ℕ) (t : Bool) → (n == x) ≡ t → option_map_or (λ u. runs u.state) (cond t (Some v) (d.notices x)) false ≡ true →
              ((running d.notices x ≡ true) × (guards x (hearing n p) + guards_owed x d.owed ≤ guards x (hearing n (plan_left left)) + guards_owed x d.owed)) ⊎
              (1 ≤ guards x (hearing n (plan_left left)) + guards_owed x d.owed)
          by x false e r = inl (r, omega (arith, ap (guards x) quiet))
          by x true e r = inr (omega (arith, ap (guards x) (hears r), subst (λ u. once u n ≡ 1) (eqb-true n x e) (ap (λ b. cond {A = ℕ} b 1 0) (same_number n))))

  module _ (eq : K → K → Bool) (w : World K V E) (n : ℕ) (c : Call K V E) (o : OwedNamed w.desk.owed) (t : Noted w.desk.notices w.desk.opened w.desk.off)
      (fresh : OpensNotice c.plan → w.desk.notices n ≡ None) where
    abbrev Made : List (Item K V E) → World K V E → Next K V E → Type 0
    Made p new next = Leaves w.desk n p new.desk.notices new.desk.opened new.desk.off new.desk.owed new.desk.last next.left

    on_tail : (p : List (Item K V E)) → IsTail p → OnStep eq (Made p) w n c p
    on_tail p (Answering a) = outcomes eq (Made p) w n c (plan.Reply a) [] (plain w.desk n o t p None refl refl)
    on_tail p (Settling with a) = outcomes eq (Made p) w n c (plan.Settle with) (plan.Reply a ∷ []) (plain w.desk n o t p None refl refl)

    on_drained : (p : List (Item K V E)) → c.plan ≡ p → IsDrained p → OnStep eq (Made p) w n c p
    on_drained p e (Looking aim key l) = outcomes eq (Made p) w n c (plan.Get aim key) [] (
      (λ more. plain w.desk n o t p _ refl (ap (naming n) e)),
      (λ none. plain w.desk n o t p _ refl (misses_none n c aim)),
      λ k stored some. plain w.desk n o t p _ refl (finds_none n c aim k stored),
    )
    on_drained p e (Owning sought) = outcomes eq (Made p) w n c (plan.Own sought) [] (
      (λ able none. plain w.desk n o t p _ refl refl),
      (λ disabled none. plain w.desk n o t p _ refl refl),
      λ owner some. plain w.desk n o t p _ refl refl,
    )
    on_drained p e (Putting key value rest q) =
        outcomes eq (Made p) w n c (plan.Moment (plan.To_store key value)) rest
        (plain w.desk n o t p _ refl refl)
    on_drained p e (Locking key value rest q) =
        outcomes eq (Made p) w n c (plan.Lock key) (plan.Moment (plan.To_store key value) ∷ rest) (
          (λ free. plain w.desk n o t p _ refl refl),
          λ held. plain w.desk n o t p _ refl
              (ap (naming n) e),
        )
    on_drained p e (Asking_op compute pair) =
        outcomes eq (Made p) w n c (plan.Ask_op compute pair) [] (plain w.desk n o t p _ refl refl)
    on_drained p e (Giving a) = outcomes eq (Made p) w n c (plan.Reply a) [] (plain w.desk n o t p None refl refl)
    on_drained p e (Removing removal key) =
        outcomes eq (Made p) w n c (plan.Moment (plan.To_take_out removal key)) []
        (plain w.desk n o t p _ refl refl)
    on_drained p e (Locking_out removal key) =
        outcomes eq (Made p) w n c (plan.Lock key) (plan.Moment (plan.To_take_out removal key) ∷ [])
        ((λ free. plain w.desk n o t p _ refl refl), λ held. plain w.desk n o t p _ refl (ap (naming n) e))
    on_drained p e (Maintaining parts) = outcomes eq (Made p) w n c plan.Turn (plan.Apply ∷ plan.End ∷ plan.Candidates parts ∷ [])
        ((λ free. plain w.desk n o t p _ refl refl), λ taken. plain w.desk n o t p _ refl (ap (naming n) e))

    on_posted : (p : List (Item K V E)) → c.plan ≡ p → IsPosted p → OnStep eq (Made p) w n c p
    on_posted p e (Draining rest d) = outcomes eq (Made p) w n c plan.Drain rest (
      (λ none. plain w.desk n o t p _ refl (drained_none n c rest d)),
      (λ v vs some. record {
        last_same = refl;
        named = unnamed n (plan.Post v ∷ plan.Drain ∷ rest) refl;
        owed_named = (subst OwedNamed some o).1;
        noted = t;
        heard = λ x r. inl (r, omega (arith, ap (guards_owed x) some));
      }),
      λ v number vs some. record {
        last_same = refl;
        named = λ y u is held. ap number_of (sym (some_same held)) ∙ (subst OwedNamed some o).0 y is;
        owed_named = (subst OwedNamed some o).1;
        noted = t;
        heard = λ x r. inl (r, omega (arith, ap (guards_owed x) some));
      },
    )
    on_posted p e (Ended rest q) = on_tail rest q

    on_plan : (p : List (Item K V E)) → c.plan ≡ p → IsNamed n p → IsPlan p → OnStep eq (Made p) w n c p
    on_plan p e h (Posted rest d) = on_posted rest e d
    on_plan p e h (Drained rest d) = on_drained rest e d
    on_plan p e h (Posting v rest d) = outcomes eq (Made p) w n c (plan.Post v) rest
        ((λ room. plain w.desk n o t p _ refl (posted_none n c rest d)), λ full. plain w.desk n o t p _ refl refl)
    on_plan p e h (Hearing number v rest d) = outcomes eq (Made p) w n c (plan.Ended number) (plan.Post v ∷ rest) (
      (λ done. as_before w.desk n o t p _ (λ x r. apart w.desk.notices x number r done)
          (unnamed n (plan.Post v ∷ rest) refl)),
      λ run. stays w.desk n o t p _ e h,
    )
    on_plan p e h (Listening v rest q) = outcomes eq (Made p) w n c plan.Heard
        (plan.Unlock true ∷ plan.Post v ∷ rest) (
          (λ done. as_before w.desk n o t p _ (λ x r. apart w.desk.notices x n r done)
              (unnamed n (plan.Unlock true ∷ plan.Post v ∷ rest) refl)),
          λ run. stays w.desk n o t p _ e h,
        )
    on_plan p e h (Unlocking v rest q) = outcomes eq (Made p) w n c (plan.Unlock true)
        (plan.Post v ∷ rest) (plain w.desk n o t p _ refl refl)
    on_plan p e h (Noticing key old cause upsert v rest q) = outcomes eq (Made p) w n c
        (plan.Notice key old cause upsert) (plan.Unlock true ∷ plan.Post v ∷ rest) (
          (λ off. opens w.desk n o t p _ _ refl (fresh opens_it) (λ s. off) refl
              (unnamed n (plan.Unlock true ∷ plan.Post v ∷ rest) refl) (λ r. absurd (false≢true r))),
          λ on. opens w.desk n o t p _ _ refl (fresh opens_it) (λ s. absurd (running_not s)) refl
              (λ y u is held. h y u is held) (λ r. refl),
        )
      where
        opens_it : OpensNotice c.plan
        opens_it = subst OpensNotice (sym e) tt

        running_not : notice.Running ≡ notice.Skipped → ⊥
        running_not s = false≢true (ap (λ u. cond (runs u) false true) s)
    on_plan p e h (Turning v rest d) = outcomes eq (Made p) w n c plan.Turn (plan.Apply ∷ plan.End ∷ plan.Post v ∷ rest)
        ((λ free. plain w.desk n o t p _ refl refl), λ taken. plain w.desk n o t p _ refl (ap (naming n) e))
    on_plan p e h (Applying v rest d) = outcomes eq (Made p) w n c plan.Apply (plan.End ∷ plan.Post v ∷ rest)
        ((λ none. plain w.desk n o t p _ refl refl), λ y ys some. plain w.desk n o t p _ refl refl)
    on_plan p e h (Ending v rest d) = outcomes eq (Made p) w n c plan.End (plan.Post v ∷ rest) (plain w.desk n o t p _ refl refl)
    on_plan p e h (Judging aim key stored l) = outcomes eq (Made p) w n c
        (plan.Judge aim key stored) [] (
          (λ seen. plain w.desk n o t p _ refl (hits_none n c aim key stored.value l)),
          λ unseen. plain w.desk n o t p _ refl (misses_none n c aim),
        )
    on_plan p e h (Reading sought) = outcomes eq (Made p) w n c (plan.Read sought) []
        ((λ none. plain w.desk n o t p _ refl (ap (naming n) e)), λ with some. plain w.desk n o t p _ refl (read_none n c sought with (ap (naming n) e)))
    on_plan p e h (Asking load) = outcomes eq (Made p) w n c (plan.Ask load) [] (plain w.desk n o t p _ refl refl)
    on_plan p e h (Telling load) = outcomes eq (Made p) w n c (plan.Told load) []
        ((λ none. plain w.desk n o t p _ refl (ap (naming n) e)), λ given some. plain w.desk n o t p _ refl (told_none n c load given (ap (naming n) e)))
    on_plan p e h (Owning_key compute) = outcomes eq (Made p) w n c (plan.Own_key compute) [] (
      (
        (λ able none. plain w.desk n o t p _ refl refl),
        λ not none. plain w.desk n o t p _ refl refl,
      ),
      λ owner some. plain w.desk n o t p _ refl refl,
    )
    on_plan p e h (Owning_alone key) = outcomes eq (Made p) w n c (plan.Own_alone key) [] (
      (
        (λ able none. plain w.desk n o t p _ refl refl),
        λ not none. plain w.desk n o t p _ refl refl,
      ),
      λ owner some.
          ((λ able. plain w.desk n o t p _ refl refl), λ not. plain w.desk n o t p _ refl refl),
    )
    on_plan p e h (Reading_key compute) = outcomes eq (Made p) w n c (plan.Read_key compute) [] (
      (λ none. plain w.desk n o t p _ refl (ap (naming n) e)),
      λ with some. plain w.desk n o t p _ refl (read_key_none n c compute with (ap (naming n) e)),
    )
    on_plan p e h (Telling_op compute pair) =
        outcomes eq (Made p) w n c (plan.Told_op compute pair) [] (
          (λ none. plain w.desk n o t p _ refl (ap (naming n) e)),
          λ given some. plain w.desk n o t p _ refl
              (told_op_none n c compute pair given (ap (naming n) e)),
        )
    on_plan p e h (Writing key value moment rest q) = outcomes eq (Made p) w n c (plan.Write key value moment) rest (
      (λ more. plain w.desk n o t p _ refl (ap (naming n) e)),
      (λ off old. plain w.desk n o t p _ refl refl),
      (λ on. plain w.desk n o t p _ refl refl),
      λ k old on some. as_before w.desk n o t p _ (λ x r. refl)
          (λ y u is held. ap number_of (sym (some_same held)) ∙ some_same is),
    )
    on_plan p e h (Choosing key stamp cause) =
        outcomes eq (Made p) w n c (plan.Lock key)
        (plan.Get (plan.To_evict key stamp cause) key ∷ []) (
          (λ free. plain w.desk n o t p _ refl refl),
          λ held. plain w.desk n o t p _ refl
              (ap (naming n) e),
        )
    on_plan p e h (Finding key stamp cause) = outcomes eq (Made p) w n c
        (plan.Get (plan.To_evict key stamp cause) key) [] (
          (λ more. plain w.desk n o t p _ refl (ap (naming n) e)),
          (λ none. plain w.desk n o t p _ refl (keeps_none n c)),
          λ k stored some. plain w.desk n o t p _ refl
              (finds_none n c (plan.To_evict key stamp cause) k stored),
        )
    on_plan p e h (Chosen key stamp cause there stored) =
        outcomes eq (Made p) w n c (plan.Holds key stamp cause there stored) [] (
          (λ holds. plain w.desk n o t p _ refl refl),
          λ not. plain w.desk n o t p _ refl
              (keeps_none n c),
        )
    on_plan p e h (Taking removal key) = outcomes eq (Made p) w n c (plan.Out removal key) [] (
      (λ more. plain w.desk n o t p _ refl (ap (naming n) e)),
      (λ off none. plain w.desk n o t p _ refl refl),
      (λ on none. plain w.desk n o t p _ refl refl),
      (λ k old off some. plain w.desk n o t p _ refl refl),
      λ k old on some. as_before w.desk n o t p _ (λ x r. refl)
          (λ y u is held. ap number_of (sym (some_same held)) ∙ some_same is),
    )
    on_plan p e h (Freeing rest q) = outcomes eq (Made p) w n c (plan.Unlock false) rest
        (plain w.desk n o t p _ refl (tail_none n c rest q))
    on_plan p e h Hiding = outcomes eq (Made p) w n c plan.Invalidate_all (plan.Reply reply.Done ∷ [])
        (plain w.desk n o t p _ refl refl)
    on_plan p e h (Registering test) = outcomes eq (Made p) w n c (plan.Register test) []
        (plain w.desk n o t p _ refl refl)
    on_plan p e h (Walking rest walk) = on_walk eq (Made p) w n c rest walk
        (λ listings stay next on. plain w.desk n o t p _ (walk_quiet n p walk)
        (walks_none n c (ap (naming n) e ∙ walk_none n p walk) next on))
        (plain w.desk n o t p _ (walk_quiet n p walk) refl) (λ ids. plain w.desk n o t p _ (walk_quiet n p walk) refl)
    on_plan p e h (Applying_all parts) = outcomes eq (Made p) w n c plan.Apply (plan.End ∷ plan.Candidates parts ∷ [])
        ((λ none. plain w.desk n o t p _ refl refl), λ y ys some. plain w.desk n o t p _ refl refl)
    on_plan p e h (Ending_all parts) = outcomes eq (Made p) w n c plan.End (plan.Candidates parts ∷ []) (plain w.desk n o t p _ refl refl)
    on_plan p e h (Idling rest q) = outcomes eq (Made p) w n c plan.Idle rest
        (plain w.desk n o t p _ refl (tail_none n c rest q))

    at_plan : IsNamed n c.plan → IsPlan c.plan → OnStep eq (Made c.plan) w n c c.plan
    at_plan h k = on_plan c.plan refl h k

  -- ---- of a state

  -- What is known of notices.
  pub record IsNoticing (s : State K V E) : Type 0 where
    pub replacing : IsReplacing s
    pub named : (n : ℕ) (c : Call K V E) → s.calls n ≡ Some c → IsNamed n c.plan
    pub owed_named : OwedNamed s.world.desk.owed
    pub noted : Noted s.world.desk.notices s.world.desk.opened s.world.desk.off
    -- each notice that runs is heard, by a live call or once an owed write is taken up
    pub heard : (x : ℕ) → running s.world.desk.notices x ≡ true →
        1 ≤ sum_to s.world.desk.last (λ m. guards x (hearing m (plan_left (s.calls m)))) + guards_owed x s.world.desk.owed

  module _ (s : State K V E) (i : IsNoticing s) where
    -- a call posts the write whose notice it hears
    pub guards_posts : (x n : ℕ) → guards x (hearing n (plan_left (s.calls n))) ≤ weigh_call (post_of x) (s.calls n)
    guards_posts x n = by (s.calls n) refl
      where
        one : (c : Call K V E) → s.calls n ≡ Some c → (y : Option ℕ) → hearing n c.plan ≡ y → (o : Option Write) → held_by c.plan ≡ o →
            guards x (hearing n c.plan) ≤ among x (option_to_list o)
        one c live None e o f = omega (arith, ap (guards x) e)
        one c live (Some y) e None f = absurd (false≢true (ap is_some (sym f) ∙ hears_held n y c.plan (i.replacing.known n c live).plan e))
        one c live (Some y) e (Some v) f =
            omega (arith, ap (guards x) e, ap (once x) (i.named n c live y v (hearing_named n y c.plan e) f), times_first x (number_of v) [])

        by : (o : Option (Call K V E)) → s.calls n ≡ o → guards x (hearing n (plan_left o)) ≤ weigh_call (post_of x) o
        by None e = omega arith
        by (Some c) e = omega (arith, posts_held x c.plan (i.replacing.balanced.tidy n c e), one c e (hearing n c.plan) refl (held_by c.plan) refl)

    opens_fresh : (n : ℕ) (c : Call K V E) → s.calls n ≡ Some c → OpensNotice c.plan →
        s.world.desk.notices n ≡ None
    opens_fresh n c live opens = not_opened s i.replacing n c live opens

    notices_on : (n : ℕ) (c : Call K V E) → s.calls n ≡ Some c → (w : World K V E) (left : Option (Call K V E)) →
        Leaves s.world.desk n c.plan w.desk.notices w.desk.opened w.desk.off w.desk.owed w.desk.last left →
        let t : State K V E = record { world = w; calls = put_at s.calls n left } in
        IsReplacing t → IsNoticing t
    notices_on n c live w left b replacing = record {
      replacing = replacing;
      named = λ m d lives. put_cases s.calls n left m (Some d) (IsNamed m d.plan) lives
          (λ here is. subst (λ v. IsNamed v d.plan) here (subst (λ v. IsNamed n (plan_left v)) is b.named)) (λ there is. i.named m d is);
      owed_named = b.owed_named;
      noted = b.noted;
      heard = λ x r.
          let l : n ≤ s.world.desk.last = i.replacing.balanced.numbered n c live in
          let f : ℕ → ℕ = λ m. guards x (hearing m (plan_left (s.calls m))) in
          let g : ℕ → ℕ = λ m. guards x (hearing m (plan_left (put_at s.calls n left m))) in
          let change = sum_change s.world.desk.last f g n l (λ m h. ap (λ v. guards x (hearing m (plan_left v))) (put_there s.calls n left m h)) in
          let sums = ap (λ v. sum_to v g) b.last_same in
          let before = ap (λ v. guards x (hearing n (plan_left v))) live in
          let after = ap (λ v. guards x (hearing n (plan_left v))) (put_here s.calls n left) in
          let within = sum_holds s.world.desk.last g n l in
          by x (omega (arith, change, before, after, sums)) (omega (arith, within, after, sums)) (b.heard x r);
    }
      where
        by : (x : ℕ) →
            sum_to w.desk.last (λ m. guards x (hearing m (plan_left (put_at s.calls n left m)))) + guards x (hearing n c.plan) ≡
            sum_to s.world.desk.last (λ m. guards x (hearing m (plan_left (s.calls m)))) + guards x (hearing n (plan_left left)) →
            guards x (hearing n (plan_left left)) ≤ sum_to w.desk.last (λ m. guards x (hearing m (plan_left (put_at s.calls n left m)))) →
            ((running s.world.desk.notices x ≡ true) ×
            (guards x (hearing n c.plan) + guards_owed x s.world.desk.owed ≤ guards x (hearing n (plan_left left)) + guards_owed x w.desk.owed)) ⊎
            (1 ≤ guards x (hearing n (plan_left left)) + guards_owed x w.desk.owed) →
            1 ≤ sum_to w.desk.last (λ m. guards x (hearing m (plan_left (put_at s.calls n left m)))) + guards_owed x w.desk.owed
        by x change within (inl h) = omega (arith, change, h.1, i.heard x h.0)
        by x change within (inr h) = omega (arith, within, h)

module _ {K V E : Type 0} (eq : K → K → Bool) where
  noticing_step : (s t : State K V E) (n : ℕ) (turn : Turn K V E) → IsNoticing s → Step eq s n turn t → IsNoticing t
  noticing_step s t n turn i step =
      let c : Call K V E = step.call in
      let kept : IsReplacing t → IsNoticing t =
      step_cases eq (λ new next. Leaves s.world.desk n c.plan new.desk.notices new.desk.opened new.desk.off new.desk.owed new.desk.last next.left)
      (λ v _. IsReplacing v → IsNoticing v) s t n turn step
      (at_plan eq s.world n c i.owed_named i.noted (opens_fresh s i n c step.live) (i.named n c step.live) (i.replacing.known n c step.live).plan)
      (λ w next b. notices_on s i n c step.live w next.left b) in
      kept ((replacing_kept eq).step s t n turn i.replacing step)

  noticing_start : (s : State K V E) (start : Start K V) → IsNoticing s → IsNoticing (started s start)
  noticing_start s start i =
      let new : ℕ = s.world.desk.last + 1 in
      let d : Call K V E = fresh_call s.world.table.division.parts s.world.desk.rules start in
      record {
        replacing = (replacing_kept eq).start s start i.replacing;
        named = λ m b lives. put_cases s.calls new (Some d) m (Some b) (IsNamed m b.plan) lives
            (λ here is. subst (λ v. IsNamed m (plan_left v)) is (unnamed m (plan_of s.world.table.division.parts s.world.desk.rules start) (form_none m s.world.desk.rules _ (fresh_plan s.world.table.division.parts s.world.desk.rules start))))
            (λ there is. i.named m b is);
        owed_named = i.owed_named;
        noted = i.noted;
        heard = λ x r.
            let f : ℕ → ℕ = λ m. guards x (hearing m (plan_left (s.calls m))) in
            let g : ℕ → ℕ = λ m. guards x (hearing m (plan_left (put_at s.calls new (Some d) m))) in
            let old = sum_same s.world.desk.last f g
            (λ m small. ap (λ v. guards x (hearing m (plan_left v))) (put_there s.calls new (Some d) m (differ new m (λ e. omega arith)))) in
            omega (arith, old, sum_next s.world.desk.last g, i.heard x r);
      }

  -- a dropped call leaves the write that it holds, with the notice that it hears, where that runs
  noticing_drop : (s : State K V E) (n : ℕ) (c : Call K V E) → s.calls n ≡ Some c → c.mode ≢ mode.Mid → IsNoticing s → IsNoticing (dropped s n c)
  noticing_drop s n c live between i =
      notices_on s i n c live (dropped s n c).world None (record {
        last_same = refl;
        named = unnamed {K = K} {V = V} {E = E} n [] refl;
        owed_named = named_append s.world.desk.owed _ i.owed_named (gone_named (held_by c.plan));
        noted = i.noted;
        heard = λ x r. inl (
          r,
          omega (
            arith,
            guards_append x s.world.desk.owed (option_to_list (option_map (owed_with s.world.desk) (held_by c.plan))),
            gone x r (held_by c.plan) refl (hearing n c.plan) refl,
          ),
        );
      }) ((replacing_kept eq).drop s n c live between i.replacing)
    where
      -- a notice that goes with a write is that of the write's number
      its_own : (v : Write) (y : ℕ) → running_of s.world.desk v ≡ Some y → number_of v ≡ y
      its_own v y e = by (is_running s.world.desk (number_of v)) e
        where
          by : (b : Bool) → cond b (Some (number_of v)) None ≡ Some y → number_of v ≡ y
          by true e = some_same e
          by false e = absurd (none_some e)

      gone_named : (o : Option Write) → OwedNamed (option_to_list (option_map (owed_with s.world.desk) o))
      gone_named None = tt
      gone_named (Some v) = (its_own v, tt)

      gone : (x : ℕ) → is_running s.world.desk x ≡ true → (o : Option Write) → held_by c.plan ≡ o → (y : Option ℕ) → hearing n c.plan ≡ y →
          guards x y ≤ guards_owed x (option_to_list (option_map (owed_with s.world.desk) o))
      gone x r o e None f = omega arith
      gone x r None e (Some y) f =
          absurd (false≢true (ap is_some (sym e) ∙ hears_held n y c.plan (i.replacing.known n c live).plan f))
      gone x r (Some v) e (Some y) f =
          omega (arith, by (is_running s.world.desk (number_of v)) refl, ap (once x) (i.named n c live y v (hearing_named n y c.plan f) e))
        where
          by : (b : Bool) → is_running s.world.desk (number_of v) ≡ b → once x (number_of v) ≤ guards x (cond b (Some (number_of v)) None) + 0
          by true g = omega arith
          by false g = omega (arith, apart s.world.desk.notices x (number_of v) r g)

  -- ---- a notice ends

  end_running : (d : DeskPart K V E) (n x : ℕ) → running (ended d n).notices x ≡ true → running d.notices x ≡ true
  end_running d n x = by (n == x) refl
    where
      stops : (o : Option (Notice K V)) → option_map_or (λ v. runs v.state) (option_map with_end o) false ≡ true → ⊥
      stops None r = false≢true r
      stops (Some v) r = false≢true r

      by : (t : Bool) → (n == x) ≡ t → option_map_or (λ v. runs v.state) (cond t (option_map with_end (d.notices n)) (d.notices x)) false ≡ true →
          running d.notices x ≡ true
      by false e r = r
      by true e r = absurd (stops (d.notices n) r)

  end_noted : (d : DeskPart K V E) (n : ℕ) (off : Bool) → Noted d.notices d.opened d.off → Noted (ended d n).notices d.opened (d.off || off)
  end_noted d n off t = record {
    numbered = λ m x e. put_cases d.notices n _ m (Some x) (x.number ≡ m) e
        (λ here is. number (d.notices n) refl x is ∙ here) (λ there is. t.numbered m x is);
    opened_once = λ m. by m (n == m) refl;
    skipped = λ m x e s. put_cases d.notices n _ m (Some x) (d.off || off ≡ true) e
        (λ here is. absurd (state (d.notices n) x is s)) (λ there is. ap (λ b. b || off) (t.skipped m x is s));
  }
    where
      number : (o : Option (Notice K V)) → d.notices n ≡ o → (x : Notice K V) → option_map with_end o ≡ Some x → x.number ≡ n
      number None e x is = absurd (none_some is)
      number (Some v) e x is = ap (λ (u : Notice K V). u.number) (sym (some_same is)) ∙ t.numbered n v e

      ended_not : notice.Ended ≡ notice.Skipped → ⊥
      ended_not s = false≢true (ap is_skipped s)
        where
          is_skipped : NoticeState → Bool
          is_skipped notice.Skipped = true
          is_skipped _ = false

      state : (o : Option (Notice K V)) (x : Notice K V) → option_map with_end o ≡ Some x → x.state ≡ notice.Skipped → ⊥
      state None x is s = none_some is
      state (Some v) x is s = ended_not (ap (λ (u : Notice K V). u.state) (some_same is) ∙ s)

      there : (o : Option (Notice K V)) → is_some (option_map with_end o) ≡ is_some o
      there None = refl
      there (Some v) = refl

      by : (m : ℕ) (b : Bool) → (n == m) ≡ b → times m d.opened ≡ cond (is_some (cond b (option_map with_end (d.notices n)) (d.notices m))) 1 0
      by m false e = t.opened_once m
      by m true e = t.opened_once m ∙ ap (λ v. cond {A = ℕ} (is_some (d.notices v)) 1 0) (sym (eqb-true n m e)) ∙
          ap (λ v. cond {A = ℕ} v 1 0) (sym (there (d.notices n)))

  pub noticing_kept : IsInvariant eq (IsNoticing {K = K} {V = V} {E = E})
  noticing_kept = record {
    fresh = λ division divides rules size built has_log. record {
      replacing = (replacing_kept eq).fresh division divides rules size built has_log;
      named = λ n c live. absurd (none_some live);
      owed_named = tt;
      noted = record { numbered = λ n x e. absurd (none_some e); opened_once = λ n. refl; skipped = λ n x e s. absurd (none_some e) };
      heard = λ x r. absurd (false≢true r);
    };
    at = λ s moment i. record {
      replacing = (replacing_kept eq).at s moment i.replacing;
      named = i.named;
      owed_named = i.owed_named;
      noted = i.noted;
      heard = i.heard;
    };
    start = noticing_start;
    step = noticing_step;
    tell = λ s n given asked i. record {
      replacing = (replacing_kept eq).tell s n given asked i.replacing;
      named = i.named;
      owed_named = i.owed_named;
      noted = i.noted;
      heard = i.heard;
    };
    hear = λ s n off running i. record {
      replacing = (replacing_kept eq).hear s n off running i.replacing;
      named = i.named;
      owed_named = i.owed_named;
      noted = end_noted s.world.desk n off i.noted;
      heard = λ x r. i.heard x (end_running s.world.desk n x r);
    };
    drop = λ s n c live between i. noticing_drop s n c live between i;
  }

  pub in_noticing : (s : State K V E) → IsReached eq s → IsNoticing s
  in_noticing s h = in_reached eq IsNoticing noticing_kept s h
