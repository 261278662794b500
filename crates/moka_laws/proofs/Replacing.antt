-- Each write that replaced a record has a notice, opened or still to be opened.
use Rattle.std.proofs.Common.{◌≡◌, ◌≢◌, ℕ, zero, suc, ◌+◌, ◌<◌, ◌≤◌, ◌==◌, Bool, true, false, cond, List, [], ◌∷◌, ◌++◌, map, Option, Some, None, is_some, refl, sym, ap, ◌∙◌, subst, arith}
use Rattle.std.proofs.lemmas.Bool.{eqb-true, false≢true}
use Rattle.std.specs.Option.{option_map, option_to_list}
use Rattle.moka_hist.specs.Finite.{put_at, times}
use Rattle.moka_hist.specs.State.{State, Stay, World, Call, DeskPart}
use Rattle.moka_hist.specs.Plan.{Item, Aim, held_by, plan_of}
use Rattle.moka_hist.specs.Plan as plan
use Rattle.moka_hist.specs.Next.{Next, goes}
use Rattle.moka_hist.specs.Looking.{hits, misses, keeps, finds_pair}
use Rattle.moka_hist.specs.Loading.{after_read, after_told}
use Rattle.moka_hist.specs.Notices.{OpensNotice}
use Rattle.moka_hist.specs.Dropping.{dropped, owed_with}
use Rattle.moka_hist.specs.Step.{Step, state_after}
use Rattle.moka_hist.specs.Run.{IsReached, started, fresh_call}
use Rattle.moka_hist.specs.Visits.{cause_of, number_of, old_of}
use Rattle.moka_hist.specs.declared.replies.Answer.TheVariants as said_as
use Rattle.moka_hist.specs.declared.events.Start.{Start}
use Rattle.moka_hist.specs.declared.events.Told.{Told}
use Rattle.moka_hist.specs.declared.events.Told.TheVariants as answer
use Rattle.moka_hist.specs.declared.loads.Load.{Load}
use Rattle.moka_hist.specs.declared.loads.Sought.{Sought}
use Rattle.moka_hist.specs.Telling.{ended, with_end}
use Rattle.moka_hist.specs.declared.notices.Notice.{Notice}
use Rattle.moka_hist.specs.declared.notices.NoticeState.{NoticeState}
use Rattle.moka_hist.specs.declared.notices.NoticeState.TheVariants as notice
use Rattle.moka_hist.specs.declared.records.Mode.{Mode}
use Rattle.moka_hist.specs.declared.records.Mode.TheVariants as mode
use Rattle.moka_hist.specs.declared.records.Stored.{Stored}
use Rattle.moka_hist.specs.declared.accesses.Turn.TheVariants as turn
use Rattle.moka_hist.specs.declared.rules.Rules.{Rules}
use Rattle.moka_hist.specs.declared.visits.Settled.{Settled}
use Rattle.moka_hist.specs.declared.visits.Settled.TheVariants as settled
use Rattle.moka_hist.specs.declared.visits.Found.TheVariants as found
use Rattle.moka_hist.specs.declared.accesses.Turn.{Turn}
use Rattle.moka_hist.specs.declared.writes.Owed.{Owed}
use Rattle.moka_hist.specs.declared.writes.Write.{Write}
use Rattle.moka_laws.proofs.Counting.{none_some, put_cases, put_here, put_there, same_number, other_number, differ}
use Rattle.moka_laws.proofs.Sums.{sum_few, sum_to, sum_zero, sum_next, sum_same, sum_change}
use Rattle.moka_laws.proofs.Weights.{weigh, weigh_call, weigh_goes}
use Rattle.moka_laws.proofs.Posts.{once, among, among_owed, late, late_none, post_of, posts_none}
use Rattle.moka_laws.proofs.Balance.{IsBalanced, times_first}
use Rattle.moka_laws.proofs.Balanced.{balanced_kept, next_free}
use Rattle.moka_laws.proofs.Locking.{IsLocking, locking_kept, of_key}
use Rattle.moka_laws.proofs.Owning.{plan_left}
use Rattle.moka_laws.proofs.Plans.{IsTail, Answering, Settling, IsDrained, Looking, Putting, IsPosted, Draining, Ended, Locking, IsPlan, Posted, Drained, Posting, Hearing, Noticing, Listening, Unlocking, Turning, Applying, Ending, Judging, Owning, Giving, Reading, Asking, Telling, Writing, IsKnown, known_kept, IsLook, Removing, Locking_out, Choosing, Finding, Chosen, Taking, Freeing, Hiding, Registering, Idling, Asking_op, Owning_key, Owning_alone, Reading_key, Telling_op, Walking, Maintaining, Applying_all, Ending_all}
use Rattle.moka_laws.proofs.Rules.{abort_next, put_plans, loaded_plans, kept_next, chosen_next, IsFresh, Disabled, fresh_plan, read_key_next, told_op_next, Walks_over}
use Rattle.moka_laws.proofs.Kept.{IsInvariant, in_reached}
use Rattle.moka_laws.proofs.StepCases.{OnStep, step_cases}
use Rattle.moka_laws.proofs.Outcomes.{outcomes}
use Rattle.moka_hist.specs.declared.loads.Compute.{Compute}
use Rattle.moka_hist.specs.Computing.{after_told_op, after_read_key}
use Rattle.moka_hist.specs.Writing.{nothing_answer, removed_answer}
use Rattle.moka_hist.specs.Plan.{Removal}
use Rattle.moka_laws.proofs.Rules.{said_next}
use Rattle.moka_hist.specs.Writing.{cause_handed}
use Rattle.moka_laws.proofs.Outcomes.{taken_out}
use Rattle.moka_hist.specs.declared.writes.Write.TheVariants.{Remove}
use Rattle.moka_laws.proofs.Walks.{IsLight, on_walk, walks_weigh, weigh_walk, walk_is_walk}

-- ---- writes that replaced a record

-- 1 where the write is that of the number, and replaced a record
abbrev pub swap : ℕ → Write → ℕ
swap x w = cond (is_some (old_of w)) (once x (number_of w)) 0

abbrev pub swaps : ℕ → List Write → ℕ
swaps x [] = 0
swaps x (w ∷ ws) = swap x w + swaps x ws

abbrev pub swaps_owed : ℕ → List Owed → ℕ
swaps_owed x [] = 0
swaps_owed x (o ∷ os) = swap x o.write + swaps_owed x os

swaps_last : (x : ℕ) (ws : List Write) (w : Write) → swaps x (ws ++ w ∷ []) ≡ swaps x ws + swap x w
swaps_last x [] w = omega arith
swaps_last x (v ∷ ws) w = let e = swaps_last x ws w in omega arith

swaps_owed_append : (x : ℕ) (os ps : List Owed) → swaps_owed x (os ++ ps) ≡ swaps_owed x os + swaps_owed x ps
swaps_owed_append x [] ps = omega arith
swaps_owed_append x (o ∷ os) ps = let e = swaps_owed_append x os ps in omega arith

swap_few : (x : ℕ) (w : Write) → swap x w ≤ once x (number_of w)
swap_few x w = by (is_some (old_of w))
  where
    by : (b : Bool) → cond b (once x (number_of w)) 0 ≤ once x (number_of w)
    by true = omega arith
    by false = omega arith

pub swaps_few : (x : ℕ) (ws : List Write) → swaps x ws ≤ among x ws
swaps_few x [] = omega arith
swaps_few x (w ∷ ws) = let e = swaps_few x ws in omega (arith, swap_few x w, times_first x (number_of w) (map number_of ws))

pub swaps_owed_few : (x : ℕ) (os : List Owed) → swaps_owed x os ≤ among_owed x os
swaps_owed_few x [] = omega arith
swaps_owed_few x (o ∷ os) =
    let e = swaps_owed_few x os in omega (arith, swap_few x o.write, times_first x (number_of o.write) (map (λ v. number_of v.write) os))

-- 1 where there is a notice
abbrev pub told_once : {A : Type 0} → Option A → ℕ
told_once o = cond (is_some o) 1 0

module _ {K V E : Type 0} where
  -- the item posts the write of this number, which replaced a record; it opens a notice
  abbrev pub swap_of : ℕ → Item K V E → ℕ
  swap_of x (plan.Post write) = swap x write
  swap_of x _ = 0

  abbrev pub notice_of : Item K V E → ℕ
  notice_of (plan.Notice key old cause upsert) = 1
  notice_of _ = 0

  swap_posts : (x : ℕ) (p : List (Item K V E)) → weigh (swap_of x) p ≤ weigh (post_of x) p
  swap_posts x [] = omega arith
  swap_posts x (plan.Post write ∷ rest) = let e = swap_posts x rest in omega (arith, swap_few x write)
  swap_posts x (_ ∷ rest) = let e = swap_posts x rest in omega arith

  -- a call posts the one write that it holds
  pub swap_held : (x : ℕ) (p : List (Item K V E)) → late p ≡ 0 → weigh (swap_of x) p ≡ swaps x (option_to_list (held_by p))
  swap_held x [] h = refl
  swap_held x (plan.Turn ∷ rest) h = let e = swap_held x rest h in omega arith
  swap_held x (plan.Apply ∷ rest) h = let e = swap_held x rest h in omega arith
  swap_held x (plan.End ∷ rest) h = let e = swap_held x rest h in omega arith
  swap_held x (plan.Ended number ∷ rest) h = let e = swap_held x rest h in omega arith
  swap_held x (plan.Notice key old cause upsert ∷ rest) h = let e =
      swap_held x rest h in omega arith
  swap_held x (plan.Heard ∷ rest) h = let e = swap_held x rest h in omega arith
  swap_held x (plan.Unlock wrote ∷ rest) h = let e = swap_held x rest h in omega arith
  swap_held x (plan.Post write ∷ rest) h = let e = posts_none x rest h in omega (arith, swap_posts x rest)
  swap_held x (_ ∷ rest) h = let e = swap_held x rest (late_none rest h) in omega arith

  -- an opening stands under a lock
  notice_key : (p : List (Item K V E)) → weigh notice_of p ≤ weigh of_key p
  notice_key [] = omega arith
  notice_key (plan.Notice key old cause upsert ∷ rest) = let e = notice_key rest in omega arith
  notice_key (_ ∷ rest) = let e = notice_key rest in omega arith

  pub call_swaps_few : (x : ℕ) (o : Option (Call K V E)) → weigh_call (swap_of x) o ≤ weigh_call (post_of x) o
  call_swaps_few x None = omega arith
  call_swaps_few x (Some c) = swap_posts x c.plan

  -- how often the write of the number, if it replaced a record, stands with the desk, and with live
  -- calls
  abbrev pub swaps_on : ℕ → DeskPart K V E → ℕ
  swaps_on x d = swaps_owed x d.owed + swaps x d.log + swaps x d.applied

  abbrev pub swaps_with : ℕ → State K V E → ℕ
  swaps_with x s = sum_to s.world.desk.last (λ n. weigh_call (swap_of x) (s.calls n))

  -- ---- plans with no part in it

  -- such a plan posts nothing, and opens nothing
  record Clear (left : Option (Call K V E)) : Type 0 where
    swaps : (x : ℕ) → weigh_call (swap_of x) left ≡ 0
    notice : weigh_call notice_of left ≡ 0

  keeps_clear : (c : Call K V E) → Clear (keeps c).left
  keeps_clear c = kept_next (λ v. Clear v.left) c
      (λ off. record { swaps = λ x. refl; notice = refl })
      (λ on. record { swaps = λ x. refl; notice = refl })

  misses_clear : (c : Call K V E) (aim : Aim K V) → Clear (misses c aim).left
  misses_clear c (plan.To_insert key value) =
      put_plans (λ p. Clear (goes c p).left) c.rules key value _
      (record { swaps = λ x. refl; notice = refl }) (record { swaps = λ x. refl; notice = refl })
  misses_clear c (plan.To_evict key stamp cause) = keeps_clear c
  misses_clear c _ = record { swaps = λ x. refl; notice = refl }

  finds_clear : (c : Call K V E) (aim : Aim K V) (there : K) (stored : Stored V) →
      Clear (finds_pair c aim there stored).left
  finds_clear c (plan.To_evict key stamp cause) there stored =
      chosen_next (λ v. Clear v.left) c key stamp cause there stored
      (λ off. record { swaps = λ x. refl; notice = refl })
      (λ on. record { swaps = λ x. refl; notice = refl })
      (record { swaps = λ x. refl; notice = refl })
  finds_clear c _ there stored = record { swaps = λ x. refl; notice = refl }

  hits_clear : (c : Call K V E) (aim : Aim K V) (there : K) (value : V) → IsLook aim →
      Clear (hits c aim there value).left
  hits_clear c (plan.To_evict key stamp cause) there value l = absurd l
  hits_clear c _ there value l = record { swaps = λ x. refl; notice = refl }

  read_clear : (c : Call K V E) (sought : Sought K) (with : Settled V E) → Clear (Some c) → Clear (after_read c sought (found.ReadSettled with)).left
  read_clear c sought settled.NotYet h = record { swaps = h.swaps; notice = h.notice }
  read_clear c sought settled.Aborted h = abort_next (λ v. Clear v.left) c sought (record { swaps = λ x. refl; notice = refl })
      (record { swaps = λ x. refl; notice = refl })
  read_clear c sought _ h = record { swaps = λ x. refl; notice = refl }

  read_key_clear : (c : Call K V E) (compute : Compute K) (with : Settled V E) → Clear (Some c) →
      Clear (after_read_key c compute (found.ReadSettled with)).left
  read_key_clear c compute with h = read_key_next (λ v. Clear v.left) c compute with
      (record { swaps = h.swaps; notice = h.notice })
      (record { swaps = λ x. refl; notice = refl })

  told_clear : (c : Call K V E) (load : Load K) (given : Told V E) → Clear (Some c) → Clear (after_told c load (found.TakeTold (Some given))).left
  told_clear c load (answer.Value value) h =
      loaded_plans (λ p. Clear (goes c p).left) c.rules load value
      (record { swaps = λ x. refl; notice = refl })
      (record { swaps = λ x. refl; notice = refl }) (record { swaps = λ x. refl; notice = refl })
  told_clear c load answer.Nothing h = record { swaps = λ x. refl; notice = refl }
  told_clear c load (answer.Err error) h = record { swaps = λ x. refl; notice = refl }
  told_clear c load _ h = record { swaps = h.swaps; notice = h.notice }

  told_op_clear : (c : Call K V E) (compute : Compute K) (pair : Option (K × V))
      (given : Told V E) → Clear (Some c) →
      Clear (after_told_op c compute pair (found.TakeTold (Some given))).left
  told_op_clear c compute pair given h = told_op_next (λ v. Clear v.left) c compute pair given
      (λ a. record { swaps = λ x. refl; notice = refl })
      (λ value able off. (record { swaps = λ x. refl; notice = refl }))
      (λ value able on. (record { swaps = λ x. refl; notice = refl }))
      (λ off. (record { swaps = λ x. refl; notice = refl }))
      (λ on. (record { swaps = λ x. refl; notice = refl }))
      (record { swaps = h.swaps; notice = h.notice })

  -- the plan posts nothing, and opens nothing
  record ClearPlan (p : List (Item K V E)) : Type 0 where
    swaps : (x : ℕ) → weigh (swap_of x) p ≡ 0
    notice : weigh notice_of p ≡ 0

  fresh_form : (rules : Rules) (p : List (Item K V E)) → IsFresh rules p → ClearPlan p
  fresh_form rules p (Disabled a d plain) = record { swaps = λ x. refl; notice = refl }
  fresh_form rules p (Walks_over parts able) =
      record { swaps = λ x. weigh_walk (swap_of x) (record { list = λ part. refl; find = λ key. refl; scan = λ there stored. refl; end = refl; choose = λ parts. refl; strike = λ there stored. refl; retire = refl }) p (walk_is_walk 0 parts); notice = weigh_walk notice_of (record { list = λ part. refl; find = λ key. refl; scan = λ there stored. refl; end = refl; choose = λ parts. refl; strike = λ there stored. refl; retire = refl }) p (walk_is_walk 0 parts) }
  fresh_form rules p _ = record { swaps = λ x. refl; notice = refl }

  fresh_clear : (parts : ℕ) (rules : Rules) (start : Start K V) → Clear (Some (fresh_call parts rules start))
  fresh_clear parts rules start =
      let f = fresh_form rules (plan_of parts rules start) (fresh_plan parts rules start) in
      record { swaps = f.swaps; notice = f.notice }

  -- ---- a step

  -- the call, if it is still live, is between two steps
  abbrev MidIf : Option (Call K V E) → Type 0
  MidIf None = Unit {0}
  MidIf (Some c) = c.mode ≡ mode.Mid

  goes_mid : (c : Call K V E) (rest : List (Item K V E)) → MidIf (goes c rest).left
  goes_mid c (plan.Reply a ∷ []) = tt
  goes_mid c _ = refl

  -- What a step has to show: what this call and the desk have of replacing writes changes by what
  -- this call's notice does, and the other notices are as they were; a call that is to open its
  -- notice is between two steps.
  record Leaves (w : World K V E) (n : ℕ) (p : List (Item K V E)) (new : World K V E) (next : Next K V E) : Type 0 where
    last : new.desk.last ≡ w.desk.last
    rules : new.desk.rules ≡ w.desk.rules
    mid : 0 < weigh_call notice_of next.left → MidIf next.left
    notices : (m : ℕ) → (n == m) ≡ false → new.desk.notices m ≡ w.desk.notices m
    quiet : w.desk.rules.listener ≡ false → new.desk.notices n ≡ w.desk.notices n
    own : w.desk.rules.listener ≡ true →
        weigh_call (swap_of n) next.left + swaps_on n new.desk + (weigh notice_of p + told_once (w.desk.notices n)) ≡
        weigh (swap_of n) p + swaps_on n w.desk + (weigh_call notice_of next.left + told_once (new.desk.notices n))
    others : w.desk.rules.listener ≡ true → (x : ℕ) → (n == x) ≡ false →
        weigh_call (swap_of x) next.left + swaps_on x new.desk ≡ weigh (swap_of x) p + swaps_on x w.desk

  module _ (eq : K → K → Bool) (w : World K V E) (n : ℕ) (c : Call K V E) where
    abbrev After : World K V E → Next K V E → Type 0
    After new next = Leaves w n c.plan new next

    -- no notice has changed, and what stands is as much
    same : {new : World K V E} {next : Next K V E} (p : List (Item K V E)) → new.desk.last ≡ w.desk.last → new.desk.rules ≡ w.desk.rules →
        new.desk.notices ≡ w.desk.notices → (0 < weigh_call notice_of next.left → MidIf next.left) → weigh_call notice_of next.left ≡ weigh notice_of p →
        ((x : ℕ) → weigh_call (swap_of x) next.left + swaps_on x new.desk ≡ weigh (swap_of x) p + swaps_on x w.desk) → Leaves w n p new next
    same p l r t m e h = record {
      last = l;
      rules = r;
      mid = m;
      notices = λ v d. ap (λ f. f v) t;
      quiet = λ off. ap (λ f. f n) t;
      own = λ on. omega (arith, h n, e, ap (λ f. told_once (f n)) t);
      others = λ on x d. h x;
    }

    -- the call goes on with the rest of its plan
    goes_on : (rest p : List (Item K V E)) {new : World K V E} → new.desk.last ≡ w.desk.last → new.desk.rules ≡ w.desk.rules →
        new.desk.notices ≡ w.desk.notices → weigh notice_of rest ≡ weigh notice_of p →
        ((x : ℕ) → weigh (swap_of x) rest + swaps_on x new.desk ≡ weigh (swap_of x) p + swaps_on x w.desk) → Leaves w n p new (goes c rest)
    goes_on rest p l r t e h =
        same p l r t (λ some. goes_mid c rest) (weigh_goes notice_of c rest (λ a. refl) ∙ e)
        (λ x. omega (arith, h x, weigh_goes (swap_of x) c rest (λ a. refl)))

    -- it goes on, or has ended, with nothing to post and no notice to open
    clears : {new : World K V E} {next : Next K V E} (p : List (Item K V E)) → new.desk.last ≡ w.desk.last → new.desk.rules ≡ w.desk.rules →
        new.desk.notices ≡ w.desk.notices → Clear next.left → weigh notice_of p ≡ 0 → ((x : ℕ) → weigh (swap_of x) p ≡ 0) →
        ((x : ℕ) → swaps_on x new.desk ≡ swaps_on x w.desk) → Leaves w n p new next
    clears p l r t k e f h = same p l r t (λ some. absurd (omega (arith, some, k.notice))) (k.notice ∙ sym e) (λ x. omega (arith, k.swaps x, f x, h x))

    -- it is parked, or its operation stays undecided, with a plan that opens no notice
    stays_put : (p : List (Item K V E)) (m : Mode) (turn : Turn K V E) (stay : Stay) → c.plan ≡ p → weigh notice_of p ≡ 0 →
        Leaves w n p (record w { stay = stay }) (record { left = Some (record c { mode = m }); turn = turn })
    stays_put p m turn stay e none = same p refl refl refl (λ some. absurd (omega (arith, some, ap (weigh notice_of) e))) (ap (weigh notice_of) e)
        (λ x. omega (arith, ap (weigh (swap_of x)) e))

    was_clear : (p : List (Item K V E)) → c.plan ≡ p → weigh notice_of p ≡ 0 → ((x : ℕ) → weigh (swap_of x) p ≡ 0) → Clear (Some c)
    was_clear p e none swaps = record { swaps = λ x. ap (weigh (swap_of x)) e ∙ swaps x; notice = ap (weigh notice_of) e ∙ none }

  tail_clear : (p : List (Item K V E)) → IsTail p → (weigh notice_of p ≡ 0) × ((x : ℕ) → weigh (swap_of x) p ≡ 0)
  tail_clear p (Answering a) = (refl, λ x. refl)
  tail_clear p (Settling with a) = (refl, λ x. refl)

  drained_clear : (p : List (Item K V E)) → IsDrained p → weigh notice_of p ≡ 0
  drained_clear p (Putting key value rest t) = omega (arith, (tail_clear rest t).0)
  drained_clear p (Locking key value rest t) = omega (arith, (tail_clear rest t).0)
  drained_clear p _ = refl

  posted_clear : (p : List (Item K V E)) → IsPosted p → weigh notice_of p ≡ 0
  posted_clear p (Draining rest d) = omega (arith, drained_clear rest d)
  posted_clear p (Ended rest t) = (tail_clear rest t).0

  -- a plan that opens a notice at all opens it next
  pub plan_opens : (p : List (Item K V E)) → IsPlan p → 0 < weigh notice_of p → OpensNotice p
  plan_opens p (Noticing key old cause upsert x rest t) h = tt
  plan_opens p (Posted rest d) h = absurd (omega (arith, posted_clear rest d))
  plan_opens p (Drained rest d) h = absurd (omega (arith, drained_clear rest d))
  plan_opens p (Posting x rest d) h = absurd (omega (arith, posted_clear rest d))
  plan_opens p (Hearing number x rest d) h = absurd (omega (arith, posted_clear rest d))
  plan_opens p (Listening x rest t) h = absurd (omega (arith, (tail_clear rest t).0))
  plan_opens p (Unlocking x rest t) h = absurd (omega (arith, (tail_clear rest t).0))
  plan_opens p (Turning x rest d) h = absurd (omega (arith, posted_clear rest d))
  plan_opens p (Applying x rest d) h = absurd (omega (arith, posted_clear rest d))
  plan_opens p (Ending x rest d) h = absurd (omega (arith, posted_clear rest d))
  plan_opens p (Writing key value moment rest t) h = absurd (omega (arith, (tail_clear rest t).0))
  plan_opens p (Freeing rest t) h = absurd (omega (arith, (tail_clear rest t).0))
  plan_opens p (Idling rest t) h = absurd (omega (arith, (tail_clear rest t).0))
  plan_opens p (Walking rest walk) h = absurd (omega (arith, weigh_walk notice_of (record { list = λ part. refl; find = λ key. refl; scan = λ there stored. refl; end = refl; choose = λ parts. refl; strike = λ there stored. refl; retire = refl }) p walk))
  plan_opens p _ h = absurd (omega arith)

  pub opens_notice : (p : List (Item K V E)) → OpensNotice p → 0 < weigh notice_of p
  opens_notice (plan.Notice key old cause upsert ∷ rest) h = omega arith
  opens_notice [] h = absurd h
  opens_notice (_ ∷ rest) h = absurd h

  module _ (eq : K → K → Bool) (w : World K V E) (n : ℕ) (c : Call K V E) (rules : c.rules ≡ w.desk.rules)
      (on : 0 < weigh notice_of c.plan → w.desk.rules.listener ≡ true) (unopened : 0 < weigh notice_of c.plan → told_once (w.desk.notices n) ≡ 0) where
    abbrev Made : List (Item K V E) → World K V E → Next K V E → Type 0
    Made p new next = Leaves w n p new next

    on_tail : (p : List (Item K V E)) → IsTail p → OnStep eq (Made p) w n c p
    on_tail p (Answering a) = outcomes eq (Made p) w n c (plan.Reply a) []
        (clears eq w n c p refl refl refl (record { swaps = λ x. refl; notice = refl }) refl (λ x. refl) (λ x. refl))
    on_tail p (Settling with a) = outcomes eq (Made p) w n c (plan.Settle with) (plan.Reply a ∷ [])
        (clears eq w n c p refl refl refl (record { swaps = λ x. refl; notice = refl }) refl (λ x. refl) (λ x. refl))

    on_drained : (p : List (Item K V E)) → c.plan ≡ p → IsDrained p → OnStep eq (Made p) w n c p
    on_drained p e (Looking aim key l) = outcomes eq (Made p) w n c (plan.Get aim key) [] (
      (λ more. stays_put eq w n c p mode.Mid turn.Going _ e refl),
      (λ none. clears eq w n c p refl refl refl (misses_clear c aim) refl (λ x. refl) (λ x. refl)),
      λ k stored some. clears eq w n c p refl refl refl (finds_clear c aim k stored) refl
          (λ x. refl) (λ x. refl),
    )
    on_drained p e (Owning sought) = outcomes eq (Made p) w n c (plan.Own sought) [] (
      (λ able none. clears eq w n c p refl refl refl
          (record { swaps = λ x. refl; notice = refl }) refl (λ x. refl) (λ x. refl)),
      (λ disabled none. clears eq w n c p refl refl refl
          (record { swaps = λ x. refl; notice = refl }) refl (λ x. refl) (λ x. refl)),
      λ owner some. clears eq w n c p refl refl refl
          (record { swaps = λ x. refl; notice = refl }) refl (λ x. refl) (λ x. refl),
    )
    on_drained p e (Putting key value rest t) = outcomes eq (Made p) w n c
        (plan.Moment (plan.To_store key value)) rest
        (same eq w n c p refl refl refl (λ some. refl) (omega arith) (λ x. omega arith))
    on_drained p e (Locking key value rest t) =
        outcomes eq (Made p) w n c (plan.Lock key) (plan.Moment (plan.To_store key value) ∷ rest) (
          (λ free. same eq w n c p refl refl refl (λ some. refl) (omega arith) (λ x. omega arith)),
          λ held. stays_put eq w n c p mode.Parked turn.Wait w.stay e
              (omega (arith, (tail_clear rest t).0)),
        )
    on_drained p e (Asking_op compute pair) =
        outcomes eq (Made p) w n c (plan.Ask_op compute pair) []
        (clears eq w n c p refl refl refl (record { swaps = λ x. refl; notice = refl }) refl (λ x. refl) (λ x. refl))
    on_drained p e (Giving a) = outcomes eq (Made p) w n c (plan.Reply a) []
        (clears eq w n c p refl refl refl (record { swaps = λ x. refl; notice = refl }) refl (λ x. refl)
        (λ x. refl))
    on_drained p e (Removing removal key) = outcomes eq (Made p) w n c
        (plan.Moment (plan.To_take_out removal key)) []
        (same eq w n c p refl refl refl (λ some. refl) (omega arith) (λ x. omega arith))
    on_drained p e (Locking_out removal key) =
        outcomes eq (Made p) w n c (plan.Lock key) (plan.Moment (plan.To_take_out removal key) ∷ []) (
          (λ free. same eq w n c p refl refl refl (λ some. refl) (omega arith) (λ x. omega arith)),
          λ held. stays_put eq w n c p mode.Parked turn.Wait w.stay e refl,
        )
    on_drained p e (Maintaining parts) = outcomes eq (Made p) w n c plan.Turn (plan.Apply ∷ plan.End ∷ plan.Candidates parts ∷ []) (
      (λ free. same eq w n c p refl refl refl (λ some. refl) (omega arith) (λ x. omega arith)),
      λ taken. stays_put eq w n c p mode.Parked turn.Wait w.stay e refl,
    )

    on_posted : (p : List (Item K V E)) → c.plan ≡ p → IsPosted p → OnStep eq (Made p) w n c p
    on_posted p e (Draining rest d) = outcomes eq (Made p) w n c plan.Drain rest (
      (λ none. goes_on eq w n c rest p refl refl refl (omega arith) (λ x. omega arith)),
      (λ v vs some. same eq w n c p refl refl refl (λ some. refl) (omega arith) (λ x. omega (arith, ap (swaps_owed x) some))),
      λ v number vs some. same eq w n c p refl refl refl (λ some. refl) (omega arith) (λ x. omega (arith, ap (swaps_owed x) some)),
    )
    on_posted p e (Ended rest t) = on_tail rest t

    on_plan : (p : List (Item K V E)) → c.plan ≡ p → IsPlan p → OnStep eq (Made p) w n c p
    on_plan p e (Posted rest d) = on_posted rest e d
    on_plan p e (Drained rest d) = on_drained rest e d
    on_plan p e (Posting v rest d) = outcomes eq (Made p) w n c (plan.Post v) rest (
      (λ room. goes_on eq w n c rest p refl refl refl (omega arith) (λ x. omega (arith, swaps_last x w.desk.log v))),
      λ full. same eq w n c p refl refl refl (λ some. refl) (omega arith) (λ x. omega arith),
    )
    on_plan p e (Hearing number v rest d) = outcomes eq (Made p) w n c (plan.Ended number) (plan.Post v ∷ rest) (
      (λ ended. same eq w n c p refl refl refl (λ some. refl) (omega arith) (λ x. omega arith)),
      λ runs. stays_put eq w n c p mode.Parked turn.Wait w.stay e (omega (arith, posted_clear rest d)),
    )
    on_plan p e (Listening v rest t) = outcomes eq (Made p) w n c plan.Heard
        (plan.Unlock true ∷ plan.Post v ∷ rest) (
          (λ ended. same eq w n c p refl refl refl (λ some. refl) (omega arith) (λ x. omega arith)),
          λ runs. stays_put eq w n c p mode.Parked turn.Wait w.stay e (omega (arith, (tail_clear rest t).0)),
        )
    on_plan p e (Unlocking v rest t) = outcomes eq (Made p) w n c (plan.Unlock true)
        (plan.Post v ∷ rest)
        (same eq w n c p refl refl refl (λ some. refl) (omega arith) (λ x. omega arith))
    on_plan p e (Noticing key old cause upsert v rest t) = outcomes eq (Made p) w n c
        (plan.Notice key old cause upsert) (plan.Unlock true ∷ plan.Post v ∷ rest) (
          (λ off. record {
            last = refl;
            rules = refl;
            mid = λ some. refl;
            notices = λ m d. put_there w.desk.notices n _ m d;
            quiet = λ off. absurd (false≢true (sym off ∙ on opens));
            own = λ l. omega (arith, unopened opens, ap told_once (put_here w.desk.notices n (Some (notice_at key old notice.Skipped))));
            others = λ l x d. omega arith;
          }),
          λ run. record {
            last = refl;
            rules = refl;
            mid = λ some. absurd (omega (arith, some, (tail_clear rest t).0));
            notices = λ m d. put_there w.desk.notices n _ m d;
            quiet = λ off. absurd (false≢true (sym off ∙ on opens));
            own = λ l. omega (arith, unopened opens, ap told_once (put_here w.desk.notices n (Some (notice_at key old notice.Running))));
            others = λ l x d. omega arith;
          },
        )
      where
        opens : 0 < weigh notice_of c.plan
        opens = omega (arith, ap (weigh notice_of) e)

        notice_at : K → Stored V → NoticeState → Notice K V
        notice_at key old state = record {
          number = n;
          key = key;
          value = old.value;
          cause = cause_of w.desk old.stamp old.modified cause upsert;
          state = state;
        }
    on_plan p e (Turning v rest d) = outcomes eq (Made p) w n c plan.Turn (plan.Apply ∷ plan.End ∷ plan.Post v ∷ rest) (
      (λ free. same eq w n c p refl refl refl (λ some. refl) (omega arith) (λ x. omega arith)),
      λ taken. stays_put eq w n c p mode.Parked turn.Wait w.stay e (omega (arith, posted_clear rest d)),
    )
    on_plan p e (Applying v rest d) = outcomes eq (Made p) w n c plan.Apply (plan.End ∷ plan.Post v ∷ rest) (
      (λ none. same eq w n c p refl refl refl (λ some. refl) (omega arith) (λ x. omega arith)),
      λ y ys some. same eq w n c p refl refl refl (λ some. refl) (omega arith) (λ x. omega (arith, ap (swaps x) some, swaps_last x w.desk.applied y)),
    )
    on_plan p e (Ending v rest d) = outcomes eq (Made p) w n c plan.End (plan.Post v ∷ rest)
        (same eq w n c p refl refl refl (λ some. refl) (omega arith) (λ x. omega arith))
    on_plan p e (Judging aim key stored l) = outcomes eq (Made p) w n c (plan.Judge aim key stored)
        [] (
          λ seen. clears eq w n c p refl refl refl (hits_clear c aim key stored.value l) refl
              (λ x. refl) (λ x. refl),
          λ unseen. clears eq w n c p refl refl refl (misses_clear c aim) refl (λ x. refl)
              (λ x. refl),
        )
    on_plan p e (Reading sought) = outcomes eq (Made p) w n c (plan.Read sought) [] (
      (λ none. stays_put eq w n c p mode.Parked turn.Wait w.stay e refl),
      λ with some. clears eq w n c p refl refl refl (read_clear c sought with (was_clear eq w n c p e refl (λ x. refl))) refl (λ x. refl) (λ x. refl),
    )
    on_plan p e (Asking load) = outcomes eq (Made p) w n c (plan.Ask load) []
        (clears eq w n c p refl refl refl (record { swaps = λ x. refl; notice = refl }) refl (λ x. refl) (λ x. refl))
    on_plan p e (Telling load) = outcomes eq (Made p) w n c (plan.Told load) [] (
      (λ none. stays_put eq w n c p mode.Parked turn.Wait w.stay e refl),
      λ given some. clears eq w n c p refl refl refl (told_clear c load given (was_clear eq w n c p e refl (λ x. refl))) refl (λ x. refl) (λ x. refl),
    )
    on_plan p e (Owning_key compute) = outcomes eq (Made p) w n c (plan.Own_key compute) [] (
      (λ able none. clears eq w n c p refl refl refl (record { swaps = λ x. refl; notice = refl }) refl (λ x. refl) (λ x. refl), λ not none. clears eq w n c p refl refl refl (record { swaps = λ x. refl; notice = refl }) refl (λ x. refl) (λ x. refl)),
      λ owner some. clears eq w n c p refl refl refl (record { swaps = λ x. refl; notice = refl }) refl (λ x. refl) (λ x. refl),
    )
    on_plan p e (Owning_alone key) = outcomes eq (Made p) w n c (plan.Own_alone key) [] (
      (λ able none. clears eq w n c p refl refl refl (record { swaps = λ x. refl; notice = refl }) refl (λ x. refl) (λ x. refl), λ not none. clears eq w n c p refl refl refl (record { swaps = λ x. refl; notice = refl }) refl (λ x. refl) (λ x. refl)),
      λ owner some. (λ able. clears eq w n c p refl refl refl (record { swaps = λ x. refl; notice = refl }) refl (λ x. refl) (λ x. refl), λ not. clears eq w n c p refl refl refl (record { swaps = λ x. refl; notice = refl }) refl (λ x. refl) (λ x. refl)),
    )
    on_plan p e (Reading_key compute) = outcomes eq (Made p) w n c (plan.Read_key compute) [] (
      (λ none. stays_put eq w n c p mode.Parked turn.Wait w.stay e refl),
      λ with some. clears eq w n c p refl refl refl (read_key_clear c compute with (was_clear eq w n c p e refl (λ x. refl))) refl (λ x. refl) (λ x. refl),
    )
    on_plan p e (Telling_op compute pair) =
        outcomes eq (Made p) w n c (plan.Told_op compute pair) [] (
          (λ none. stays_put eq w n c p mode.Parked turn.Wait w.stay e refl),
          λ given some. clears eq w n c p refl refl refl (told_op_clear c compute pair given (was_clear eq w n c p e refl (λ x. refl))) refl (λ x. refl) (λ x. refl),
        )
    on_plan p e (Writing key value moment rest t) = outcomes eq (Made p) w n c (plan.Write key value moment) rest (
      (λ more. stays_put eq w n c p mode.Mid turn.Going _ e (omega (arith, (tail_clear rest t).0))),
      (λ off old. record {
        last = refl;
        rules = refl;
        mid = λ some. refl;
        notices = λ m d. refl;
        quiet = λ l. refl;
        own = λ l. absurd (listens off l);
        others = λ l x d. absurd (listens off l);
      }),
      (λ l. same eq w n c p refl refl refl (λ some. refl) (omega arith) (λ x. omega arith)),
      λ k old l some. record {
        last = refl;
        rules = refl;
        mid = λ some. refl;
        notices = λ m d. refl;
        quiet = λ l. refl;
        own = λ l. omega (arith, ap (λ b. cond {A = ℕ} b 1 0) (same_number n));
        others = λ l x d. omega (arith, ap (λ b. cond {A = ℕ} b 1 0) (other_number n x d));
      },
    )
      where
        listens : c.rules.listener ≡ false → w.desk.rules.listener ≡ true → ⊥
        listens off l = false≢true (sym off ∙ ap (λ v. v.listener) rules ∙ l)
    on_plan p e (Choosing key stamp cause) =
        outcomes eq (Made p) w n c (plan.Lock key)
        (plan.Get (plan.To_evict key stamp cause) key ∷ []) (
          (λ free. same eq w n c p refl refl refl (λ some. refl) (omega arith) (λ x. omega arith)),
          λ held. stays_put eq w n c p mode.Parked turn.Wait w.stay e refl,
        )
    on_plan p e (Finding key stamp cause) = outcomes eq (Made p) w n c
        (plan.Get (plan.To_evict key stamp cause) key) [] (
          (λ more. stays_put eq w n c p mode.Mid turn.Going _ e refl),
          (λ none. clears eq w n c p refl refl refl (keeps_clear c) refl (λ x. refl) (λ x. refl)),
          λ k stored some. clears eq w n c p refl refl refl
              (finds_clear c (plan.To_evict key stamp cause) k stored) refl (λ x. refl) (λ x. refl),
        )
    on_plan p e (Chosen key stamp cause there stored) =
        outcomes eq (Made p) w n c (plan.Holds key stamp cause there stored) [] (
          (λ holds. clears eq w n c p refl refl refl
              (record { swaps = λ x. refl; notice = refl }) refl (λ x. refl) (λ x. refl)),
          λ not. clears eq w n c p refl refl refl (keeps_clear c) refl (λ x. refl) (λ x. refl),
        )
    on_plan p e (Taking removal key) = outcomes eq (Made p) w n c (plan.Out removal key) [] (
      (λ more. stays_put eq w n c p mode.Mid turn.Going _ e refl),
      (λ off none. clears eq w n c p refl refl refl
          (said_next (λ v. Clear v.left) c (λ q. plan.Idle ∷ q) removal (nothing_answer removal)
          (record { swaps = λ x. refl; notice = refl })
          (record { swaps = λ x. refl; notice = refl })) refl (λ x. refl) (λ x. refl)),
      (λ l none. clears eq w n c p refl refl refl
          (said_next (λ v. Clear v.left) c (λ q. plan.Unlock false ∷ q) removal (nothing_answer removal) (record { swaps = λ x. refl; notice = refl }) (record { swaps = λ x. refl; notice = refl })) refl (λ x. refl) (λ x. refl)),
      (λ k old off some. record {
        last = refl;
        rules = refl;
        mid = λ some. refl;
        notices = λ m d. refl;
        quiet = λ l. refl;
        own = λ l. absurd (listens off l);
        others = λ l x d. absurd (listens off l);
      }),
      λ k old l some. said_next (Made p (taken_out eq w n key)) c
          (λ q. plan.Notice key old (cause_handed removal) false ∷ plan.Unlock true ∷ plan.Post (Remove n old.stamp) ∷ q)
          removal (removed_answer removal old.value)
          (record {
            last = refl;
            rules = refl;
            mid = λ some. refl;
            notices = λ m d. refl;
            quiet = λ l. refl;
            own = λ l. omega (arith, ap (λ b. cond {A = ℕ} b 1 0) (same_number n));
            others = λ l x d. omega (arith, ap (λ b. cond {A = ℕ} b 1 0) (other_number n x d));
          })
          (record {
            last = refl;
            rules = refl;
            mid = λ some. refl;
            notices = λ m d. refl;
            quiet = λ l. refl;
            own = λ l. omega (arith, ap (λ b. cond {A = ℕ} b 1 0) (same_number n));
            others = λ l x d. omega (arith, ap (λ b. cond {A = ℕ} b 1 0) (other_number n x d));
          }),
    )
      where
        listens : c.rules.listener ≡ false → w.desk.rules.listener ≡ true → ⊥
        listens off l = false≢true (sym off ∙ ap (λ v. v.listener) rules ∙ l)
    on_plan p e (Freeing _ (Answering a)) =
        outcomes eq (Made p) w n c (plan.Unlock false) (plan.Reply a ∷ [])
        (clears eq w n c p refl refl refl (record { swaps = λ x. refl; notice = refl }) refl
        (λ x. refl) (λ x. refl))
    on_plan p e (Freeing _ (Settling with a)) =
        outcomes eq (Made p) w n c (plan.Unlock false) (plan.Settle with ∷ plan.Reply a ∷ [])
        (clears eq w n c p refl refl refl (record { swaps = λ x. refl; notice = refl }) refl
        (λ x. refl) (λ x. refl))
    on_plan p e Hiding = outcomes eq (Made p) w n c plan.Invalidate_all (plan.Reply said_as.Done ∷ [])
        (clears eq w n c p refl refl refl (record { swaps = λ x. refl; notice = refl }) refl
        (λ x. refl) (λ x. refl))
    on_plan p e (Registering test) = outcomes eq (Made p) w n c (plan.Register test) []
        (clears eq w n c p refl refl refl (record { swaps = λ x. refl; notice = refl }) refl
        (λ x. refl) (λ x. refl))
    on_plan p e (Applying_all parts) = outcomes eq (Made p) w n c plan.Apply (plan.End ∷ plan.Candidates parts ∷ []) (
      (λ none. same eq w n c p refl refl refl (λ some. refl) (omega arith) (λ x. omega arith)),
      λ y ys some. same eq w n c p refl refl refl (λ some. refl) (omega arith) (λ x. omega (arith, ap (swaps x) some, swaps_last x w.desk.applied y)),
    )
    on_plan p e (Ending_all parts) = outcomes eq (Made p) w n c plan.End (plan.Candidates parts ∷ [])
        (same eq w n c p refl refl refl (λ some. refl) (omega arith) (λ x. omega arith))
    on_plan p e (Walking rest walk) =
        let light : (x : ℕ) → IsLight {K = K} {V = V} {E = E} (swap_of x) = λ x. (record { list = λ part. refl; find = λ key. refl; scan = λ there stored. refl; end = refl; choose = λ parts. refl; strike = λ there stored. refl; retire = refl }) in
        let told : IsLight {K = K} {V = V} {E = E} notice_of = (record { list = λ part. refl; find = λ key. refl; scan = λ there stored. refl; end = refl; choose = λ parts. refl; strike = λ there stored. refl; retire = refl }) in
        on_walk eq (Made p) w n c rest walk
        (λ listings stay next on. clears eq w n c p refl refl refl (record {
          swaps = λ x. walks_weigh (swap_of x) (light x) (λ a. refl) c (ap (weigh (swap_of x)) e ∙ weigh_walk (swap_of x) (light x) p walk) next on;
          notice = walks_weigh notice_of told (λ a. refl) c (ap (weigh notice_of) e ∙ weigh_walk notice_of told p walk) next on;
        }) (weigh_walk notice_of told p walk) (λ x. weigh_walk (swap_of x) (light x) p walk) (λ x. refl))
        (clears eq w n c p refl refl refl (record { swaps = λ x. refl; notice = refl })
        (weigh_walk notice_of told p walk) (λ x. weigh_walk (swap_of x) (light x) p walk) (λ x. refl))
        (λ ids. clears eq w n c p refl refl refl (record { swaps = λ x. refl; notice = refl })
        (weigh_walk notice_of told p walk) (λ x. weigh_walk (swap_of x) (light x) p walk) (λ x. refl))
    on_plan p e (Idling _ (Answering a)) = outcomes eq (Made p) w n c plan.Idle (plan.Reply a ∷ [])
        (clears eq w n c p refl refl refl (record { swaps = λ x. refl; notice = refl }) refl
        (λ x. refl) (λ x. refl))
    on_plan p e (Idling _ (Settling with a)) =
        outcomes eq (Made p) w n c plan.Idle (plan.Settle with ∷ plan.Reply a ∷ [])
        (clears eq w n c p refl refl refl (record { swaps = λ x. refl; notice = refl }) refl
        (λ x. refl) (λ x. refl))

    at_plan : IsPlan c.plan → OnStep eq (Leaves w n c.plan) w n c c.plan
    at_plan h = on_plan c.plan refl h

  -- ---- of a state

  -- What is counted of writes that replaced a record.
  pub record IsReplacing (s : State K V E) : Type 0 where
    pub balanced : IsBalanced s
    pub locking : IsLocking s
    pub known : (n : ℕ) (c : Call K V E) → s.calls n ≡ Some c → IsKnown c
    -- a call that is to open its notice is between two steps
    pub mid : (n : ℕ) (c : Call K V E) → s.calls n ≡ Some c → 0 < weigh notice_of c.plan → c.mode ≡ mode.Mid
    -- without a listener there is no notice; with one each replacing write has one, opened or still
    -- to be
    pub quiet : s.world.desk.rules.listener ≡ false → (x : ℕ) → s.world.desk.notices x ≡ None
    pub each : s.world.desk.rules.listener ≡ true → (x : ℕ) →
        swaps_with x s + swaps_on x s.world.desk ≡ weigh_call notice_of (s.calls x) + told_once (s.world.desk.notices x)

  module _ (s : State K V E) (i : IsReplacing s) where
    -- a call that is to open a notice is one of a cache with a listener, and has opened none
    pub listening : (n : ℕ) (c : Call K V E) → s.calls n ≡ Some c → 0 < weigh notice_of c.plan → s.world.desk.rules.listener ≡ true
    listening n c live some = by s.world.desk.rules.listener refl
      where
        by : (b : Bool) → s.world.desk.rules.listener ≡ b → b ≡ true
        by true e = refl
        by false e =
            let k = ((i.locking.locks n).none e).1 in
            absurd (omega (arith, some, notice_key c.plan, ap (λ v. weigh of_key (plan_left v)) live))

    pub few_swaps : (x : ℕ) → swaps_with x s + swaps_on x s.world.desk ≤ 1
    few_swaps x = omega (
      arith,
      i.balanced.balance x,
      i.balanced.once x,
      sum_few s.world.desk.last (λ n. weigh_call (swap_of x) (s.calls n)) (λ n. weigh_call (post_of x) (s.calls n)) (λ n. call_swaps_few x (s.calls n)),
      swaps_owed_few x s.world.desk.owed,
      swaps_few x s.world.desk.log,
      swaps_few x s.world.desk.applied,
    )

    -- a notice that was opened is that of a committed write
    pub opened_committed : (n : ℕ) → told_once (s.world.desk.notices n) ≤ times n s.world.table.committed
    opened_committed n = by s.world.desk.rules.listener refl
      where
        by : (b : Bool) → s.world.desk.rules.listener ≡ b → told_once (s.world.desk.notices n) ≤ times n s.world.table.committed
        by true e = omega (
          arith,
          i.each e n,
          i.balanced.balance n,
          sum_few s.world.desk.last (λ m. weigh_call (swap_of n) (s.calls m)) (λ m. weigh_call (post_of n) (s.calls m)) (λ m. call_swaps_few n (s.calls m)),
          swaps_owed_few n s.world.desk.owed,
          swaps_few n s.world.desk.log,
          swaps_few n s.world.desk.applied,
        )
        by false e = omega (arith, ap told_once (i.quiet e n))

    pub none_opened : (n : ℕ) (c : Call K V E) → s.calls n ≡ Some c → 0 < weigh notice_of c.plan → told_once (s.world.desk.notices n) ≡ 0
    none_opened n c live some = omega (arith, few_swaps n, i.each (listening n c live some) n, ap (weigh_call notice_of) live)

    pub not_opened : (n : ℕ) (c : Call K V E) → s.calls n ≡ Some c → OpensNotice c.plan → s.world.desk.notices n ≡ None
    not_opened n c live opens = by (s.world.desk.notices n) refl (none_opened n c live (opens_notice c.plan opens))
      where
        by : (o : Option (Notice K V)) → s.world.desk.notices n ≡ o → told_once o ≡ 0 → o ≡ None
        by None e h = refl
        by (Some x) e h = absurd (omega arith)

    -- a step, or an end, that has shown what it has to
    replaces : (n : ℕ) (c : Call K V E) → s.calls n ≡ Some c → (w : World K V E) (next : Next K V E) → Leaves s.world n c.plan w next →
        let t : State K V E = state_after s n w next in
        IsBalanced t → IsLocking t → ((m : ℕ) (d : Call K V E) → t.calls m ≡ Some d → IsKnown d) → IsReplacing t
    replaces n c live w next b balanced locking known = record {
      balanced = balanced;
      locking = locking;
      known = known;
      mid = λ m d lives some. put_cases s.calls n next.left m (Some d) (d.mode ≡ mode.Mid) lives
          (λ here is. subst MidIf is (b.mid (omega (arith, some, ap (weigh_call notice_of) is)))) (λ there is. i.mid m d is some);
      quiet = λ off x. let was : s.world.desk.rules.listener ≡ false = ap (λ v. v.listener) (sym b.rules) ∙ off in none_now was x (n == x) refl;
      each = λ on x.
          let was : s.world.desk.rules.listener ≡ true = ap (λ v. v.listener) (sym b.rules) ∙ on in
          let change = sum_change s.world.desk.last (λ m. weigh_call (swap_of x) (s.calls m))
          (λ m. weigh_call (swap_of x) (put_at s.calls n next.left m)) n (i.balanced.numbered n c live)
          (λ m h. ap (weigh_call (swap_of x)) (put_there s.calls n next.left m h)) in
          let sums = ap (λ v. sum_to v (λ m. weigh_call (swap_of x) (put_at s.calls n next.left m))) b.last in
          one_now was x (n == x) refl (omega (arith, change, sums, ap (weigh_call (swap_of x)) live, ap (weigh_call (swap_of x)) (put_here s.calls n next.left)));
    }
      where
        none_now : s.world.desk.rules.listener ≡ false → (x : ℕ) (t : Bool) → (n == x) ≡ t → w.desk.notices x ≡ None
        none_now off x false e = b.notices x e ∙ i.quiet off x
        none_now off x true e = subst (λ v. w.desk.notices v ≡ None) (eqb-true n x e) (b.quiet off ∙ i.quiet off n)

        one_now : s.world.desk.rules.listener ≡ true → (x : ℕ) (t : Bool) → (n == x) ≡ t →
            swaps_with x (state_after s n w next) + weigh (swap_of x) c.plan ≡ swaps_with x s + weigh_call (swap_of x) next.left →
            swaps_with x (state_after s n w next) + swaps_on x w.desk ≡
            weigh_call notice_of (put_at s.calls n next.left x) + told_once (w.desk.notices x)
        one_now on x false e = λ change.
            omega (arith, change, b.others on x e, i.each on x, ap told_once (b.notices x e), ap (weigh_call notice_of) (put_there s.calls n next.left x e))
        one_now on x true e = subst
            (λ v. swaps_with v (state_after s n w next) + weigh (swap_of v) c.plan ≡ swaps_with v s + weigh_call (swap_of v) next.left →
            swaps_with v (state_after s n w next) + swaps_on v w.desk ≡
            weigh_call notice_of (put_at s.calls n next.left v) + told_once (w.desk.notices v)) (eqb-true n x e)
            (λ change. omega (arith, change, b.own on, i.each on n, ap (weigh_call notice_of) live, ap (weigh_call notice_of) (put_here s.calls n next.left)))

module _ {K V E : Type 0} (eq : K → K → Bool) where
  replacing_step : (s t : State K V E) (n : ℕ) (turn : Turn K V E) → IsReplacing s → Step eq s n turn t → IsReplacing t
  replacing_step s t n turn i step =
      let c : Call K V E = step.call in
      let kept : IsBalanced t → IsLocking t → ((m : ℕ) (d : Call K V E) → t.calls m ≡ Some d → IsKnown d) → IsReplacing t =
      step_cases eq (Leaves s.world n c.plan) (λ v _. IsBalanced v → IsLocking v → ((m : ℕ) (d : Call K V E) → v.calls m ≡ Some d → IsKnown d) → IsReplacing v)
      s t n turn step
      (at_plan eq s.world n c (i.locking.rules n c step.live) (listening s i n c step.live) (none_opened s i n c step.live) (i.known n c step.live).plan)
      (λ w next b. replaces s i n c step.live w next b) in
      kept ((balanced_kept eq).step s t n turn i.balanced step) ((locking_kept eq).step s t n turn i.locking step) ((known_kept eq).step s t n turn i.known step)

  replacing_start : (s : State K V E) (start : Start K V) → IsReplacing s → IsReplacing (started s start)
  replacing_start s start i =
      let new : ℕ = s.world.desk.last + 1 in
      let d : Call K V E = fresh_call {E = E} s.world.table.division.parts s.world.desk.rules start in
      let clear : Clear (Some d) = fresh_clear s.world.table.division.parts s.world.desk.rules start in
      record {
        balanced = (balanced_kept eq).start s start i.balanced;
        locking = (locking_kept eq).start s start i.locking;
        known = (known_kept eq).start s start i.known;
        mid = λ m b lives some. put_cases s.calls new (Some d) m (Some b) (b.mode ≡ mode.Mid) lives
            (λ here is. absurd (omega (arith, some, clear.notice, ap (weigh_call notice_of) is))) (λ there is. i.mid m b is some);
        quiet = i.quiet;
        each = λ on x.
            let f : ℕ → ℕ = λ m. weigh_call (swap_of x) (s.calls m) in
            let g : ℕ → ℕ = λ m. weigh_call (swap_of x) (put_at s.calls new (Some d) m) in
            let old = sum_same s.world.desk.last f g (λ m small. ap (weigh_call (swap_of x)) (put_there s.calls new (Some d) m (differ new m (λ e. omega arith)))) in
            let last = sum_next s.world.desk.last g in
            let here = ap (weigh_call (swap_of x)) (put_here s.calls new (Some d)) in
            let notices : weigh_call notice_of (put_at s.calls new (Some d) x) ≡ weigh_call notice_of (s.calls x) = one clear.notice x (new == x) refl in
            omega (arith, i.each on x, clear.swaps x, notices);
      }
    where
      one : weigh_call notice_of (Some (fresh_call {E = E} s.world.table.division.parts s.world.desk.rules start)) ≡ 0 → (x : ℕ) (t : Bool) → (s.world.desk.last + 1 == x) ≡ t →
          weigh_call notice_of (cond t (Some (fresh_call {E = E} s.world.table.division.parts s.world.desk.rules start)) (s.calls x)) ≡ weigh_call notice_of (s.calls x)
      one none x false e = refl
      one none x true e =
          let free : weigh_call notice_of (s.calls x) ≡ 0 =
          ap (λ v. weigh_call notice_of (s.calls v)) (sym (eqb-true (s.world.desk.last + 1) x e)) ∙ ap (weigh_call notice_of) (next_free s i.balanced) in
          none ∙ sym free

  -- a dropped call leaves the write that it holds; it is none that is to open a notice
  replacing_drop : (s : State K V E) (n : ℕ) (c : Call K V E) → s.calls n ≡ Some c → c.mode ≢ mode.Mid → IsReplacing s → IsReplacing (dropped s n c)
  replacing_drop s n c live between i =
      replaces s i n c live (dropped s n c).world (record { left = None; turn = turn.Wait }) (record {
        last = refl;
        rules = refl;
        mid = λ some. tt;
        notices = λ m d. refl;
        quiet = λ off. refl;
        own = λ on. omega (arith, idle, gone n);
        others = λ on x d. omega (arith, gone x);
      }) ((balanced_kept eq).drop s n c live between i.balanced) ((locking_kept eq).drop s n c live between i.locking)
      ((known_kept eq).drop s n c live between i.known)
    where
      idle : weigh notice_of c.plan ≡ 0
      idle = by (weigh notice_of c.plan) refl
        where
          by : (k : ℕ) → weigh notice_of c.plan ≡ k → k ≡ 0
          by zero e = refl
          by (suc k) e = absurd (between (i.mid n c live (omega (arith, e))))

      gives_up : (x : ℕ) (o : Option Write) →
          swaps_owed x (option_to_list (option_map (owed_with s.world.desk) o)) ≡
          swaps x (option_to_list o)
      gives_up x None = refl
      gives_up x (Some v) = refl

      gone : (x : ℕ) → swaps_on x (dropped s n c).world.desk ≡ weigh (swap_of x) c.plan + swaps_on x s.world.desk
      gone x = omega (
        arith,
        swap_held x c.plan (i.balanced.tidy n c live),
        gives_up x (held_by c.plan),
        swaps_owed_append x s.world.desk.owed (option_to_list (option_map (owed_with s.world.desk) (held_by c.plan))),
      )

  -- a notice ends, and is there still
  heard_there : (d : DeskPart K V E) (n x : ℕ) → told_once ((ended d n).notices x) ≡ told_once (d.notices x)
  heard_there d n x = by (n == x) refl
    where
      ends : (o : Option (Notice K V)) → told_once (option_map with_end o) ≡ told_once o
      ends None = refl
      ends (Some v) = refl

      by : (t : Bool) → (n == x) ≡ t → told_once (cond t (option_map with_end (d.notices n)) (d.notices x)) ≡ told_once (d.notices x)
      by false e = refl
      by true e = ends (d.notices n) ∙ ap (λ v. told_once (d.notices v)) (eqb-true n x e)

  heard_none : (d : DeskPart K V E) (n x : ℕ) → ((m : ℕ) → d.notices m ≡ None) → (ended d n).notices x ≡ None
  heard_none d n x none = by (n == x)
    where
      by : (t : Bool) → cond t (option_map with_end (d.notices n)) (d.notices x) ≡ None
      by false = none x
      by true = ap (option_map with_end) (none n)

  pub replacing_kept : IsInvariant eq (IsReplacing {K = K} {V = V} {E = E})
  replacing_kept = record {
    fresh = λ division divides rules size built has_log. record {
      balanced = (balanced_kept eq).fresh division divides rules size built has_log;
      locking = (locking_kept eq).fresh division divides rules size built has_log;
      known = (known_kept eq).fresh division divides rules size built has_log;
      mid = λ n c live. absurd (none_some live);
      quiet = λ off x. refl;
      each = λ on x. omega (arith, sum_zero (λ n. 0));
    };
    at = λ s moment i. record {
      balanced = (balanced_kept eq).at s moment i.balanced;
      locking = (locking_kept eq).at s moment i.locking;
      known = i.known;
      mid = i.mid;
      quiet = i.quiet;
      each = i.each;
    };
    start = replacing_start;
    step = replacing_step;
    tell = λ s n given asked i. record {
      balanced = (balanced_kept eq).tell s n given asked i.balanced;
      locking = (locking_kept eq).tell s n given asked i.locking;
      known = i.known;
      mid = i.mid;
      quiet = i.quiet;
      each = i.each;
    };
    hear = λ s n off running i. record {
      balanced = (balanced_kept eq).hear s n off running i.balanced;
      locking = (locking_kept eq).hear s n off running i.locking;
      known = i.known;
      mid = i.mid;
      quiet = λ l x. heard_none s.world.desk n x (i.quiet l);
      each = λ on x. omega (arith, i.each on x, heard_there s.world.desk n x);
    };
    drop = λ s n c live between i. replacing_drop s n c live between i;
  }

  pub in_replacing : (s : State K V E) → IsReached eq s → IsReplacing s
  in_replacing s h = in_reached eq IsReplacing replacing_kept s h
