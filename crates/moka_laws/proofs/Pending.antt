-- Places come back: a call has one of its own for a write that it holds, or while the moment of its
-- change is pending.
use Rattle.std.proofs.Common.{◌≡◌, ◌⊎◌, inl, inr, ℕ, ◌+◌, ◌==◌, Bool, true, false, List, [], ◌∷◌, Option, Some, None, is_some, IsSome, refl, sym, ap, ◌∙◌, subst}
use Rattle.std.proofs.lemmas.Bool.{eqb-true}
use Rattle.moka_hist.specs.declared.replies.Answer.TheVariants as reply
use Rattle.moka_hist.specs.Finite.{put_at}
use Rattle.moka_hist.specs.State.{State, World, Call}
use Rattle.moka_hist.specs.Plan.{Item, Aim, held_by, plan_of}
use Rattle.moka_hist.specs.Plan as plan
use Rattle.moka_hist.specs.Next.{Next, goes}
use Rattle.moka_hist.specs.Looking.{finds_pair, hits, keeps, misses}
use Rattle.moka_hist.specs.Loading.{after_read, after_told}
use Rattle.moka_hist.specs.Conditions.{MayLeaveWith}
use Rattle.moka_hist.specs.Dropping.{dropped}
use Rattle.moka_hist.specs.Places.{Holds}
use Rattle.moka_hist.specs.Step.{Step}
use Rattle.moka_hist.specs.Visits.{number_of, moment_of, pending_of}
use Rattle.moka_hist.specs.Run.{IsReached, fresh_call, started}
use Rattle.moka_hist.specs.declared.accesses.Turn.{Turn}
use Rattle.moka_hist.specs.declared.events.Told.{Told}
use Rattle.moka_hist.specs.declared.events.Told.TheVariants as answer
use Rattle.moka_hist.specs.declared.loads.Load.{Load}
use Rattle.moka_hist.specs.declared.loads.Sought.{Sought}
use Rattle.moka_hist.specs.declared.records.Stored.{Stored}
use Rattle.moka_hist.specs.declared.rules.Rules.{Rules}
use Rattle.moka_hist.specs.declared.visits.Found.TheVariants as found
use Rattle.moka_hist.specs.declared.visits.Settled.{Settled}
use Rattle.moka_hist.specs.declared.visits.Settled.TheVariants as settled
use Rattle.moka_hist.specs.declared.writes.Holding.{Holding}
use Rattle.moka_hist.specs.declared.writes.Holding.TheVariants as holding
use Rattle.moka_hist.specs.declared.writes.Write.{Write}
use Rattle.moka_laws.specs.Removals.{PlacesComeBack}
use Rattle.moka_laws.proofs.Counting.{none_some, put_here, put_there}
use Rattle.moka_laws.proofs.Holding.{HoldsAs, IsHolding, all_leave, holding_kept, others_hold}
use Rattle.moka_laws.proofs.Owning.{plan_left}
use Rattle.moka_laws.proofs.Plans.{IsTail, Answering, Settling, IsDrained, Looking, Putting, IsPosted, Draining, Ended, Locking, IsPlan, Posted, Drained, Posting, Hearing, Noticing, Listening, Unlocking, Turning, Applying, Ending, Judging, Owning, Giving, Reading, Asking, Telling, Writing, IsLook, Removing, Locking_out, Choosing, Finding, Chosen, Taking, Freeing, Hiding, Registering, Idling, AllKnown, known_kept, Asking_op, Owning_key, Owning_alone, Reading_key, Telling_op, Walking, Maintaining, Applying_all, Ending_all}
use Rattle.moka_laws.proofs.Rules.{abort_next, put_plans, chosen_next, kept_next, loaded_plans, IsFresh, Disabled, fresh_plan, read_key_next, told_op_next, Walks_over}
use Rattle.moka_laws.proofs.Kept.{IsInvariant, in_reached}
use Rattle.moka_laws.proofs.StepCases.{OnStep, step_cases}
use Rattle.moka_laws.proofs.Outcomes.{outcomes}
use Rattle.moka_hist.specs.declared.loads.Compute.{Compute}
use Rattle.moka_hist.specs.Computing.{after_told_op, after_read_key}
use Rattle.moka_laws.proofs.Walks.{Ends, Finds, IsWalk, Lists, Scans, Walks, Walks_giving, Walks_on, Walks_still, on_walk, walk_is_walk, Chooses, Retires, Strikes, Walks_carrying, Walks_free}
use Rattle.moka_hist.specs.Maintenance.{carrying}
use Rattle.std.specs.Option.{option_and_then}

-- the call has a place for a write of its own, and the moment of its change is pending
abbrev IsPending : Option Holding → Type 0
IsPending h = (moment : ℕ) × (h ≡ Some (holding.Own (Some moment)))

is_pending : (pending : Option ℕ) → IsPending (Some (holding.Own pending)) → IsSome pending
is_pending None e = let f : Some (holding.Own None) ≡ Some (holding.Own (Some e.0)) = e.1 in cc
is_pending (Some moment) e = refl

either_pending : (pending : Option ℕ) → (Some (holding.Own pending) ≡ None) ⊎ IsPending
    (Some (holding.Own pending)) → IsSome pending
either_pending pending (inl none) = absurd (none_some (sym none))
either_pending pending (inr e) = is_pending pending e

module _ {K V E : Type 0} where
  -- between the moment of a change and the first visit after it the moment is pending
  abbrev Pends : Option Holding → List (Item K V E) → Type 0
  Pends h (plan.Write key value moment ∷ rest) = h ≡ Some (holding.Own (Some moment))
  Pends h (plan.Out removal key ∷ rest) = IsPending h
  Pends h (plan.Idle ∷ rest) = IsPending h
  Pends h (plan.Unlock false ∷ rest) = (h ≡ None) ⊎ IsPending h
  Pends h _ = Unit {0}

  module _ (h : Option Holding) where
    tail_pends : (c : Call K V E) (p : List (Item K V E)) → IsTail p → Pends h
        (plan_left (goes c p).left)
    tail_pends c p (Answering a) = tt
    tail_pends c p (Settling with a) = tt

    drained_pends : (c : Call K V E) (p : List (Item K V E)) → IsDrained p → Pends h
        (plan_left (goes c p).left)
    drained_pends c p (Locking_out removal key) = tt
    drained_pends c p _ = tt

    posted_pends : (c : Call K V E) (p : List (Item K V E)) → IsPosted p → Pends h
        (plan_left (goes c p).left)
    posted_pends c p (Draining rest d) = tt
    posted_pends c p (Ended rest t) = tail_pends c rest t

    keeps_pends : (c : Call K V E) → h ≡ None → Pends h (plan_left (keeps c).left)
    keeps_pends c none = kept_next (λ v. Pends h (plan_left v.left)) c (λ off. tt) (λ on. inl none)

    misses_pends : (c : Call K V E) (aim : Aim K V) → h ≡ None → Pends h (plan_left (misses c aim).left)
    misses_pends c (plan.To_insert key value) none =
        put_plans (λ q. Pends h (plan_left (goes c q).left)) c.rules key value
        (plan.Reply (reply.Loaded value true) ∷ []) tt tt
    misses_pends c (plan.To_evict key stamp cause) none = keeps_pends c none
    misses_pends c _ none = tt

    finds_pends : (c : Call K V E) (aim : Aim K V) (there : K) (stored : Stored V) → h ≡ None →
        Pends h (plan_left (finds_pair c aim there stored).left)
    finds_pends c (plan.To_evict key stamp cause) there stored none =
        chosen_next (λ v. Pends h (plan_left v.left)) c key stamp cause there stored (λ off. tt)
        (λ on. inl none) tt
    finds_pends c _ there stored none = tt

    hits_pends : (c : Call K V E) (aim : Aim K V) (there : K) (value : V) → IsLook aim → Pends h
        (plan_left (hits c aim there value).left)
    hits_pends c (plan.To_evict key stamp cause) there value l = absurd l
    hits_pends c _ there value l = tt

    read_pends : (c : Call K V E) (sought : Sought K) (with : Settled V E) → Pends h c.plan → Pends h
        (plan_left (after_read c sought (found.ReadSettled with)).left)
    read_pends c sought settled.NotYet p = p
    read_pends c sought settled.Aborted p = abort_next (λ v. Pends h (plan_left v.left)) c sought tt tt
    read_pends c sought _ p = tt

    read_key_pends : (c : Call K V E) (compute : Compute K) (with : Settled V E) → Pends h c.plan →
        Pends h (plan_left (after_read_key c compute (found.ReadSettled with)).left)
    read_key_pends c compute with p = read_key_next (λ v. Pends h (plan_left v.left)) c compute with
        (p)
        (tt)

    told_pends : (c : Call K V E) (load : Load K) (given : Told V E) → Pends h c.plan → Pends h
        (plan_left (after_told c load (found.TakeTold (Some given))).left)
    told_pends c load (answer.Value value) p = loaded_plans
        (λ q. Pends h (plan_left (goes c q).left)) c.rules load value tt tt tt
    told_pends c load answer.Nothing p = tt
    told_pends c load (answer.Err error) p = tt
    told_pends c load _ p = p

    told_op_pends : (c : Call K V E) (compute : Compute K) (pair : Option (K × V))
        (given : Told V E) → Pends h c.plan →
        Pends h (plan_left (after_told_op c compute pair (found.TakeTold (Some given))).left)
    told_op_pends c compute pair given p =
        told_op_next (λ v. Pends h (plan_left v.left)) c compute pair given
        (λ a. tt)
        (λ value able off. tt)
        (λ value able on. tt)
        (λ off. tt)
        (λ on. tt)
        (p)

    walk_pends : (p : List (Item K V E)) → IsWalk p → Pends h p
    walk_pends p Ends = tt
    walk_pends p Retires = tt
    walk_pends p (Chooses parts) = tt
    walk_pends p (Strikes there stored rest walk) = tt
    walk_pends p (Lists part rest walk) = tt
    walk_pends p (Finds key rest walk) = tt
    walk_pends p (Scans there stored rest walk) = tt

    goes_pends : (c : Call K V E) (p : List (Item K V E)) → IsWalk p → Pends h (plan_left (goes c p).left)
    goes_pends c p Ends = tt
    goes_pends c p Retires = tt
    goes_pends c p (Chooses parts) = tt
    goes_pends c p (Strikes there stored rest walk) = tt
    goes_pends c p (Lists part rest walk) = tt
    goes_pends c p (Finds key rest walk) = tt
    goes_pends c p (Scans there stored rest walk) = tt

    walks_pend : (c : Call K V E) → Pends h c.plan → (next : Next K V E) → Walks c next → Pends h (plan_left next.left)
    walks_pend c was next (Walks_on rest walk) = goes_pends c rest walk
    walks_pend c was next Walks_still = was
    walks_pend c was next (Walks_giving key value rest walk) = walk_pends rest walk
    walks_pend c was next (Walks_carrying ids rest walk) = goes_pends (carrying c ids) rest walk
    walks_pend c was next Walks_free = tt

    form_pends : (rules : Rules) (p : List (Item K V E)) → IsFresh rules p → Pends h p
    form_pends rules p (Disabled a d plain) = tt
    form_pends rules p (Walks_over parts able) = walk_pends p (walk_is_walk 0 parts)
    form_pends rules p _ = tt

  module _ (eq : K → K → Bool) (w : World K V E) (n : ℕ) (c : Call K V E)
      (q : Pends (w.desk.holding n) c.plan) where
    -- what a step has to show
    abbrev After : World K V E → Next K V E → Type 0
    After new next = Pends (new.desk.holding n) (plan_left next.left)

    -- what the call holds now
    pending_here : (moment : ℕ) → IsPending (put_at w.desk.holding n
        (Some (holding.Own (Some moment))) n)
    pending_here moment = (moment, put_here w.desk.holding n (Some (holding.Own (Some moment))))

    on_tail : (p : List (Item K V E)) → IsTail p → OnStep eq After w n c p
    on_tail p (Answering a) = outcomes eq After w n c (plan.Reply a) [] tt
    on_tail p (Settling with a) = outcomes eq After w n c (plan.Settle with) (plan.Reply a ∷ []) tt

    on_drained : (p : List (Item K V E)) → HoldsAs n (w.desk.holding n) p → IsDrained p →
        OnStep eq After w n c p
    on_drained p k (Looking aim key l) = outcomes eq After w n c (plan.Get aim key) [] (
      λ more. q,
      λ none. misses_pends _ c aim k.0,
      λ there stored some. finds_pends _ c aim there stored k.0,
    )
    on_drained p k (Owning sought) = outcomes eq After w n c (plan.Own sought) []
        (λ able e. tt, λ disabled e. tt, λ owner e. tt)
    on_drained p k (Asking_op compute pair) =
        outcomes eq After w n c (plan.Ask_op compute pair) [] tt
    on_drained p k (Giving a) = outcomes eq After w n c (plan.Reply a) [] tt
    on_drained p k (Putting key value rest t) =
        outcomes eq After w n c (plan.Moment (plan.To_store key value)) rest
        (put_here w.desk.holding n (Some (holding.Own (Some w.desk.clock))))
    on_drained p k (Locking key value rest t) =
        outcomes eq After w n c (plan.Lock key) (plan.Moment (plan.To_store key value) ∷ rest)
        (λ e. tt, λ e. q)
    on_drained p k (Removing removal key) =
        outcomes eq After w n c (plan.Moment (plan.To_take_out removal key)) []
        (pending_here w.desk.clock)
    on_drained p k (Locking_out removal key) =
        outcomes eq After w n c (plan.Lock key) (plan.Moment (plan.To_take_out removal key) ∷ [])
        (λ e. tt, λ e. q)
    on_drained p k (Maintaining parts) =
        outcomes eq After w n c plan.Turn (plan.Apply ∷ plan.End ∷ plan.Candidates parts ∷ []) (λ e. tt, λ e. q)

    on_posted : (p : List (Item K V E)) → IsPosted p → OnStep eq After w n c p
    on_posted p (Draining rest d) = outcomes eq After w n c plan.Drain rest (
      λ e. drained_pends _ c rest d,
      λ x xs e. tt,
      λ x number xs e. tt,
    )
    on_posted p (Ended rest t) = on_tail rest t

    on_plan : (p : List (Item K V E)) → c.plan ≡ p → HoldsAs n (w.desk.holding n) p → IsPlan p →
        OnStep eq After w n c p
    on_plan p e k (Posted rest d) = on_posted rest d
    on_plan p e k (Drained rest d) = on_drained rest k d
    on_plan p e k (Posting x rest d) = outcomes eq After w n c (plan.Post x) rest
        (λ room. posted_pends _ c rest d, λ full. tt)
    on_plan p e k (Hearing number x rest d) = outcomes eq After w n c (plan.Ended number)
        (plan.Post x ∷ rest) (λ f. tt, λ f. q)
    on_plan p e k (Noticing key old cause upsert x rest t) =
        outcomes eq After w n c (plan.Notice key old cause upsert)
        (plan.Unlock true ∷ plan.Post x ∷ rest) (λ f. tt, λ f. tt)
    on_plan p e k (Listening x rest t) =
        outcomes eq After w n c plan.Heard (plan.Unlock true ∷ plan.Post x ∷ rest) (λ f. tt, λ f. q)
    on_plan p e k (Unlocking x rest t) = outcomes eq After w n c (plan.Unlock true)
        (plan.Post x ∷ rest) tt
    on_plan p e k (Turning x rest d) =
        outcomes eq After w n c plan.Turn (plan.Apply ∷ plan.End ∷ plan.Post x ∷ rest)
        (λ f. tt, λ f. q)
    on_plan p e k (Applying x rest d) =
        outcomes eq After w n c plan.Apply (plan.End ∷ plan.Post x ∷ rest) (λ f. tt, λ y ys f. tt)
    on_plan p e k (Ending x rest d) = outcomes eq After w n c plan.End (plan.Post x ∷ rest) tt
    on_plan p e k (Judging aim key stored l) =
        outcomes eq After w n c (plan.Judge aim key stored) []
        ((λ seen. hits_pends _ c aim key stored.value l), λ unseen. misses_pends _ c aim k.0)
    on_plan p e k (Reading sought) = outcomes eq After w n c (plan.Read sought) []
        (λ f. q, λ with f. read_pends _ c sought with q)
    on_plan p e k (Asking load) = outcomes eq After w n c (plan.Ask load) [] tt
    on_plan p e k (Telling load) = outcomes eq After w n c (plan.Told load) []
        (λ f. q, λ given f. told_pends _ c load given q)
    on_plan p e k (Owning_key compute) = outcomes eq After w n c (plan.Own_key compute) []
        ((λ able none. tt, λ not none. tt), λ owner some. tt)
    on_plan p e k (Owning_alone key) = outcomes eq After w n c (plan.Own_alone key) []
        ((λ able none. tt, λ not none. tt), λ owner some. (λ able. tt, λ not. tt))
    on_plan p e k (Reading_key compute) = outcomes eq After w n c (plan.Read_key compute) []
        (λ f. q, λ with f. read_key_pends _ c compute with q)
    on_plan p e k (Telling_op compute pair) = outcomes eq After w n c (plan.Told_op compute pair) []
        (λ f. q, λ given f. told_op_pends _ c compute pair given q)
    on_plan p e k (Writing key value moment rest t) =
        outcomes eq After w n c (plan.Write key value moment) rest
        (λ more. q, λ off old. tt, λ on. tt, λ there old on some. tt)
    on_plan p e k (Choosing key stamp cause) =
        outcomes eq After w n c (plan.Lock key) (plan.Get (plan.To_evict key stamp cause) key ∷ [])
        (λ f. tt, λ f. q)
    on_plan p e k (Finding key stamp cause) = outcomes eq After w n c
        (plan.Get (plan.To_evict key stamp cause) key) [] (
          λ more. q,
          λ none. keeps_pends _ c k.0,
          λ there stored some. finds_pends _ c (plan.To_evict key stamp cause) there stored k.0,
        )
    on_plan p e k (Chosen key stamp cause there stored) =
        outcomes eq After w n c (plan.Holds key stamp cause there stored) []
        (λ f. tt, λ f. keeps_pends _ c k.0)
    on_plan p e k (Taking removal key) = outcomes eq After w n c (plan.Out removal key) [] (
      λ more. q,
      λ off none. subst (Pends (w.desk.holding n)) e q,
      λ on none. inr (subst (Pends (w.desk.holding n)) e q),
      λ there old off some. tt,
      λ there old on some. tt,
    )
    on_plan p e k (Freeing rest t) = outcomes eq After w n c (plan.Unlock false) rest
        (tail_pends _ c rest t)
    on_plan p e k Hiding = outcomes eq After w n c plan.Invalidate_all (plan.Reply reply.Done ∷ []) tt
    on_plan p e k (Registering test) = outcomes eq After w n c (plan.Register test) [] tt
    on_plan p e k (Walking rest walk) = on_walk eq After w n c rest walk
        (λ listings stay next on. walks_pend _ c (subst (Pends (w.desk.holding n)) (sym e) (walk_pends _ p walk)) next on) tt (λ ids. tt)
    on_plan p e k (Applying_all parts) = outcomes eq After w n c plan.Apply (plan.End ∷ plan.Candidates parts ∷ []) (λ f. tt, λ y ys f. tt)
    on_plan p e k (Ending_all parts) = outcomes eq After w n c plan.End (plan.Candidates parts ∷ []) tt
    on_plan p e k (Idling rest t) = outcomes eq After w n c plan.Idle rest (tail_pends _ c rest t)

-- ---- of a state

module _ {K V E : Type 0} (eq : K → K → Bool) where
  record IsPlaced (s : State K V E) : Type 0 where
    holding : IsHolding s
    known : AllKnown eq s
    pends : (n : ℕ) → Pends (s.world.desk.holding n) (plan_left (s.calls n))

  -- what this call has pending now, and the others as before
  pends_on : (s : State K V E) (n : ℕ) (w : World K V E) (left : Option (Call K V E)) →
      ((m : ℕ) → Pends (s.world.desk.holding m) (plan_left (s.calls m))) → Pends (w.desk.holding n)
      (plan_left left) →
      ((m : ℕ) → (n == m) ≡ false → w.desk.holding m ≡ s.world.desk.holding m) →
      (m : ℕ) → Pends (w.desk.holding m) (plan_left (put_at s.calls n left m))
  pends_on s n w left all own others m = by (n == m) refl
    where
      by : (b : Bool) → (n == m) ≡ b → Pends (w.desk.holding m)
          (plan_left (put_at s.calls n left m))
      by true e =
          subst (λ v. Pends (w.desk.holding v) (plan_left (put_at s.calls n left v)))
          (eqb-true n m e)
          (subst (λ v. Pends (w.desk.holding n) (plan_left v)) (sym (put_here s.calls n left)) own)
      by false e =
          subst (λ v. Pends (w.desk.holding m) (plan_left v)) (sym (put_there s.calls n left m e))
          (subst (λ v. Pends v (plan_left (s.calls m))) (sym (others m e)) (all m))

  placed_step : (s t : State K V E) (n : ℕ) (turn : Turn K V E) → IsPlaced s → Step eq s n turn t →
      IsPlaced t
  placed_step s t n turn i step =
      let c : Call K V E = step.call in
      let others = others_hold eq s t n turn i.holding step in
      let q : Pends (s.world.desk.holding n) c.plan = subst
      (λ v. Pends (s.world.desk.holding n) (plan_left v)) step.live (i.pends n) in
      let k : HoldsAs n (s.world.desk.holding n) c.plan = subst
      (λ v. HoldsAs n (s.world.desk.holding n) (plan_left v)) step.live (i.holding.holds n) in
      record {
        holding = (holding_kept eq).step s t n turn i.holding step;
        known = (known_kept eq).step s t n turn i.known step;
        pends = step_cases eq (λ new next. Pends (new.desk.holding n) (plan_left next.left))
            (λ v _. ((m : ℕ) → (n == m) ≡ false → v.world.desk.holding m ≡ s.world.desk.holding m) →
            (m : ℕ) → Pends (v.world.desk.holding m) (plan_left (v.calls m))) s t n turn step
            (on_plan eq s.world n c q c.plan refl k (i.known n c step.live).plan)
            (λ w next own rest. pends_on s n w next.left i.pends own rest) others;
      }

  placed_kept : IsInvariant eq IsPlaced
  placed_kept = record {
    fresh = λ division divides rules size built has_log. record {
      holding = (holding_kept eq).fresh division divides rules size built has_log;
      known = (known_kept eq).fresh division divides rules size built has_log;
      pends = λ n. tt;
    };
    at = λ s moment i.
        record {
          holding = (holding_kept eq).at s moment i.holding;
          known =
              (known_kept eq).at s moment i.known;
          pends = i.pends;
        };
    start = λ s start i. record {
      holding = (holding_kept eq).start s start i.holding;
      known = (known_kept eq).start s start i.known;
      pends = pends_on s (s.world.desk.last + 1) (started s start).world
          (Some (fresh_call s.world.table.division.parts s.world.desk.rules start)) i.pends
          (form_pends _ s.world.desk.rules (plan_of s.world.table.division.parts s.world.desk.rules start)
          (fresh_plan s.world.table.division.parts s.world.desk.rules start)) (λ m e. refl);
    };
    step = placed_step;
    tell = λ s n given asked i. record {
      holding = (holding_kept eq).tell s n given asked i.holding;
      known = (known_kept eq).tell s n given asked i.known;
      pends = i.pends;
    };
    hear = λ s n off running i. record {
      holding = (holding_kept eq).hear s n off running i.holding;
      known = (known_kept eq).hear s n off running i.known;
      pends = i.pends;
    };
    drop = λ s n c live between i. record {
      holding = (holding_kept eq).drop s n c live between i.holding;
      known = (known_kept eq).drop s n c live between i.known;
      pends = pends_on s n (dropped s n c).world None i.pends tt
          (λ m e. put_there s.world.desk.holding n None m e);
    };
  }

  -- the moment of a write that is to be made is pending
  pub write_pends : (s : State K V E) (n : ℕ) (c : Call K V E) (key : K) (value : V) (moment : ℕ) (rest : List (Item K V E)) → IsReached eq s →
      s.calls n ≡ Some c → c.plan ≡ plan.Write key value moment ∷ rest → pending_of s.world.desk n ≡ Some moment
  write_pends s n c key value moment rest h live e =
      let i : IsPlaced s = in_reached eq IsPlaced placed_kept s h in
      let q : Pends (s.world.desk.holding n) c.plan = subst (λ v. Pends (s.world.desk.holding n) (plan_left v)) live (i.pends n) in
      ap (option_and_then moment_of) (subst (Pends (s.world.desk.holding n)) e q)

  -- ---- what follows

  -- what a place of its own is for
  abbrev IsUsed : ℕ → Option ℕ → List (Item K V E) → Type 0
  IsUsed n pending p = IsSome pending ⊎ ((w : Write) × (held_by p ≡ Some w) × (number_of w ≡ n))

  used_tail : (n : ℕ) (pending : Option ℕ) (p : List (Item K V E)) → IsTail p → HoldsAs n
      (Some (holding.Own pending)) p → ⊥
  used_tail n pending p (Answering a) k = none_some (sym k.0)
  used_tail n pending p (Settling with a) k = none_some (sym k.0)

  used_drained : (n : ℕ) (pending : Option ℕ) (p : List (Item K V E)) → IsDrained p → HoldsAs n
      (Some (holding.Own pending)) p → ⊥
  used_drained n pending p (Locking_out removal key) k = none_some (sym k.0)
  used_drained n pending p _ k = none_some (sym k.0)

  used : (n : ℕ) (pending : Option ℕ) (p : List (Item K V E)) → IsPlan p → HoldsAs n
      (Some (holding.Own pending)) p →
      Pends (Some (holding.Own pending)) p → IsUsed n pending p
  used n pending p (Posted rest (Ended more t)) k q = absurd (used_tail n pending more t k)
  used n pending p (Drained rest d) k q = absurd (used_drained n pending rest d k)
  used n pending p (Posting x rest d) k q = inr (x, refl, k.0)
  used n pending p (Hearing number x rest d) k q = inr (x, refl, k.0)
  used n pending p (Noticing key old cause upsert x rest t) k q = inr (x, refl, k.0)
  used n pending p (Listening x rest t) k q = inr (x, refl, k.0)
  used n pending p (Unlocking x rest t) k q = inr (x, refl, k.0)
  used n pending p (Turning x rest d) k q = inr (x, refl, k.0)
  used n pending p (Applying x rest d) k q = inr (x, refl, k.0)
  used n pending p (Ending x rest d) k q = inr (x, refl, k.0)
  used n pending p (Writing key value moment rest t) k q = inl (is_pending pending (moment, q))
  used n pending p (Taking removal key) k q = inl (is_pending pending q)
  used n pending p (Freeing rest t) k q = inl (either_pending pending q)
  used n pending p (Idling rest t) k q = inl (is_pending pending q)
  used n pending p (Walking rest Ends) k q = absurd (none_some (sym k.0))
  used n pending p (Walking rest (Lists part more walk)) k q = absurd (none_some (sym k.0))
  used n pending p (Walking rest (Finds key more walk)) k q = absurd (none_some (sym k.0))
  used n pending p (Walking rest (Scans there stored more walk)) k q = absurd (none_some (sym k.0))
  used n pending p _ k q = absurd (none_some (sym k.0))

  pub places_back : PlacesComeBack K V E eq
  places_back s n h =
      let i : IsPlaced s = in_reached eq IsPlaced placed_kept s h in
      record {
        live = λ held e. by_call i held e (s.calls n) refl;
        own = λ pending e. by_own i pending e (s.calls n) refl;
        taken_up = λ c write live e. by_held write (held_by c.plan)
            (subst (λ v. MayLeaveWith v n (held_by c.plan)) e (all_leave eq s h n c live));
      }
    where
      by_call : IsPlaced s → (held : Holding) → s.world.desk.holding n ≡ Some held →
          (o : Option (Call K V E)) → s.calls n ≡ o → IsSome (s.calls n)
      by_call i held e None f =
          let k = subst (λ v. HoldsAs n (s.world.desk.holding n) (plan_left v)) f
          (i.holding.holds n) in absurd (none_some (sym k ∙ e))
      by_call i held e (Some c) f = ap is_some f

      holds : (c : Call K V E) → s.calls n ≡ Some c → (pending : Option ℕ) → IsUsed n pending c.plan →
          IsSome pending ⊎ Holds s n n
      holds c f pending (inl some) = inl some
      holds c f pending (inr u) = inr (record {
        call = c;
        live = f;
        write = u.0;
        held = u.1;
        named =
            u.2;
      })

      by_own : IsPlaced s → (pending : Option ℕ) → s.world.desk.holding n ≡ Some
          (holding.Own pending) → (o : Option (Call K V E)) → s.calls n ≡ o →
          IsSome pending ⊎ Holds s n n
      by_own i pending e None f =
          let k = subst (λ v. HoldsAs n (s.world.desk.holding n) (plan_left v)) f
          (i.holding.holds n) in absurd (none_some (sym k ∙ e))
      by_own i pending e (Some c) f =
          let k = subst (λ v. HoldsAs n v c.plan) e
          (subst (λ v. HoldsAs n (s.world.desk.holding n) (plan_left v)) f
          (i.holding.holds n)) in
          let q = subst (λ v. Pends v c.plan) e
          (subst (λ v. Pends (s.world.desk.holding n) (plan_left v)) f (i.pends n)) in
          holds c f pending (used n pending c.plan (i.known n c f).plan k q)

      by_held : (write : Write) (o : Option Write) → MayLeaveWith
          (Some (holding.TookUp write)) n o → o ≡ Some write
      by_held write None may = absurd may
      by_held write (Some w) may = ap Some may
