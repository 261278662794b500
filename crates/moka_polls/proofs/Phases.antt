-- A poll goes through phases: where the call stands, and what table and desk are then.
use Rattle.std.proofs.Common.{◌≡◌, ◌≢◌, ℕ, zero, suc, ◌==◌, Bool, true, false, cond, List, [], ◌∷◌, Option, Some, refl, sym, ap, ◌∙◌, subst}
use Rattle.moka_hist.specs.Finite.{put_at}
use Rattle.moka_hist.specs.State.{State, World, Call, DeskPart, TablePart, Stay}
use Rattle.moka_hist.specs.Plan.{Item}
use Rattle.moka_hist.specs.Plan as plan
use Rattle.moka_hist.specs.Next.{Next, goes}
use Rattle.moka_hist.specs.Step.{Step, state_after}
use Rattle.moka_hist.specs.Run.{Goings, Polls, Happens, Any, reply_of}
use Rattle.moka_hist.specs.declared.accesses.Turn.{Turn}
use Rattle.moka_hist.specs.declared.accesses.Turn.TheVariants as turn
use Rattle.moka_hist.specs.declared.events.Event.TheVariants as event
use Rattle.moka_hist.specs.declared.records.Mode.{Mode}
use Rattle.moka_hist.specs.declared.replies.Reply.{Reply}
use Rattle.moka_hist.specs.declared.replies.Reply.TheVariants as reply
use Rattle.moka_laws.proofs.Counting.{some_same, put_here}
use Rattle.moka_laws.proofs.StepCases.{OnStep, more_step, step_cases}
use Rattle.moka_laws.proofs.Outcomes.{outcomes, put_same}
use Rattle.moka_polls.specs.Polls.{HasToDo, PollGives, without_writes}

-- what was put at a number is gone once another is put there
put_twice : {A : Type 0} (f : ℕ → A) (n : ℕ) (v w : A) → put_at (put_at f n v) n w ≡ put_at f n w
put_twice f n v w = λ i m. (by m (n == m)) i
  where
    by : (m : ℕ) (b : Bool) → cond b w (cond b v (f m)) ≡ cond b w (f m)
    by m true = refl
    by m false = refl

-- the reply Going is that of a step that leaves its call going
is_going : {K V E : Type 0} (t : Turn K V E) → reply_of t ≢ reply.Going → t ≢ turn.Going
is_going t h e = h (ap reply_of e)

-- the world has this table, and this desk but for writes on their way and accesses
pub record IsAt {K V E : Type 0} (t : TablePart K V) (d : DeskPart K V E) (w : World K V E)
    : Type 0 where
  pub table : w.table ≡ t
  pub desk : without_writes w.desk ≡ without_writes d

-- a table operation leaves it there that stays undecided or changes nothing
pub stay_at : {K V E : Type 0} (t : TablePart K V) (d : DeskPart K V E) (w : World K V E) (stay : Stay) →
    IsAt t d w → IsAt t d (record w { stay = stay })
stay_at t d w stay at = record { table = at.table; desk = at.desk }

-- the world has this table and this desk, accesses and writes on their way too
pub record IsAsIt {K V E : Type 0} (t : TablePart K V) (d : DeskPart K V E) (w : World K V E)
    : Type 0 where
  pub table : w.table ≡ t
  pub desk : w.desk ≡ d

pub at_as_it : {K V E : Type 0} (t : TablePart K V) (d : DeskPart K V E) (w : World K V E) →
    IsAsIt t d w → IsAt t d w
at_as_it t d w at = record { table = at.table; desk = ap without_writes at.desk }

-- how a poll is to end: with this reply, with this left of the call, at this table and this desk
pub record End (K V E : Type 0) : Type 0 where
  pub reply : Reply K V E
  pub left : Option (Call K V E)
  pub table : TablePart K V
  pub desk : DeskPart K V E

-- it has ended so
pub record Ends {K V E : Type 0} (end : End K V E) (w : World K V E) (next : Next K V E) : Type 0 where
  pub replies : reply_of next.turn ≡ end.reply
  pub leaves : next.left ≡ end.left
  pub found : IsAt end.table end.desk w

module _ {K V E : Type 0} where
  -- the call, so far along its plan
  abbrev pub along : Call K V E → Mode → List (Item K V E) → Call K V E
  along c mode p = record c { mode = mode; plan = p }

-- the live call is this far along
pub to_do : {K V E : Type 0} (s : State K V E) (n : ℕ) (c : Call K V E) (p : List (Item K V E)) →
    HasToDo s n c p → s.calls n ≡ Some (along c c.mode p)
to_do s n c p h = h.live ∙ ap (λ q. Some (along c c.mode q)) h.plan

module _ {K V E : Type 0} (Phase : World K V E → Call K V E → Type 0)
    (Fin : World K V E → Next K V E → Type 0) where
  -- how a call goes on: in a phase, or it ends as it is to
  pub record Comes (w : World K V E) (next : Next K V E) : Type 0 where
    pub going : next.turn ≡ turn.Going → (b : Call K V E) × (next.left ≡ Some b) × Phase w b
    pub ends : next.turn ≢ turn.Going → Fin w next

  module _ (eq : K → K → Bool) (n : ℕ)
      (steps : (w : World K V E) (b : Call K V E) → Phase w b → OnStep eq Comes w n b b.plan) where
    -- the call is in a phase, and no other has changed
    abbrev In : State K V E → State K V E → Type 0
    In s t = (b : Call K V E) × (t.calls ≡ put_at s.calls n (Some b)) × Phase t.world b

    -- the call has ended, and no other has changed
    abbrev Ended : State K V E → State K V E → Turn K V E → Type 0
    Ended s t r = (next : Next K V E) × (r ≡ next.turn) × (t.calls ≡ put_at s.calls n next.left) ×
        Fin t.world next

    abbrev After : State K V E → State K V E → Turn K V E → Type 0
    After s t r = (r ≡ turn.Going → In s t) × (r ≢ turn.Going → Ended s t r)

    one_step : (s v t : State K V E) (r : Turn K V E) → In s v → Step eq v n r t → After s t r
    one_step s v t r i step =
        let here : v.calls n ≡ Some i.0 = ap (λ f. f n) i.1 ∙ put_here s.calls n (Some i.0) in
        let is : i.0 ≡ step.call = some_same (sym here ∙ step.live) in
        step_cases eq Comes (After s) v t n r step
        (subst (λ (d : Call K V E). OnStep eq Comes v.world n d d.plan) is (steps v.world i.0 i.2))
        follows
      where
        others : (x : Option (Call K V E)) → put_at v.calls n x ≡ put_at s.calls n x
        others x = ap (λ f. put_at f n x) i.1 ∙ put_twice s.calls n (Some i.0) x

        follows : (w : World K V E) (next : Next K V E) → Comes w next →
            After s (state_after v n w next) next.turn
        follows w next g = (
          λ e. let d = g.going e in
              (d.0, others next.left ∙ ap (λ x. put_at s.calls n x) d.1, d.2),
          λ h. (next, refl, others next.left, g.ends h),
        )

    more_steps : (k : ℕ) (s v : State K V E) → In s s → Goings eq Any k s n v → In s v
    unfolding Goings
    more_steps zero s v i going = subst (In s) (sym going) i
    more_steps (suc k) s v i going =
        (one_step s going.0 v turn.Going (more_steps k s going.0 i going.1) going.2).0 refl

    -- a poll of a live call that is in a phase ends as it is to
    pub poll_ends : (s new : State K V E) (b : Call K V E) (r : Reply K V E) →
        s.calls n ≡ Some b → Phase s.world b → Happens eq Any s (event.Poll n) r new →
        (next : Next K V E) × (r ≡ reply_of next.turn) × (new.calls ≡ put_at s.calls n next.left) ×
        Fin new.world next
    poll_ends s new b r live phase happens =
        let polls : Polls eq Any s n r new = rw live at happens in
        let i : In s s = (b, sym (put_same s.calls n (Some b) live), phase) in
        let not_going : reply_of polls.last.turn ≢ reply.Going =
        λ e. polls.ends (polls.last.reply ∙ e) in
        let e : Ended s new polls.last.turn =
        (one_step s polls.mid new polls.last.turn (more_steps polls.going s polls.mid i polls.goes)
        polls.last.step).1 (is_going polls.last.turn not_going) in
        (e.0, polls.last.reply ∙ ap reply_of e.1, e.2, e.3)

module _ {K V E : Type 0} (c : Call K V E) (Phase : World K V E → List (Item K V E) → Type 0)
    (Fin : World K V E → Next K V E → Type 0) where
  -- how the call goes on: in a phase, or it ends as it is to
  pub record Goes (w : World K V E) (next : Next K V E) : Type 0 where
    pub going : next.turn ≡ turn.Going → (m : Mode) × (p : List (Item K V E)) ×
        (next.left ≡ Some (along c m p)) × Phase w p
    pub ends : next.turn ≢ turn.Going → Fin w next

  -- it goes on in a phase, or ends
  pub on : (w : World K V E) (m : Mode) (p : List (Item K V E)) → Phase w p →
      Goes w (record { left = Some (along c m p); turn = turn.Going })
  on w m p phase = record { going = λ e. (m, p, refl, phase); ends = λ h. absurd (h refl) }

  pub stops : (w : World K V E) (next : Next K V E) → next.turn ≢ turn.Going → Fin w next →
      Goes w next
  stops w next h ends = record { going = λ e. absurd (h e); ends = λ _. ends }

  -- what each phase gives is what its step may make
  abbrev pub Steps : (K → K → Bool) → ℕ → Type 0
  Steps eq n = (w : World K V E) (m : Mode) (p : List (Item K V E)) → Phase w p →
      OnStep eq Goes w n (along c m p) p

  -- where no write is owed the call goes on at once
  pub drains : (eq : K → K → Bool) (n : ℕ) (w : World K V E) (m : Mode) (rest : List (Item K V E)) →
      w.desk.owed ≡ [] → Goes w (goes (along c m (plan.Drain ∷ rest)) rest) →
      OnStep eq Goes w n (along c m (plan.Drain ∷ rest)) (plan.Drain ∷ rest)
  drains eq n w m rest owes goes_on =
      outcomes eq Goes w n (along c m (plan.Drain ∷ rest)) plan.Drain rest
      ((λ e. goes_on), λ x xs e. cc, λ x number xs e. cc)

module _ {K V E : Type 0} (c : Call K V E) (Phase : World K V E → List (Item K V E) → Type 0)
    (end : End K V E) (eq : K → K → Bool) (n : ℕ) (steps : Steps c Phase (Ends end) eq n) where
  -- the call, somewhere along its plan, is in a phase
  abbrev Along : World K V E → Call K V E → Type 0
  Along w b = (m : Mode) × (p : List (Item K V E)) × (b ≡ along c m p) × Phase w p

  comes : (w : World K V E) (next : Next K V E) → Goes c Phase (Ends end) w next →
      Comes Along (Ends end) w next
  comes w next g = record {
    going = λ e. let d = g.going e in (along c d.0 d.1, d.2, (d.0, d.1, refl, d.3));
    ends = g.ends;
  }

  all_steps : (w : World K V E) (b : Call K V E) → Along w b →
      OnStep eq (Comes Along (Ends end)) w n b b.plan
  all_steps w b i = subst (λ (d : Call K V E). OnStep eq (Comes Along (Ends end)) w n d d.plan)
      (sym i.2)
      (more_step eq (Goes c Phase (Ends end)) (Comes Along (Ends end)) comes w n (along c i.0 i.1) i.1
      (steps w i.0 i.1 i.3))

  -- what the poll gives, where it is known how it is to end
  pub poll_gives : (s new : State K V E) (m : Mode) (p : List (Item K V E)) (r : Reply K V E) →
      s.calls n ≡ Some (along c m p) → Phase s.world p → Happens eq Any s (event.Poll n) r new →
      PollGives s n end.reply end.left end.table end.desk r new
  poll_gives s new m p r live phase happens =
      let e = poll_ends Along (Ends end) eq n all_steps s new (along c m p) r live (m, p, refl, phase)
      happens in
      record {
        replies = e.1 ∙ e.3.replies;
        leaves = e.2 ∙ ap (λ x. put_at s.calls n x) e.3.leaves;
        stores = e.3.found.table;
        keeps = e.3.found.desk;
      }
