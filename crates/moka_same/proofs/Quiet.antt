-- Where no walk is live each call does without one, or is maintenance.
use Rattle.std.proofs.Common.{◌≡◌, ℕ, zero, suc, ◌+◌, ◌==◌, nat_lt, Bool, true, false, List, [], ◌∷◌, ◌++◌, map, Option, Some, None, ◌⊎◌, inl, inr, MatchBool, MatchOption, refl, sym, ◌∙◌, subst}
use Rattle.std.proofs.lemmas.Bool.{eqb-true}
use Rattle.moka_hist.specs.Dropping.{dropped}
use Rattle.moka_hist.specs.Finite.{put_at}
use Rattle.moka_hist.specs.Maintenance.{carrying}
use Rattle.moka_hist.specs.Next.{Next, goes}
use Rattle.moka_hist.specs.Plan.{Item, is_disabled, lists_from, pending_plan}
use Rattle.moka_hist.specs.Plan as plan
use Rattle.moka_hist.specs.Run.{Any, Becomes, Drops, Goings, Happens, IsReached, Polls, Refuses, at_moment, fresh_call, last_call, started, with_desk}
use Rattle.moka_hist.specs.State.{Call, State, World}
use Rattle.moka_hist.specs.Step.{Step}
use Rattle.moka_hist.specs.Telling.{is_asked, told}
use Rattle.moka_hist.specs.declared.accesses.Turn.{Turn}
use Rattle.moka_hist.specs.declared.events.Event.{Event}
use Rattle.moka_hist.specs.declared.events.Event.TheVariants as event
use Rattle.moka_hist.specs.declared.events.Start.{Start}
use Rattle.moka_hist.specs.declared.events.Start.TheVariants as start
use Rattle.moka_hist.specs.declared.records.Mode.{Mode}
use Rattle.moka_hist.specs.declared.records.Mode.TheVariants as mode
use Rattle.moka_hist.specs.declared.records.Stored.{Stored}
use Rattle.moka_hist.specs.declared.rules.Rules.{Rules}
use Rattle.moka_hist.specs.declared.replies.Refusal.{Refusal}
use Rattle.moka_hist.specs.declared.replies.Refusal.TheVariants as refusal
use Rattle.moka_hist.specs.declared.replies.Reply.{Reply}
use Rattle.moka_hist.specs.declared.replies.Reply.TheVariants as reply
use Rattle.moka_laws.specs.Starting.{WasStarted}
use Rattle.moka_laws.proofs.Alongside.{holds_since, HoldsIf}
use Rattle.moka_laws.proofs.Begun.{live_started}
use Rattle.moka_laws.proofs.Counting.{put_here, put_there}
use Rattle.moka_laws.proofs.Laden.{fresh_calm}
use Rattle.moka_laws.proofs.NoWalks.{on_calm, walking}
use Rattle.moka_laws.proofs.Outcomes.{outcomes}
use Rattle.moka_laws.proofs.StepCases.{OnStep, more_step, step_cases}
use Rattle.moka_laws.proofs.Steady.{step_calls}
use Rattle.moka_laws.proofs.Walks.{Applies, Applies_first, Comes, Comes_not, Comes_on, Comes_to, Ends_first, Ends_turn, Gathers, Hears, IsComing, Posts, Takes_turn, Turns, on_coming}
use Rattle.moka_laws.proofs.Weights.{weigh, weigh_call}
use Rattle.moka_same.specs.Alike.{HasNoWalk, IsNoWalk, IsWhole}

some_none : {A : Type 0} {x : A} → Some x ≡ None → ⊥
some_none e = cc

-- a call is started as a walk, or as something else
walk_or_not : {K V : Type 0} (begin : Start K V) → (begin ≡ start.Iter) ⊎ IsNoWalk begin
walk_or_not start.Iter = inl refl
walk_or_not _ = inr tt

module _ {K V E : Type 0} where
  -- what maintenance that carries predicates has still to do, but for a record that it has found
  pub data IsSeeking : List (Item K V E) → Type 0 where
    Retires : IsSeeking (plan.Retire ∷ [])
    Lists : (part : ℕ) (rest : List (Item K V E)) → IsSeeking rest →
        IsSeeking (plan.List_keys part ∷ rest)
    Finds : (key : K) (rest : List (Item K V E)) → IsSeeking rest →
        IsSeeking (plan.Find key ∷ rest)

  lists_seek : (part left : ℕ) → IsSeeking (lists_from part left (plan.Retire ∷ []))
  lists_seek part zero = Retires
  lists_seek part (suc left) = Lists part _ (lists_seek (part + 1) left)

  pub finds_seek : (keys : List K) (rest : List (Item K V E)) → IsSeeking rest →
      IsSeeking (map plan.Find keys ++ rest)
  finds_seek [] rest r = r
  finds_seek (key ∷ keys) rest r = Finds key _ (finds_seek keys rest r)

  -- how a call stands where no walk is live
  pub data Quiet (c : Call K V E) : Type 0 where
    Free : weigh walking c.plan ≡ 0 → Quiet c
    Coming : (parts : ℕ) → IsComing parts c.plan → Quiet c
    Choosing : (parts : ℕ) → c.plan ≡ plan.Candidates parts ∷ [] → Quiet c
    Seeking : (ids : List (ℕ × ℕ)) → c.carried ≡ Some ids → IsSeeking c.plan → Quiet c
    Striking : (ids : List (ℕ × ℕ)) (there : K) (stored : Stored V) (rest : List (Item K V E)) →
        c.carried ≡ Some ids → c.plan ≡ plan.Strike there stored ∷ rest → IsSeeking rest → Quiet c

  abbrev pub QuietIf : Option (Call K V E) → Type 0
  QuietIf None = Unit {0}
  QuietIf (Some c) = Quiet c

  abbrev pub QuietState : State K V E → Type 0
  QuietState s = (n : ℕ) → QuietIf (s.calls n)

  free_if : (left : Option (Call K V E)) → weigh_call walking left ≡ 0 → QuietIf left
  free_if None h = tt
  free_if (Some c) h = Free h

  goes_coming : (c : Call K V E) (parts : ℕ) (p : List (Item K V E)) → IsComing parts p →
      QuietIf (goes c p).left
  goes_coming c parts p Gathers = Coming parts Gathers
  goes_coming c parts p (Hears number held) = Coming parts (Hears number held)
  goes_coming c parts p (Posts held) = Coming parts (Posts held)
  goes_coming c parts p (Takes_turn held) = Coming parts (Takes_turn held)
  goes_coming c parts p (Applies_first held) = Coming parts (Applies_first held)
  goes_coming c parts p (Ends_first held) = Coming parts (Ends_first held)
  goes_coming c parts p Turns = Coming parts Turns
  goes_coming c parts p Applies = Coming parts Applies
  goes_coming c parts p Ends_turn = Coming parts Ends_turn

  comes_quiet : (c : Call K V E) (parts : ℕ) → IsComing parts c.plan → (next : Next K V E) →
      Comes parts c next → QuietIf next.left
  comes_quiet c parts coming next (Comes_on rest more) = goes_coming c parts rest more
  comes_quiet c parts coming next Comes_to = Choosing parts refl
  comes_quiet c parts coming next Comes_not = Coming parts coming

  goes_seeking : (c : Call K V E) (ids : List (ℕ × ℕ)) → c.carried ≡ Some ids →
      (p : List (Item K V E)) → IsSeeking p → QuietIf (goes c p).left
  goes_seeking c ids is p Retires = Seeking ids is Retires
  goes_seeking c ids is p (Lists part rest r) = Seeking ids is (Lists part rest r)
  goes_seeking c ids is p (Finds key rest r) = Seeking ids is (Finds key rest r)

module _ {K V E : Type 0} (eq : K → K → Bool) (w : World K V E) (n : ℕ) (c : Call K V E) where
  abbrev Left : World K V E → Next K V E → Type 0
  Left new next = QuietIf next.left

  seeking_on : (ids : List (ℕ × ℕ)) → c.carried ≡ Some ids → (p : List (Item K V E)) →
      c.plan ≡ p → IsSeeking p → OnStep eq Left w n c p
  seeking_on ids is p e Retires = outcomes eq Left w n c plan.Retire [] tt
  seeking_on ids is p e (Lists part rest r) = outcomes eq Left w n c (plan.List_keys part) rest (
    λ more. Seeking ids is (subst IsSeeking (sym e) (Lists part rest r)),
    λ listed keys begun gives. goes_seeking c ids is (map plan.Find keys ++ rest)
        (finds_seek keys rest r),
  )
  seeking_on ids is p e (Finds key rest r) = outcomes eq Left w n c (plan.Find key) rest (
    λ more. Seeking ids is (subst IsSeeking (sym e) (Finds key rest r)),
    λ none. goes_seeking c ids is rest r,
    λ there stored some none. absurd (some_none (sym is ∙ none)),
    λ there stored others some same. Striking ids there stored rest is refl r,
  )

  -- a call's step leaves it so
  quiet_on : Quiet c → OnStep eq Left w n c c.plan
  quiet_on (Free calm) = more_step eq
      (λ (new : World K V E) (next : Next K V E). weigh_call walking next.left ≡ 0) Left
      (λ new next h. free_if next.left h) w n c c.plan (on_calm eq w n c c.plan refl calm)
  quiet_on (Coming parts coming) = on_coming eq Left w n c parts c.plan coming
      (λ d spares next comes. comes_quiet c parts coming next comes)
  quiet_on (Choosing parts is) = subst (OnStep eq Left w n c) (sym is)
      (outcomes eq Left w n c (plan.Candidates parts) [] (
        λ over. tt,
        λ id more some. goes_seeking (carrying c (id ∷ more)) (id ∷ more) refl
            (lists_from 0 parts (plan.Retire ∷ [])) (lists_seek 0 parts),
      ))
  quiet_on (Seeking ids is r) = seeking_on ids is c.plan refl r
  quiet_on (Striking ids there stored rest is e r) = subst (OnStep eq Left w n c) (sym e)
      (outcomes eq Left w n c (plan.Strike there stored) rest
      (goes_seeking (carrying c _) _ refl rest r))

module _ {K V E : Type 0} (eq : K → K → Bool) where
  step_own : (s t : State K V E) (n : ℕ) (said : Turn K V E) → QuietIf (s.calls n) →
      Step eq s n said t → QuietIf (t.calls n)
  step_own s t n said q step = step_cases eq
      (λ (new : World K V E) (next : Next K V E). QuietIf next.left) (λ v _. QuietIf (v.calls n))
      s t n said step (quiet_on eq s.world n step.call (subst QuietIf step.live q))
      (λ w next g. subst QuietIf (sym (put_here s.calls n next.left)) g)

  -- a step leaves all calls so
  pub step_quiet : (s t : State K V E) (n : ℕ) (said : Turn K V E) → QuietState s →
      Step eq s n said t → QuietState t
  step_quiet s t n said q step m = by (n == m) refl
    where
      by : (b : Bool) → (n == m) ≡ b → QuietIf (t.calls m)
      by true e = subst (λ v. QuietIf (t.calls v)) (eqb-true n m e)
          (step_own s t n said (q n) step)
      by false e = subst QuietIf (sym (step_calls eq s t n m said e step)) (q m)

  steps_quiet : (k : ℕ) (s t : State K V E) (n : ℕ) → QuietState s → Goings eq Any k s n t →
      QuietState t
  unfolding Goings
  steps_quiet zero s t n q going = subst (λ v. QuietState v) (sym going) q
  steps_quiet (suc k) s t n q going =
      step_quiet going.0 t n _ (steps_quiet k s going.0 n q going.1) going.2

  -- ---- from its start on

  fresh_quiet : (parts : ℕ) (rules : Rules) (begin : Start K V) → IsNoWalk begin →
      Quiet {E = E} (fresh_call parts rules begin)
  fresh_quiet parts rules start.Iter other = absurd other
  fresh_quiet parts rules start.Pending other = by (is_disabled rules)
    where
      by : (b : Bool) → Quiet {K = K} {V = V} {E = E}
          (record (fresh_call parts rules start.Pending) { plan = pending_plan b parts })
      by true = Free refl
      by false = Coming parts Gathers
  fresh_quiet parts rules begin other =
      Free (fresh_calm E parts rules begin (λ e. cc) (λ e. cc))

  abbrev Holds : State K V E → Call K V E → Type 0
  Holds s c = Quiet c

  quiet_held : (s : State K V E) (o : Option (Call K V E)) → QuietIf o → HoldsIf Holds s o
  quiet_held s None q = tt
  quiet_held s (Some c) q = q

  held_quiet : (s : State K V E) (o : Option (Call K V E)) → HoldsIf Holds s o → QuietIf o
  held_quiet s None h = tt
  held_quiet s (Some c) h = h

  started_quiet : (s : State K V E) (n : ℕ) (begin : Start K V) → WasStarted eq begin n s →
      IsNoWalk begin → QuietIf (s.calls n)
  started_quiet s n begin was other = held_quiet s (s.calls n) (holds_since eq begin n Holds
      (λ s v c led rules h. h)
      (λ s t said reached h step. quiet_held t (t.calls n)
      (step_own s t n said (held_quiet s (s.calls n) h) step))
      s was (λ v. fresh_quiet v.world.table.division.parts v.world.desk.rules begin other)).1

  -- so are all calls of a reached state without a live walk
  pub reached_quiet : (s : State K V E) → IsReached eq s → HasNoWalk eq s → QuietState s
  reached_quiet s reached none n = by (s.calls n) refl
    where
      by : (o : Option (Call K V E)) → s.calls n ≡ o → QuietIf o
      by None e = tt
      by (Some c) live = begun (live_started eq s n c reached live)
        where
          begun : (begin : Start K V) × WasStarted eq begin n s → Quiet c
          begun b = kind (walk_or_not b.0)
            where
              kind : (b.0 ≡ start.Iter) ⊎ IsNoWalk b.0 → Quiet c
              kind (inl walk) =
                  absurd (none n c live (subst (λ v. WasStarted eq v n s) walk b.1))
              kind (inr other) = subst QuietIf live (started_quiet s n b.0 b.1 other)

  -- ---- what each event leaves

  refused : (s t : State K V E) (why : Refusal) (r : Reply K V E) → QuietState s →
      Refuses s why r t → QuietState t
  refused s t why r q h = subst (λ v. QuietState v) (sym h.same) q

  becomes : (next t : State K V E) (said r : Reply K V E) → QuietState next →
      Becomes next said r t → QuietState t
  becomes next t said r q h = subst (λ v. QuietState v) (sym h.after) q

  put_quiet : (calls : ℕ → Option (Call K V E)) (n : ℕ) (left : Option (Call K V E)) →
      ((m : ℕ) → QuietIf (calls m)) → QuietIf left → (m : ℕ) → QuietIf (put_at calls n left m)
  put_quiet calls n left q own m = by (n == m) refl
    where
      by : (b : Bool) → (n == m) ≡ b → QuietIf (put_at calls n left m)
      by true e = subst (λ v. QuietIf (put_at calls n left v)) (eqb-true n m e)
          (subst QuietIf (sym (put_here calls n left)) own)
      by false e = subst QuietIf (sym (put_there calls n left m e)) (q m)

  drops : (s t : State K V E) (n : ℕ) (c : Call K V E) (m : Mode) (r : Reply K V E) →
      QuietState s → Drops s n c m r t → QuietState t
  drops s t n c mode.Mid r q h = refused s t refusal.NotParked r q h
  drops s t n c _ r q h =
      becomes (dropped s n c) t reply.Dropped r (put_quiet s.calls n None q tt) h

  pub event_quiet : (s t : State K V E) (e : Event K V E) (r : Reply K V E) → IsWhole e →
      QuietState s → Happens eq Any s e r t → QuietState t
  event_quiet s t (event.At moment) r whole q h = by (nat_lt moment s.world.desk.clock) h
    where
      by : (b : Bool) → MatchBool b (Refuses s refusal.ClockBack r t)
          (Becomes (at_moment s moment) reply.At r t) → QuietState t
      by true h = refused s t refusal.ClockBack r q h
      by false h = becomes (at_moment s moment) t reply.At r q h
  event_quiet s t (event.Start begin) r whole q h = by (s.world.desk.last == last_call) h
    where
      by : (b : Bool) → MatchBool b (Refuses s refusal.CallsSpent r t)
          (Becomes (started s begin) (reply.Call (s.world.desk.last + 1)) r t) → QuietState t
      by true h = refused s t refusal.CallsSpent r q h
      by false h = becomes (started s begin) t (reply.Call (s.world.desk.last + 1)) r
          (put_quiet s.calls (s.world.desk.last + 1) _ q
          (fresh_quiet s.world.table.division.parts s.world.desk.rules begin whole)) h
  event_quiet s t (event.Tell n answer) r whole q h = by (is_asked s.world.desk n answer) h
    where
      by : (b : Bool) → MatchBool b
          (Becomes (with_desk s (told s.world.desk n answer)) reply.Told r t)
          (Refuses s refusal.NotAsked r t) → QuietState t
      by true h = becomes (with_desk s (told s.world.desk n answer)) t reply.Told r q h
      by false h = refused s t refusal.NotAsked r q h
  event_quiet s t (event.Drop n) r whole q h = by (s.calls n) h
    where
      by : (o : Option (Call K V E)) → MatchOption o (Refuses s refusal.UnknownCall r t)
          (λ c. Drops s n c c.mode r t) → QuietState t
      by None h = refused s t refusal.UnknownCall r q h
      by (Some c) h = drops s t n c c.mode r q h
  event_quiet s t (event.Poll n) r whole q h = by (s.calls n) h
    where
      by : (o : Option (Call K V E)) → MatchOption o (Refuses s refusal.UnknownCall r t)
          (λ _. Polls eq Any s n r t) → QuietState t
      by None h = refused s t refusal.UnknownCall r q h
      by (Some c) h = step_quiet h.mid t n h.last.turn
          (steps_quiet h.going s h.mid n q h.goes) h.last.step
  event_quiet s t (event.Step n) r whole q h = absurd whole
