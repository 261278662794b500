-- What a call answers that was started to take a record out.
use Rattle.std.proofs.Common.{◌≡◌, ◌⊎◌, inl, inr, ℕ, suc, ◌+◌, ◌<◌, ◌≤◌, ◌==◌, Bool, true, false, cond, List, [], ◌∷◌, ◌++◌, Option, Some, None, refl, sym, ap, ◌∙◌, subst, arith}
use Rattle.std.proofs.lemmas.Bool.{eqb-true, false≢true}
use Rattle.std.specs.Cmp.{IsEquivalence}
use Rattle.std.specs.Prelude.{◌↔◌, Contains, IsSome, is_some}
use Rattle.moka_hist.specs.Finite.{times}
use Rattle.moka_hist.specs.State.{State, World, Call, TablePart}
use Rattle.moka_hist.specs.Plan.{Item, Removal, plan_of, under_lock}
use Rattle.moka_hist.specs.Plan as plan
use Rattle.moka_hist.specs.Next.{Next, goes, waits}
use Rattle.moka_hist.specs.Looking.{keeps}
use Rattle.moka_hist.specs.Dropping.{dropped}
use Rattle.moka_hist.specs.Step.{Step, state_after}
use Rattle.moka_hist.specs.Tables.{removed, taken_by}
use Rattle.moka_hist.specs.Writing.{said, nothing_answer, removed_answer, stamp_asked}
use Rattle.moka_hist.specs.Run.{started}
use Rattle.moka_hist.specs.declared.accesses.Turn.{Turn}
use Rattle.moka_hist.specs.declared.accesses.Turn.TheVariants as turn
use Rattle.moka_hist.specs.declared.events.Start.{Start}
use Rattle.moka_hist.specs.declared.events.Start.TheVariants as start
use Rattle.moka_hist.specs.declared.records.Stored.{Stored}
use Rattle.moka_hist.specs.declared.replies.Answer.{Answer}
use Rattle.moka_hist.specs.declared.replies.Answer.TheVariants as answer
use Rattle.moka_hist.specs.declared.rules.Rules.{Rules}
use Rattle.moka_hist.specs.declared.writes.Write.TheVariants.{Remove}
use Rattle.moka_laws.specs.Removals.{EvictedIsOut, EvictedThat, IsAsked, RemovalsAnswer, RemoveAnswersTaken, SaysNothing, SaysTaken, StandsAs, TookOut}
use Rattle.moka_laws.specs.Starts.{removal_started}
use Rattle.moka_laws.specs.Starting.{Leads, WasStarted}
use Rattle.moka_laws.proofs.Counting.{differ, none_some, some_same, put_here, put_there}
use Rattle.moka_laws.proofs.OnePlace.{contains_times, times_contains}
use Rattle.moka_laws.proofs.Posts.{may_write}
use Rattle.moka_laws.proofs.Weights.{weigh}
use Rattle.moka_laws.proofs.Rules.{chosen_by, kept_next, IsNamed, said_named}
use Rattle.moka_laws.proofs.Kept.{in_reached}
use Rattle.moka_laws.proofs.Following.{IsFollowed, leads_more, no_leads, step_leads}
use Rattle.moka_laws.proofs.Starting.{begins_so, follow_start}
use Rattle.moka_laws.proofs.Steady.{step_calls, step_commits, step_last}
use Rattle.moka_laws.proofs.Stamps.{IsPast, IsStamped, now_times, pair_of, past_step, removed_past, stamped_kept}
use Rattle.moka_laws.proofs.StepCases.{OnStep, step_cases}
use Rattle.moka_laws.proofs.Outcomes.{outcomes}

contains_last : {A : Type 0} (xs : List A) (x : A) → Contains (xs ++ x ∷ []) x
contains_last [] x = (0, omega arith, refl)
contains_last (y ∷ xs) x = let h = contains_last xs x in (suc h.0, omega (arith, h.1), h.2)

module _ {K V : Type 0} where
  -- what is taken out stood there, and is what was asked for
  pub taken_was : (asked : Option ℕ) (o : Option (K × Stored V)) (pair : K × Stored V) →
      taken_by asked o ≡ Some pair →
      (o ≡ Some pair) × IsAsked asked pair.1.stamp
  taken_was asked None pair e = absurd (none_some e)
  taken_was None (Some p) pair e = (e, tt)
  taken_was (Some stamp) (Some p) pair e = by (p.1.stamp == stamp) refl e
    where
      by : (b : Bool) → (p.1.stamp == stamp) ≡ b → cond b (Some p) None ≡ Some pair →
          (Some p ≡ Some pair) × (pair.1.stamp ≡ stamp)
      by true is e = (
        e,
        ap (λ (v : K × Stored V). v.1.stamp)
            (sym (some_same e)) ∙ eqb-true p.1.stamp stamp is,
      )
      by false is e = absurd (none_some e)

module _ {K V E : Type 0} (removal : Removal K) (key : K) (n : ℕ) where
  -- ---- how far the call is

  -- it has still to take the record out
  abbrev Early : List (Item K V E) → Type 0
  Early (plan.Drain ∷ rest) = Early rest
  Early (plan.Ended number ∷ rest) = Early rest
  Early (plan.Post write ∷ rest) = Early rest
  Early (plan.Turn ∷ rest) = Early rest
  Early (plan.Apply ∷ rest) = Early rest
  Early (plan.End ∷ rest) = Early rest
  Early (plan.Lock k ∷ rest) = Early rest
  Early (plan.Get (plan.To_evict own stamp cause) at ∷ []) =
      (removal ≡ plan.To_evict_chosen stamp cause) × (own ≡ key)
  Early (plan.Holds own stamp cause there found ∷ []) =
      (removal ≡ plan.To_evict_chosen stamp cause) × (own ≡ key)
  Early (plan.Moment (plan.To_take_out r k) ∷ []) = (r ≡ removal) × (k ≡ key) × IsNamed r
  Early (plan.Out r k ∷ []) = (r ≡ removal) × (k ≡ key) × IsNamed r
  Early _ = ⊥

  -- it has found nothing
  abbrev Empty : List (Item K V E) → Type 0
  Empty (plan.Idle ∷ plan.Reply a ∷ []) = a ≡ nothing_answer removal
  Empty (plan.Unlock false ∷ plan.Reply a ∷ []) = a ≡ nothing_answer removal
  Empty _ = ⊥

  -- it has taken this pair out
  abbrev Late : K × Stored V → List (Item K V E) → Type 0
  Late pair (plan.Notice k old cause upsert ∷ rest) = Late pair rest
  Late pair (plan.Heard ∷ rest) = Late pair rest
  Late pair (plan.Unlock true ∷ rest) = Late pair rest
  Late pair (plan.Turn ∷ rest) = Late pair rest
  Late pair (plan.Apply ∷ rest) = Late pair rest
  Late pair (plan.End ∷ rest) = Late pair rest
  Late pair (plan.Post write ∷ plan.Reply a ∷ []) = (write ≡ Remove n pair.1.stamp) ×
      (a ≡ removed_answer removal pair.1.value)
  Late pair _ = ⊥

  early_may : (p : List (Item K V E)) → Early p → 0 < weigh may_write p
  early_may (plan.Drain ∷ rest) h = omega (arith, early_may rest h)
  early_may (plan.Ended number ∷ rest) h = omega (arith, early_may rest h)
  early_may (plan.Post write ∷ rest) h = omega (arith, early_may rest h)
  early_may (plan.Turn ∷ rest) h = omega (arith, early_may rest h)
  early_may (plan.Apply ∷ rest) h = omega (arith, early_may rest h)
  early_may (plan.End ∷ rest) h = omega (arith, early_may rest h)
  early_may (plan.Lock k ∷ rest) h = omega (arith, early_may rest h)
  early_may (plan.Get (plan.To_evict own stamp cause) at ∷ []) h = omega arith
  early_may (plan.Holds own stamp cause there found ∷ []) h = omega arith
  early_may (plan.Moment (plan.To_take_out r k) ∷ []) h = omega arith
  early_may (plan.Out r k ∷ []) h = omega arith
  early_may [] h = absurd h
  early_may (_ ∷ rest) h = absurd h

  -- ---- what a step makes of it

  module _ (eq : K → K → Bool) (t : TablePart K V) where
    -- of a call that had still to take the record out: it has still to; it found nothing; it took a
    -- pair out; or it answers that it found nothing
    data FromEarly (new : World K V E) (next : Next K V E) : Type 0 where
      Stays_early : (d : Call K V E) → next.left ≡ Some d → Early d.plan → next.turn ≡ turn.Going ⊎
          (next.turn ≡ turn.Wait) → FromEarly new next
      Gets_empty : (d : Call K V E) → next.left ≡ Some d → Empty d.plan → next.turn ≡ turn.Going →
          new.table ≡ t → FromEarly new next
      Takes : (pair : K × Stored V) (d : Call K V E) → next.left ≡ Some d → Late pair d.plan →
          next.turn ≡ turn.Going →
          t.stored key ≡ Some pair → IsAsked (stamp_asked removal) pair.1.stamp → new.table ≡
          removed eq n t key → FromEarly new next
      Answers_empty : next.left ≡ None → next.turn ≡ turn.Answer (nothing_answer removal) →
          new.table ≡ t → FromEarly new next

    -- of one that found nothing: it answers that
    record FromEmpty (new : World K V E) (next : Next K V E) : Type 0 where
      left : next.left ≡ None
      turn : next.turn ≡ turn.Answer (nothing_answer removal)
      same : new.table ≡ t

    -- of one that took this pair out: so it is still, or it answers that, and has logged it
    data FromLate (pair : K × Stored V) (new : World K V E) (next : Next K V E) : Type 0 where
      Stays_late : (d : Call K V E) → next.left ≡ Some d → Late pair d.plan →
          ((a : Answer K V E) → next.turn ≡ turn.Answer a → ⊥) →
          new.table ≡ t → FromLate pair new next
      Answers_late : next.left ≡ None → next.turn ≡ turn.Answer
          (removed_answer removal pair.1.value) → new.table ≡ t →
          Contains new.desk.log (Remove n pair.1.stamp) → FromLate pair new next

  module _ (eq : K → K → Bool) (w : World K V E) (c : Call K V E) where
    goes_early : {new : World K V E} (rest : List (Item K V E)) → Early rest → FromEarly eq w.table new
        (goes c rest)
    goes_early [] h = absurd h
    goes_early (plan.Reply a ∷ rest) h = absurd h
    goes_early (item ∷ rest) h = Stays_early _ refl h (inl refl)

    waits_early : {new : World K V E} (p : List (Item K V E)) → c.plan ≡ p → Early p →
        FromEarly eq w.table new (waits c)
    waits_early p e h = Stays_early _ refl (subst Early (sym e) h) (inr refl)

    keeps_early : {new : World K V E} → new.table ≡ w.table → ◌≡◌ {A = Answer K V E}
        (nothing_answer removal) answer.Kept → FromEarly eq w.table new (keeps c)
    keeps_early {new} same e =
        kept_next (FromEarly eq w.table new) c
        (λ off. Answers_empty refl (ap (λ a. turn.Answer a) (sym e)) same)
        (λ on. Gets_empty _ refl (sym e) refl same)

    on_early : (p : List (Item K V E)) → c.plan ≡ p → Early p → OnStep eq
        (FromEarly eq w.table) w n c p
    on_early (plan.Drain ∷ rest) e h = outcomes eq (FromEarly eq w.table) w n c plan.Drain rest (
      λ f. goes_early rest h,
      λ x xs f. Stays_early _ refl h (inl refl),
      λ x number xs f. Stays_early _ refl h (inl refl),
    )
    on_early (plan.Ended number ∷ rest) e h = outcomes eq (FromEarly eq w.table) w n c
        (plan.Ended number) rest
        (λ f. goes_early rest h, λ f. waits_early (plan.Ended number ∷ rest) e h)
    on_early (plan.Post write ∷ rest) e h = outcomes eq (FromEarly eq w.table) w n c
        (plan.Post write) rest
        (λ f. goes_early rest h, λ f. Stays_early _ refl h (inl refl))
    on_early (plan.Turn ∷ rest) e h = outcomes eq (FromEarly eq w.table) w n c plan.Turn rest
        (λ f. goes_early rest h, λ f. waits_early (plan.Turn ∷ rest) e h)
    on_early (plan.Apply ∷ rest) e h = outcomes eq (FromEarly eq w.table) w n c plan.Apply rest
        (λ f. goes_early rest h, λ x xs f. Stays_early _ refl h (inl refl))
    on_early (plan.End ∷ rest) e h = outcomes eq (FromEarly eq w.table) w n c plan.End rest
        (goes_early rest h)
    on_early (plan.Lock k ∷ rest) e h = outcomes eq (FromEarly eq w.table) w n c (plan.Lock k) rest
        (λ f. goes_early rest h, λ f. waits_early (plan.Lock k ∷ rest) e h)
    on_early (plan.Get (plan.To_evict own stamp cause) at ∷ []) e h =
        outcomes eq (FromEarly eq w.table) w n c (plan.Get (plan.To_evict own stamp cause) at) [] (
          λ more. Stays_early _ refl (subst Early (sym e) h) (inl refl),
          λ none. keeps_early refl (ap nothing_answer h.0),
          λ there seen some.
              chosen_by (FromEarly eq w.table _) c own stamp cause there seen
              (λ other. keeps_early refl (ap nothing_answer h.0))
              (λ same. Stays_early _ refl h (inl refl)),
        )
    on_early (plan.Holds own stamp cause there seen ∷ []) e h =
        outcomes eq (FromEarly eq w.table) w n c (plan.Holds own stamp cause there seen) [] (
          λ holds. Stays_early _ refl (sym h.0, h.1, tt) (inl refl),
          λ not. keeps_early refl
              (ap nothing_answer h.0),
        )
    on_early (plan.Moment (plan.To_take_out r k) ∷ []) e h =
        outcomes eq (FromEarly eq w.table) w n c (plan.Moment (plan.To_take_out r k)) []
        (Stays_early _ refl h (inl refl))
    on_early (plan.Out r k ∷ []) e h = outcomes eq (FromEarly eq w.table) w n c (plan.Out r k) [] (
      λ more. Stays_early _ refl (subst Early (sym e) h) (inl refl),
      λ off none. Gets_empty _ refl
          (subst (λ v. Empty (plan.Idle ∷ v)) (sym (said_named r (nothing_answer r) h.2))
          (ap nothing_answer h.0)) refl refl,
      λ on none. Gets_empty _ refl
          (subst (λ v. Empty (plan.Unlock false ∷ v)) (sym (said_named r (nothing_answer r) h.2))
          (ap nothing_answer h.0)) refl refl,
      λ there old off some. Takes (there, old) _ refl (late there old) refl (was there old some).0
          (was there old some).1
          (ap (λ v. removed eq n w.table v) h.1),
      λ there old on some. Takes (there, old) _ refl (late there old) refl (was there old some).0
          (was there old some).1
          (ap (λ v. removed eq n w.table v) h.1),
    )
      where
        late : (there : K) (old : Stored V) → Late (there, old)
            (plan.Post (Remove n old.stamp) ∷ said r (removed_answer r old.value))
        late there old = subst (λ v. Late (there, old) (plan.Post (Remove n old.stamp) ∷ v))
            (sym (said_named r (removed_answer r old.value) h.2))
            (refl, ap (λ v. removed_answer v old.value) h.0)

        was : (there : K) (old : Stored V) → taken_by (stamp_asked r) (w.table.stored k) ≡ Some
            (there, old) →
            (w.table.stored key ≡ Some (there, old)) × IsAsked (stamp_asked removal) old.stamp
        was there old some =
            let g = taken_was (stamp_asked r) (w.table.stored k) (there, old) some in (
              subst (λ v. w.table.stored v ≡ Some (there, old)) h.1 g.0,
              subst
                  (λ v. IsAsked (stamp_asked v) old.stamp) h.0 g.1,
            )
    on_early [] e h = absurd h
    on_early (_ ∷ rest) e h = absurd h

    on_empty : (p : List (Item K V E)) → Empty p → OnStep eq (FromEmpty eq w.table) w n c p
    on_empty (plan.Idle ∷ plan.Reply a ∷ []) h = outcomes eq (FromEmpty eq w.table) w n c plan.Idle
        (plan.Reply a ∷ [])
        (record { left = refl; turn = ap (λ v. turn.Answer v) h; same = refl })
    on_empty (plan.Unlock false ∷ plan.Reply a ∷ []) h = outcomes eq (FromEmpty eq w.table) w n c
        (plan.Unlock false) (plan.Reply a ∷ [])
        (record { left = refl; turn = ap (λ v. turn.Answer v) h; same = refl })
    on_empty [] h = absurd h
    on_empty (_ ∷ rest) h = absurd h

    module _ (pair : K × Stored V) where
      goes_late : {new : World K V E} (rest : List (Item K V E)) → new.table ≡ w.table →
          Late pair rest → FromLate eq w.table pair new (goes c rest)
      goes_late [] same h = absurd h
      goes_late (plan.Reply a ∷ rest) same h = absurd h
      goes_late (item ∷ rest) same h = Stays_late _ refl h (λ a f. cc) same

      waits_late : {new : World K V E} (p : List (Item K V E)) → new.table ≡ w.table → c.plan ≡ p →
          Late pair p → FromLate eq w.table pair new (waits c)
      waits_late p same e h = Stays_late _ refl (subst (Late pair) (sym e) h) (λ a f. cc) same

      on_late : (p : List (Item K V E)) → c.plan ≡ p → Late pair p → OnStep eq
          (FromLate eq w.table pair) w n c p
      on_late (plan.Notice k old cause upsert ∷ rest) e h = outcomes eq
          (FromLate eq w.table pair) w n c (plan.Notice k old cause upsert) rest
          (λ off. goes_late rest refl h, λ on. Stays_late _ refl h (λ a f. cc) refl)
      on_late (plan.Heard ∷ rest) e h = outcomes eq (FromLate eq w.table pair) w n c plan.Heard rest
          (λ f. goes_late rest refl h, λ f. waits_late (plan.Heard ∷ rest) refl e h)
      on_late (plan.Unlock true ∷ rest) e h = outcomes eq (FromLate eq w.table pair) w n c
          (plan.Unlock true) rest (goes_late rest refl h)
      on_late (plan.Turn ∷ rest) e h = outcomes eq (FromLate eq w.table pair) w n c plan.Turn rest
          (λ f. goes_late rest refl h, λ f. waits_late (plan.Turn ∷ rest) refl e h)
      on_late (plan.Apply ∷ rest) e h = outcomes eq (FromLate eq w.table pair) w n c plan.Apply rest
          (λ f. goes_late rest refl h, λ x xs f. Stays_late _ refl h (λ a g. cc) refl)
      on_late (plan.End ∷ rest) e h = outcomes eq (FromLate eq w.table pair) w n c plan.End rest
          (goes_late rest refl h)
      on_late (plan.Post write ∷ plan.Reply a ∷ []) e h = outcomes eq
          (FromLate eq w.table pair) w n c (plan.Post write) (plan.Reply a ∷ []) (
            λ room. Answers_late refl (ap (λ v. turn.Answer v) h.1) refl
                (subst (λ v. Contains (w.desk.log ++ write ∷ []) v) h.0
                (contains_last w.desk.log write)),
            λ full. Stays_late _ refl h (λ b f. cc) refl,
          )
      on_late [] e h = absurd h
      on_late (_ ∷ rest) e h = absurd h

-- ---- of a state

module _ {K V E : Type 0} (eq : K → K → Bool) (laws : IsEquivalence eq) (begin : Start K V)
    (removal : Removal K) (key : K) (n : ℕ) where
  -- the call has taken this pair out, and is to answer that
  record HasTaken (s : State K V E) (p : List (Item K V E)) : Type 0 where
    pair : K × Stored V
    late : Late removal key n pair p
    took : TookOut eq begin n key pair s
    asked : IsAsked (stamp_asked removal) pair.1.stamp
    committed : 0 < times n s.world.table.committed
    past : IsPast eq pair.1.stamp s.world.table

  -- it has found nothing, and committed nothing
  record HasNothing (s : State K V E) (p : List (Item K V E)) : Type 0 where
    empty : Empty removal key n p
    uncommitted : times n s.world.table.committed ≡ 0

  -- how far the call is
  abbrev IsSo : State K V E → List (Item K V E) → Type 0
  IsSo s p = Early removal key n p ⊎ (HasNothing s p ⊎ HasTaken s p)

  abbrev IsSoIf : State K V E → Option (Call K V E) → Type 0
  IsSoIf s None = Unit {0}
  IsSoIf s (Some c) = IsSo s c.plan

  abbrev Says : State K V E → Answer K V E → Type 0
  Says s a = SaysTaken eq begin s n removal key a ⊎ SaysNothing s n removal a

  -- so it is as the others go on
  taken_on : (s t : State K V E) (pair : K × Stored V) → Leads eq s t →
      TookOut eq begin n key pair s → TookOut eq begin n key pair t
  taken_on s t pair led k = record {
    before = k.before;
    was = k.was;
    stood = k.stood;
    after = k.after;
    turn = k.turn;
    step = k.step;
    out = k.out;
    led = leads_more eq k.after s t k.led led;
  }

  so_on : (s t : State K V E) (p : List (Item K V E)) → Leads eq s t → times n t.world.table.committed ≡
      times n s.world.table.committed →
      ((x : ℕ) → IsPast eq x s.world.table → IsPast eq x t.world.table) → IsSo s p → IsSo t p
  so_on s t p led same past (inl h) = inl h
  so_on s t p led same past (inr (inl h)) = inr
      (inl (record { empty = h.empty; uncommitted = same ∙ h.uncommitted }))
  so_on s t p led same past (inr (inr h)) = inr (inr (record {
    pair = h.pair;
    late = h.late;
    took = taken_on s t h.pair led h.took;
    asked = h.asked;
    committed = subst (λ v. 0 < v) (sym same) h.committed;
    past = past h.pair.1.stamp h.past;
  }))

  -- what the call's own step leaves, and answers
  record Result (s : State K V E) (reply : Turn K V E) : Type 0 where
    so : IsSoIf s (s.calls n)
    says : (a : Answer K V E) → reply ≡ turn.Answer a → Says s a

  no_answer : (r : Turn K V E) (a : Answer K V E) → (r ≡ turn.Going) ⊎ (r ≡ turn.Wait) → r ≡
      turn.Answer a → ⊥
  no_answer r a (inl e) f = let g : turn.Going ≡ turn.Answer a = sym e ∙ f in cc
  no_answer r a (inr e) f = let g : turn.Wait ≡ turn.Answer a = sym e ∙ f in cc

  same_answer : (a b : Answer K V E) → ◌≡◌ {A = Turn K V E} (turn.Answer a) (turn.Answer b) → a ≡ b
  same_answer a b e = cc

  module _ (s : State K V E) (i : IsStamped eq s) (was : WasStarted eq begin n s) where
    module _ (new : World K V E) (next : Next K V E)
        (step : Step eq s n next.turn (state_after s n new next)) where
      abbrev after : State K V E
      after = state_after s n new next

      left_so : (d : Call K V E) → next.left ≡ Some d → IsSo after d.plan → IsSoIf after
          (after.calls n)
      left_so d e h = subst (IsSoIf after) (sym (put_here s.calls n next.left ∙ e)) h

      left_none : next.left ≡ None → IsSoIf after (after.calls n)
      left_none e = subst (IsSoIf after) (sym (put_here s.calls n next.left ∙ e)) tt

      says_nothing : (a : Answer K V E) → next.turn ≡ turn.Answer (nothing_answer removal) →
          new.table ≡
          s.world.table →
          times n s.world.table.committed ≡ 0 → next.turn ≡ turn.Answer a → Says after a
      says_nothing a e same none f = inr (record {
        answer = sym (same_answer (nothing_answer removal) a (sym e ∙ f));
        uncommitted = λ h. let k = contains_times n new.table.committed h in omega
            (arith, k, none, ap (λ (v : TablePart K V). times n v.committed) same);
      })

      from_early : times n s.world.table.committed ≡ 0 →
          FromEarly removal key n eq s.world.table new next → Result after next.turn
      from_early none (Stays_early d e h r) = record
          { so = left_so d e (inl h); says = λ a f. absurd (no_answer next.turn a r f) }
      from_early none (Gets_empty d e h r same) = record {
        so = left_so d e (inr (inl (record {
          empty = h;
          uncommitted = ap
              (λ (v : TablePart K V). times n v.committed) same ∙ none;
        })));
        says = λ a f. absurd (no_answer next.turn a (inl r) f);
      }
      from_early none (Takes pair d e h r stood asked out) = record {
        so = left_so d e (inr (inr (record {
          pair = pair;
          late = h;
          took = record {
            before = s;
            was = was;
            stood = stood;
            after = after;
            turn = next.turn;
            step = step;
            out = out;
            led = no_leads eq after;
          };
          asked = asked;
          committed = subst (λ (v : TablePart K V). 0 < times n v.committed) (sym out)
              (now_times n s.world.table.committed);
          past = subst (IsPast eq pair.1.stamp) (sym out) (removed_past eq s n key pair i stood);
        })));
        says = λ a f. absurd (no_answer next.turn a (inl r) f);
      }
      from_early none (Answers_empty e r same) = record
          { so = left_none e; says = λ a f. says_nothing a r same none f }

      from_empty : times n s.world.table.committed ≡ 0 →
          FromEmpty removal key n eq s.world.table new next → Result after next.turn
      from_empty none h = record {
        so = left_none h.left;
        says =
            λ a f. says_nothing a h.turn h.same none f;
      }

      from_late : (p : List (Item K V E)) (k : HasTaken s p) →
          FromLate removal key n eq s.world.table k.pair new next → Result after next.turn
      from_late p k (Stays_late d e h r same) = record {
        so = left_so d e (inr (inr (record {
          pair = k.pair;
          late = h;
          took = taken_on s after k.pair (step_leads eq s after n next.turn step) k.took;
          asked = k.asked;
          committed = subst (λ (v : TablePart K V). 0 < times n v.committed) (sym same) k.committed;
          past = subst (IsPast eq k.pair.1.stamp) (sym same) k.past;
        })));
        says = λ a f. absurd (r a f);
      }
      from_late p k (Answers_late e r same logged) = record {
        so = left_none e;
        says = λ a f. inl (record {
          pair = k.pair;
          took = taken_on s after k.pair (step_leads eq s after n next.turn step) k.took;
          asked = k.asked;
          answer = sym (same_answer (removed_answer removal k.pair.1.value) a (sym r ∙ f));
          committed = times_contains n new.table.committed
              (subst (λ (v : TablePart K V). 0 < times n v.committed) (sym same) k.committed);
          logged = logged;
          gone = λ q h.
              let o = pair_of eq (new.table.stored q) k.pair.1.stamp h in
              (subst (IsPast eq k.pair.1.stamp) (sym same) k.past).gone q o.0 o.1 o.2;
        });
      }

    -- the call's own step
    own_result : (t : State K V E) (turn : Turn K V E) (step : Step eq s n turn t) →
        IsSo s step.call.plan → Result t turn
    own_result t turn step (inl h) =
        let none : times n s.world.table.committed ≡ 0 = omega (
          arith,
          i.balanced.unspent n step.call step.live,
          early_may removal key n step.call.plan h,
        ) in
        step_cases eq (FromEarly removal key n eq s.world.table)
        (λ v r. Step eq s n r v → Result v r) s t n turn step
        (on_early removal key n eq s.world step.call step.call.plan refl h)
        (λ new next m now. from_early new next now none m) step
    own_result t turn step (inr (inl h)) =
        step_cases eq (FromEmpty removal key n eq s.world.table)
        (λ v r. Step eq s n r v → Result v r) s t n turn step
        (on_empty removal key n eq s.world step.call step.call.plan h.empty)
        (λ new next m now. from_empty new next now h.uncommitted m) step
    own_result t turn step (inr (inr h)) =
        step_cases eq (FromLate removal key n eq s.world.table h.pair)
        (λ v r. Step eq s n r v → Result v r) s t n turn step
        (on_late removal key n eq s.world step.call h.pair step.call.plan refl h.late)
        (λ new next m now. from_late new next now step.call.plan h m) step

  -- ---- on the way

  record IsRemoving (first : State K V E → Type 0) (s : State K V E) : Type 0 where
    led : first s
    stamped : IsStamped eq s
    born : n ≤ s.world.desk.last
    so : IsSoIf s (s.calls n)

  so_if_on : (s t : State K V E) (o : Option (Call K V E)) → Leads eq s t →
      times n t.world.table.committed ≡ times n s.world.table.committed →
      ((x : ℕ) → IsPast eq x s.world.table → IsPast eq x t.world.table) → IsSoIf s o → IsSoIf t o
  so_if_on s t None led same past h = tt
  so_if_on s t (Some c) led same past h = so_on s t c.plan led same past h

  module _ (was : State K V E → Type 0) (more : (s t : State K V E) → Leads eq s t → was s → was t)
      (started_so : (s : State K V E) → was s → WasStarted eq begin n s) where
    removing_step : (s t : State K V E) (m : ℕ) (turn : Turn K V E) → Leads eq s t → IsRemoving was s →
        Step eq s m turn t → IsRemoving was t
    removing_step s t m turn led i step = record {
      led = more s t led i.led;
      stamped = (stamped_kept eq laws).step s t m turn i.stamped step;
      born = omega (arith, i.born, step_last eq s t m turn step);
      so = by (m == n) refl;
    }
      where
        by : (b : Bool) → (m == n) ≡ b → IsSoIf t (t.calls n)
        by true e =
            let own : Step eq s n turn t = subst (λ v. Step eq s v turn t) (eqb-true m n e) step in
            (own_result s i.stamped (started_so s i.led) t turn own
            (subst (IsSoIf s) own.live i.so)).so
        by false e =
            subst (IsSoIf t) (sym (step_calls eq s t m n turn e step))
            (so_if_on s t (s.calls n) led (step_commits eq s t m n turn e step)
            (λ x p. past_step eq s t m x turn i.stamped.balanced p step) i.so)

    removing_followed : IsFollowed eq (IsRemoving was)
    removing_followed = record {
      at = λ s moment on led i. record {
        led = more s _ led i.led;
        stamped = (stamped_kept eq laws).at s moment i.stamped;
        born = i.born;
        so = so_if_on s _ (s.calls n) led refl (λ x p. p) i.so;
      };
      start = λ s other fits led i. record {
        led = more s _ led i.led;
        stamped = (stamped_kept eq laws).start s other i.stamped;
        born = omega (arith, i.born);
        so = subst (IsSoIf (started s other))
            (sym (put_there s.calls (s.world.desk.last + 1) _ n
            (differ (s.world.desk.last + 1) n (λ e. omega (arith, i.born, e)))))
            (so_if_on s (started s other) (s.calls n) led refl (λ x p. p) i.so);
      };
      step = removing_step;
      tell = λ s m given asked led i. record {
        led = more s _ led i.led;
        stamped = (stamped_kept eq laws).tell s m given asked i.stamped;
        born = i.born;
        so = so_if_on s _ (s.calls n) led refl (λ x p. p) i.so;
      };
      hear = λ s m off running led i. record {
        led = more s _ led i.led;
        stamped = (stamped_kept eq laws).hear s m off running i.stamped;
        born = i.born;
        so = so_if_on s _ (s.calls n) led refl (λ x p. p) i.so;
      };
      drop = λ s m c live between led i. record {
        led = more s _ led i.led;
        stamped = (stamped_kept eq laws).drop s m c live between i.stamped;
        born = i.born;
        so = dropped_so s (dropped s m c) led refl i.so (m == n);
      };
    }
      where
        dropped_so : (s t : State K V E) → Leads eq s t → t.world.table ≡ s.world.table → IsSoIf s
            (s.calls n) → (b : Bool) →
            IsSoIf t (cond b None (s.calls n))
        dropped_so s t led same h true = tt
        dropped_so s t led same h false =
            so_if_on s t (s.calls n) led (ap (λ (v : TablePart K V). times n v.committed) same)
            (λ x p. subst (IsPast eq x) (sym same) p) h

same_removal : {K : Type 0} (x y : Removal K × K) → Some x ≡ Some y → (x.0 ≡ y.0) × (x.1 ≡ y.1)
same_removal {K = K} x y e = (
  ap (λ (v : Removal K × K). v.0) (some_same e),
  ap
      (λ (v : Removal K × K). v.1) (some_same e),
)

module _ {K V : Type 0} (E : Type 0) where
  -- a call that is started to take a record out has still to
  starts_early : (parts : ℕ) (rules : Rules) (begin : Start K V) (removal : Removal K) (key : K) (n : ℕ) →
      removal_started begin ≡ Some (removal, key) →
      Early removal key n (plan_of {E = E} parts rules begin)
  starts_early parts rules (start.Invalidate k) removal key n e = by rules.listener
    where
      by : (b : Bool) → Early {V = V} {E = E} removal key n
          (under_lock b k (plan.Moment (plan.To_take_out plan.To_invalidate k) ∷ []))
      by true = let f = same_removal (plan.To_invalidate, k) (removal, key) e in (f.0, f.1, tt)
      by false = let f = same_removal (plan.To_invalidate, k) (removal, key) e in (f.0, f.1, tt)
  starts_early parts rules (start.Remove k) removal key n e = by rules.listener
    where
      by : (b : Bool) → Early {V = V} {E = E} removal key n
          (under_lock b k (plan.Moment (plan.To_take_out plan.To_remove k) ∷ []))
      by true = let f = same_removal (plan.To_remove, k) (removal, key) e in (f.0, f.1, tt)
      by false = let f = same_removal (plan.To_remove, k) (removal, key) e in (f.0, f.1, tt)
  starts_early parts rules (start.Evict k stamp cause) removal key n e = by rules.listener
    where
      same : (removal ≡ plan.To_evict_chosen stamp cause) × (k ≡ key)
      same = let f = same_removal (plan.To_evict_chosen stamp cause, k) (removal, key) e in
          (sym f.0, f.1)

      by : (b : Bool) → Early {V = V} {E = E} removal key n
          (under_lock b k (plan.Get (plan.To_evict k stamp cause) k ∷ []))
      by true = same
      by false = same
  starts_early parts rules _ removal key n e = absurd (none_some e)

module _ {K V E : Type 0} (eq : K → K → Bool) (laws : IsEquivalence eq) where
  pub removals_answer : RemovalsAnswer K V E eq
  removals_answer s t begin removal key n a what w step =
      let i : IsRemoving eq laws begin removal key n (Leads eq w.begun) s =
      follow_start eq begin n s w (IsRemoving eq laws begin removal key n (Leads eq w.begun))
      (removing_followed eq laws begin removal key n (Leads eq w.begun)
      (λ u v led was. leads_more eq w.begun u v was led) started_so) first in
      (own_result eq laws begin removal key n s i.stamped w t (turn.Answer a) step
      (subst (IsSoIf eq laws begin removal key n s) step.live i.so)).says a refl
    where
      started_so : (v : State K V E) → Leads eq w.begun v → WasStarted eq begin n v
      started_so v led = record {
        before = w.before;
        reached = w.reached;
        begun = w.begun;
        begins =
            w.begins;
        led = led;
      }

      first : IsRemoving eq laws begin removal key n (Leads eq w.begun) (started w.before begin)
      first =
          let is = begins_so eq begin n s w in
          record {
            led = subst (Leads eq w.begun) is.1 (no_leads eq w.begun);
            stamped = (stamped_kept eq laws).start w.before begin
                (in_reached eq (IsStamped eq) (stamped_kept eq laws) w.before w.reached);
            born = omega (arith, is.0);
            so = subst (IsSoIf eq laws begin removal key n (started w.before begin))
                (sym (ap (λ v. (started w.before begin).calls v) is.0 ∙ put_here w.before.calls
                (w.before.world.desk.last + 1) _))
                (inl (starts_early E w.before.world.table.division.parts w.before.world.desk.rules begin removal key n what));
          }

  pub remove_taken : RemoveAnswersTaken K V E eq
  remove_taken s t key n value w step =
      by (removals_answer s t (start.Remove key) plan.To_remove key n
      (answer.Found value) refl w step)
    where
      same_found : (x y : Option V) → ◌≡◌ {A = Answer K V E} (answer.Found x) (answer.Found y) →
          x ≡ y
      same_found x y e = cc

      by : SaysTaken eq (start.Remove key) t n plan.To_remove key (answer.Found value) ⊎
          SaysNothing t n plan.To_remove (answer.Found value) →
          IsSome value ↔ Contains t.world.table.committed n
      by (inl h) = (
        λ some. h.committed,
        λ has. ap is_some (same_found value
            (Some h.pair.1.value) h.answer),
      )
      by (inr h) = (
        λ some. absurd (false≢true (ap is_some (sym (same_found value None h.answer)) ∙ some)),
        λ has. absurd (h.uncommitted has),
      )

  pub evicted_out : EvictedIsOut K V E eq
  evicted_out s t key stamp cause n w step =
      by (removals_answer s t (start.Evict key stamp cause)
      (plan.To_evict_chosen stamp cause) key n answer.Evicted refl w step)
    where
      not_kept : ◌≡◌ {A = Answer K V E} answer.Evicted answer.Kept → ⊥
      not_kept e = cc

      by : SaysTaken eq (start.Evict key stamp cause) t n
          (plan.To_evict_chosen stamp cause) key answer.Evicted ⊎
          SaysNothing t n (plan.To_evict_chosen stamp cause) answer.Evicted → EvictedThat t n stamp
      by (inl h) = record {
        committed = h.committed;
        logged = subst (λ v. Contains t.world.desk.log (Remove n v)) h.asked h.logged;
        gone = subst (λ v. (q : K) → StandsAs t q v → ⊥) h.asked h.gone;
      }
      by (inr h) = absurd (not_kept h.answer)
