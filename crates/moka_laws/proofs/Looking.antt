-- What a get answers, by what its look finds and its visit judges; and what a load's look shows.
use Rattle.std.specs.Prelude.{◌↔◌, IsSomeAnd}
use Rattle.std.proofs.Common.{◌≡◌, ◌⊎◌, inl, inr, ℕ, Bool, true, false, List, [], ◌∷◌, Option, Some, None, refl, sym, ap, ◌∙◌, subst}
use Rattle.std.proofs.lemmas.Bool.{false≢true}
use Rattle.moka_hist.specs.State.{State, World, Call}
use Rattle.moka_hist.specs.Plan.{Item, Aim, end_load, get_plan, is_disabled, look, plan_of}
use Rattle.moka_hist.specs.Plan as plan
use Rattle.moka_hist.specs.Next.{Next, answers, goes, stays, waits}
use Rattle.moka_hist.specs.Looking.{hits, misses}
use Rattle.moka_hist.specs.Step.{Step, replace_of, state_after}
use Rattle.moka_hist.specs.Visits.{is_seen}
use Rattle.moka_hist.specs.Run.{IsReached, fresh_call, started}
use Rattle.moka_hist.specs.declared.accesses.Turn.{Turn}
use Rattle.moka_hist.specs.declared.accesses.Turn.TheVariants as turn
use Rattle.moka_hist.specs.declared.events.Start.TheVariants as start
use Rattle.moka_hist.specs.declared.records.Mode.TheVariants as mode
use Rattle.moka_hist.specs.declared.records.Stored.{Stored}
use Rattle.moka_hist.specs.declared.replies.Answer.{Answer}
use Rattle.moka_hist.specs.declared.replies.Answer.TheVariants as answer
use Rattle.moka_hist.specs.declared.visits.Settled.TheVariants as settled
use Rattle.moka_laws.specs.Looks.{GetsMiss, GetsShow, HasDecided, InsertsShow, LoadsShow, LooksUp, OwnersShow, SeesNothing, SeesValue, is_visible_in}
use Rattle.moka_laws.specs.Starting.{HasMade, Leads, WasStarted}
use Rattle.moka_laws.proofs.Alongside.{HoldsIf, holds_since}
use Rattle.moka_laws.proofs.Counting.{none_some, put_here, some_same}
use Rattle.moka_laws.proofs.Following.{made_on, no_leads, step_leads}
use Rattle.moka_laws.proofs.Outcomes.{outcomes}
use Rattle.moka_laws.proofs.Owning.{plan_left}
use Rattle.moka_laws.proofs.Rules.{put_plans}
use Rattle.moka_laws.proofs.StepCases.{OnStep, step_cases}
use Rattle.moka_laws.proofs.Steady.{step_rules}

abbrev shows : {K V : Type 0} → Aim K V
shows = plan.To_show plan.As_value

unlike : {V : Type 0} (a : V) → ◌≡◌ {A = Option V} (Some a) None → ⊥
unlike a e = cc

module _ {K V E : Type 0} where
  -- the plan looks a key up next, or judges what was found
  abbrev looks_next : List (Item K V E) → Bool
  looks_next (plan.Get aim key ∷ rest) = true
  looks_next (plan.Judge aim key stored ∷ rest) = true
  looks_next _ = false

  -- judging one record is judging no other
  same_judged : (a b : K) (x y : Stored V) →
      ◌≡◌ {A = List (Item K V E)} (plan.Judge shows a x ∷ []) (plan.Judge shows b y ∷ []) →
      (a ≡ b) × (x ≡ y)
  same_judged a b x y e = (cc, cc)

  judges_not : (p : List (Item K V E)) {aim : Aim K V} {at : K} → p ≡ plan.Get aim at ∷ [] →
      (there : K) (stored : Stored V) → p ≡ plan.Judge shows there stored ∷ [] → ⊥
  judges_not p e there stored f = cc

  replies_not : (p : List (Item K V E)) {a : Answer K V E} → p ≡ plan.Reply a ∷ [] →
      (there : K) (stored : Stored V) → p ≡ plan.Judge shows there stored ∷ [] → ⊥
  replies_not p e there stored f = cc

  same_found : (a b : Option V) →
      ◌≡◌ {A = Turn K V E} (turn.Answer (answer.Found a)) (turn.Answer (answer.Found b)) → a ≡ b
  same_found a b e = cc

  goes_not : {a : Answer K V E} → ◌≡◌ {A = Turn K V E} turn.Going (turn.Answer a) → ⊥
  goes_not e = cc

  none_not : (value : V) → ◌≡◌ {A = Turn K V E} (turn.Answer (answer.Found None))
      (turn.Answer (answer.Found (Some value))) → ⊥
  none_not value e = unlike value (sym (same_found None (Some value) e))

  no_plan : (p : List (Item K V E)) {aim : Aim K V} {at : K} → p ≡ plan.Get aim at ∷ [] →
      [] ≡ p → ⊥
  no_plan p e f = cc

module _ {K V E : Type 0} (eq : K → K → Bool) (key : K) (n : ℕ) where
  -- how far a get is that has still to look its key up, or to judge what it found
  abbrev Early : State K V E → List (Item K V E) → Type 0
  Early s (plan.Drain ∷ rest) = Early s rest
  Early s (plan.Ended number ∷ rest) = Early s rest
  Early s (plan.Post write ∷ rest) = Early s rest
  Early s (plan.Turn ∷ rest) = Early s rest
  Early s (plan.Apply ∷ rest) = Early s rest
  Early s (plan.End ∷ rest) = Early s rest
  Early s (plan.Get (plan.To_show plan.As_value) at ∷ []) = at ≡ key
  Early s (plan.Judge (plan.To_show plan.As_value) there stored ∷ []) =
      HasMade eq s n (LooksUp n (plan.To_show plan.As_value) key (Some (there, stored)))
  Early s _ = ⊥

  early_on : (s v : State K V E) → Leads eq s v → (p : List (Item K V E)) → Early s p → Early v p
  early_on s v led (plan.Drain ∷ rest) h = early_on s v led rest h
  early_on s v led (plan.Ended number ∷ rest) h = early_on s v led rest h
  early_on s v led (plan.Post write ∷ rest) h = early_on s v led rest h
  early_on s v led (plan.Turn ∷ rest) h = early_on s v led rest h
  early_on s v led (plan.Apply ∷ rest) h = early_on s v led rest h
  early_on s v led (plan.End ∷ rest) h = early_on s v led rest h
  early_on s v led (plan.Get (plan.To_show plan.As_value) at ∷ []) h = h
  early_on s v led (plan.Judge (plan.To_show plan.As_value) there stored ∷ []) h =
      made_on eq s v n _ led h
  early_on s v led _ h = absurd h

  abbrev EarlyCall : State K V E → Call K V E → Type 0
  EarlyCall s c = Early s c.plan

  -- what such a get's step leaves, and answers
  record Result (s : State K V E) (c : Call K V E) (v : State K V E) (r : Turn K V E)
      : Type 0 where
    left : HoldsIf EarlyCall v (v.calls n)
    sees : (value : V) →
        (r ≡ turn.Answer (answer.Found (Some value))) ↔ SeesValue eq s n c key value
    misses : (r ≡ turn.Answer (answer.Found None)) ↔ SeesNothing s n c key r v

  module _ (s : State K V E) (h : IsReached eq s) (c : Call K V E) (live : s.calls n ≡ Some c) where
    abbrev after : World K V E → Next K V E → State K V E
    after new next = state_after s n new next

    abbrev Shows : World K V E → Next K V E → Type 0
    Shows new next =
        Step eq s n next.turn (after new next) → Result s c (after new next) next.turn

    left_so : (new : World K V E) (next : Next K V E) (d : Call K V E) → next.left ≡ Some d →
        Early (after new next) d.plan → HoldsIf EarlyCall (after new next) ((after new next).calls n)
    left_so new next d is early =
        subst (HoldsIf EarlyCall (after new next)) (sym (put_here s.calls n next.left ∙ is)) early

    no_value : looks_next c.plan ≡ false → (value : V) → SeesValue eq s n c key value → ⊥
    no_value b value sees = false≢true (sym b ∙ ap looks_next sees.judging)

    no_miss : looks_next c.plan ≡ false → (r : Turn K V E) (v : State K V E) →
        SeesNothing s n c key r v → ⊥
    no_miss b r v (inl looks) = false≢true (sym b ∙ ap looks_next looks.looks)
    no_miss b r v (inr judges) = false≢true (sym b ∙ ap looks_next judges.2)

    -- the call goes on, or waits, and answers nothing
    calm : looks_next c.plan ≡ false → (new : World K V E) (next : Next K V E) (d : Call K V E) →
        next.left ≡ Some d → ((a : Answer K V E) → next.turn ≡ turn.Answer a → ⊥) →
        Early s d.plan → Shows new next
    calm b new next d is unsaid early step = record {
      left = left_so new next d is
          (early_on s (after new next) (step_leads eq s _ n next.turn step) d.plan early);
      sees = λ value. (λ e. absurd (unsaid _ e), λ f. absurd (no_value b value f));
      misses = (λ e. absurd (unsaid _ e), λ f. absurd (no_miss b _ _ f));
    }

    go : looks_next c.plan ≡ false → (new : World K V E) (rest : List (Item K V E)) →
        Early s rest → Shows new (goes c rest)
    go b new [] early = absurd early
    go b new (plan.Reply a ∷ rest) early = absurd early
    go b new (item ∷ rest) early =
        calm b new (goes c (item ∷ rest)) _ refl (λ a e. cc) early

    -- the call is where it was
    stand : (p : List (Item K V E)) → c.plan ≡ p → Early s p → looks_next p ≡ false →
        (new : World K V E) → Shows new (waits c)
    stand p e early b new =
        calm (ap looks_next e ∙ b) new (waits c) _ refl (λ a f. cc) (subst (Early s) (sym e) early)

    -- it is no longer where it was
    decided : (new : World K V E) (next : Next K V E) → (plan_left next.left ≡ c.plan → ⊥) →
        HasDecided n c (after new next)
    decided new next not d lives same =
        not (ap plan_left (sym (put_here s.calls n next.left) ∙ lives) ∙ same)

    module _ (at : K) (e : c.plan ≡ plan.Get shows at ∷ []) (i : at ≡ key) where
      unjudged : (value : V) → SeesValue eq s n c key value → ⊥
      unjudged value sees = judges_not c.plan e sees.there sees.stored sees.judging

      looks : (r : Turn K V E) (v : State K V E) (seen : Option (K × Stored V)) →
          s.world.table.stored at ≡ seen → HasDecided n c v →
          LooksUp n shows key seen s c r v
      looks r v seen stood decides = record {
        looks = e ∙ ap (λ k. look shows k) i;
        stood = subst (λ k. s.world.table.stored k ≡ seen) i stood;
        decided = decides;
      }

      -- what stands there is something, or its operation hasn't decided
      stands : (pair : K × Stored V) → s.world.table.stored at ≡ Some pair →
          (r : Turn K V E) (v : State K V E) → SeesNothing s n c key r v → ⊥
      stands pair some r v (inl looked) = none_some
          (sym looked.stood ∙ subst (λ k. s.world.table.stored k ≡ Some pair) i some)
      stands pair some r v (inr judges) = judges_not c.plan e judges.0 judges.1 judges.2

      undecided : (d : Call K V E) → d.plan ≡ c.plan → (r : Turn K V E) (v : State K V E) →
          v.calls n ≡ Some d → SeesNothing s n c key r v → ⊥
      undecided d same r v lives (inl looked) = looked.decided d lives same
      undecided d same r v lives (inr judges) = judges_not c.plan e judges.0 judges.1 judges.2

    module _ (there : K) (stored : Stored V) (e : c.plan ≡ plan.Judge shows there stored ∷ []) where
      same : (k : K) (x : Stored V) → c.plan ≡ plan.Judge shows k x ∷ [] → stored ≡ x
      same k x f = (same_judged there k stored x (sym e ∙ f)).1

      as_visible : (k : K) (x : Stored V) → c.plan ≡ plan.Judge shows k x ∷ [] →
          is_visible_in s there stored ≡ is_visible_in s k x
      as_visible k x f =
          let judged = same_judged there k stored x (sym e ∙ f) in
          ap (λ a. is_visible_in s a stored) judged.0 ∙ ap (is_visible_in s k) judged.1

      -- the record is visible, and nothing is not seen; or the other way round
      visible : is_visible_in s there stored ≡ true → (r : Turn K V E) (v : State K V E) →
          SeesNothing s n c key r v → ⊥
      visible seen r v (inl looked) = judges_not c.plan looked.looks there stored e
      visible seen r v (inr judges) = false≢true
          (sym judges.3 ∙ sym (as_visible judges.0 judges.1 judges.2) ∙ seen)

      hidden : is_visible_in s there stored ≡ false → (value : V) → SeesValue eq s n c key value → ⊥
      hidden unseen value sees = false≢true
          (sym unseen ∙ as_visible sees.there sees.stored sees.judging ∙
          sees.visible)

    abbrev judges : K → Stored V → Next K V E
    judges there stored = goes c (plan.Judge shows there stored ∷ [])

    made : (new : World K V E) (next : Next K V E) → Step eq s n next.turn (after new next) →
        (seen : Option (K × Stored V)) → LooksUp n shows key seen s c next.turn (after new next) →
        HasMade eq (after new next) n (LooksUp n shows key seen)
    made new next step seen what = record {
      before = s;
      reached = h;
      call = c;
      live = live;
      turn = next.turn;
      after = after new next;
      step = step;
      what = what;
      led = no_leads eq (after new next);
    }

    gone : (new : World K V E) (a : Answer K V E) →
        HoldsIf EarlyCall (after new (answers a)) ((after new (answers a)).calls n)
    gone new a =
        subst (HoldsIf EarlyCall (after new (answers a))) (sym (put_here s.calls n None)) tt

    undecided_so : (at : K) → c.plan ≡ plan.Get shows at ∷ [] → at ≡ key → (new : World K V E) →
        Shows new (stays c)
    undecided_so at e i new step = record {
      left = left_so new (stays c) _ refl (subst (Early (after new (stays c))) (sym e) i);
      sees = λ value. (λ f. absurd (goes_not f), λ g. absurd (unjudged at e i value g));
      misses = (
        λ f. absurd (goes_not f),
        λ g. absurd (undecided at e i (record c { mode = mode.Mid }) refl turn.Going
            (after new (stays c)) (put_here s.calls n _) g),
      );
    }

    none_so : (at : K) → c.plan ≡ plan.Get shows at ∷ [] → at ≡ key →
        s.world.table.stored at ≡ None → (new : World K V E) →
        Shows new (answers (answer.Found None))
    none_so at e i none new step = record {
      left = gone new (answer.Found None);
      sees = λ value. (λ f. absurd (none_not value f), λ g. absurd (unjudged at e i value g));
      misses = (
        λ f. inl (looks at e i _ _ None none (decided new (answers (answer.Found None))
            (λ g. no_plan c.plan e g))),
        λ g. refl,
      );
    }

    found_so : (at : K) → c.plan ≡ plan.Get shows at ∷ [] → at ≡ key → (there : K)
        (stored : Stored V) → s.world.table.stored at ≡ Some (there, stored) →
        (new : World K V E) → Shows new (judges there stored)
    found_so at e i there stored some new step = record {
      left = left_so new (judges there stored) _ refl (made new (judges there stored) step
          (Some (there, stored)) (looks at e i _ _ (Some (there, stored)) some
          (decided new (judges there stored) (λ g. judges_not c.plan e there stored (sym g)))));
      sees = λ value. (λ f. absurd (goes_not f), λ g. absurd (unjudged at e i value g));
      misses = (
        λ f. absurd (goes_not f),
        λ g. absurd (stands at e i (there, stored) some _ _ g),
      );
    }

    seen_so : (there : K) (stored : Stored V) → c.plan ≡ plan.Judge shows there stored ∷ [] →
        HasMade eq s n (LooksUp n shows key (Some (there, stored))) →
        is_visible_in s there stored ≡ true → (new : World K V E) →
        Shows new (answers (answer.Found (Some stored.value)))
    seen_so there stored e i seen new step = record {
      left = gone new (answer.Found (Some stored.value));
      sees = λ value. (
        λ f. record {
          there = there;
          stored = stored;
          looked = i;
          judging = e;
          visible = seen;
          same = some_same (same_found (Some stored.value) (Some value) f);
        },
        λ g. ap (λ v. turn.Answer (answer.Found (Some v)))
            (ap (λ v. v.value) (same there stored e g.there g.stored g.judging) ∙ g.same),
      );
      misses = (
        λ f. absurd (unlike stored.value (same_found (Some stored.value) None f)),
        λ g. absurd (visible there stored e seen _ _ g),
      );
    }

    unseen_so : (there : K) (stored : Stored V) → c.plan ≡ plan.Judge shows there stored ∷ [] →
        is_visible_in s there stored ≡ false → (new : World K V E) →
        Shows new (answers (answer.Found None))
    unseen_so there stored e unseen new step = record {
      left = gone new (answer.Found None);
      sees = λ value. (
        λ f. absurd (none_not value f),
        λ g. absurd (hidden there stored e unseen value g),
      );
      misses = (λ f. inr (there, stored, e, unseen), λ g. refl);
    }

    on_early : (p : List (Item K V E)) → c.plan ≡ p → Early s p → OnStep eq Shows s.world n c p
    on_early (plan.Drain ∷ rest) e i = outcomes eq Shows s.world n c plan.Drain rest (
      λ f. go (ap looks_next e) s.world rest i,
      λ x xs f. go (ap looks_next e) _ (plan.Post x ∷ plan.Drain ∷ rest) i,
      λ x number xs f. go (ap looks_next e) _
          (plan.Ended number ∷ plan.Post x ∷ plan.Drain ∷ rest) i,
    )
    on_early (plan.Ended number ∷ rest) e i =
        outcomes eq Shows s.world n c (plan.Ended number) rest
        (λ f. go (ap looks_next e) s.world rest i, λ f. stand _ e i refl s.world)
    on_early (plan.Post write ∷ rest) e i = outcomes eq Shows s.world n c (plan.Post write) rest (
      λ f. go (ap looks_next e) _ rest i,
      λ f. go (ap looks_next e) _ (plan.Turn ∷ plan.Apply ∷ plan.End ∷ plan.Post write ∷ rest) i,
    )
    on_early (plan.Turn ∷ rest) e i = outcomes eq Shows s.world n c plan.Turn rest
        (λ f. go (ap looks_next e) _ rest i, λ f. stand _ e i refl s.world)
    on_early (plan.Apply ∷ rest) e i = outcomes eq Shows s.world n c plan.Apply rest (
      λ f. go (ap looks_next e) s.world rest i,
      λ x xs f. go (ap looks_next e) _ (plan.Apply ∷ rest) i,
    )
    on_early (plan.End ∷ rest) e i = outcomes eq Shows s.world n c plan.End rest
        (go (ap looks_next e) _ rest i)
    on_early (plan.Get (plan.To_show plan.As_value) at ∷ []) e i =
        outcomes eq Shows s.world n c (plan.Get shows at) [] (
          λ more. undecided_so at e i _,
          λ none. none_so at e i none _,
          λ there stored some. found_so at e i there stored some _,
        )
    on_early (plan.Judge (plan.To_show plan.As_value) there stored ∷ []) e i =
        outcomes eq Shows s.world n c (plan.Judge shows there stored) []
        (λ seen. seen_so there stored e i seen _, λ unseen. unseen_so there stored e unseen _)
    on_early _ e i = absurd i

  early_step : (s t : State K V E) (c : Call K V E) (r : Turn K V E) → IsReached eq s →
      s.calls n ≡ Some c → Early s c.plan → Step eq s n r t → Result s c t r
  early_step s t c r h live i step =
      let is : step.call ≡ c = some_same (sym step.live ∙ live) in
      subst (λ b. Result s b t r) is
      (step_cases eq (Shows s h step.call step.live) (λ v u. Step eq s n u v → Result s step.call v u)
      s t n r step (on_early s h step.call step.live step.call.plan refl
      (subst (λ (b : Call K V E). Early s b.plan) (sym is) i)) (λ new next m. m) step)

  -- a get is so far, or the cache is disabled and it is to answer that
  abbrev Gets : State K V E → Call K V E → Type 0
  Gets s c =
      (Early s c.plan × (is_disabled s.world.desk.rules ≡ false)) ⊎
      ((c.plan ≡ plan.Reply (answer.Found None) ∷ []) × (is_disabled s.world.desk.rules ≡ true))

  gets_on : (s v : State K V E) (c : Call K V E) → Leads eq s v →
      v.world.desk.rules ≡ s.world.desk.rules → Gets s c → Gets v c
  gets_on s v c led rules (inl i) = inl (early_on s v led c.plan i.0, ap is_disabled rules ∙ i.1)
  gets_on s v c led rules (inr i) = inr (i.0, ap is_disabled rules ∙ i.1)

  -- what is to be answered at once is, and the call is gone
  off_step : (s t : State K V E) (c : Call K V E) (r : Turn K V E) → s.calls n ≡ Some c →
      c.plan ≡ plan.Reply (answer.Found None) ∷ [] → Step eq s n r t →
      (t.calls n ≡ None) × (r ≡ turn.Answer (answer.Found None))
  off_step s t c r live e step =
      let is : step.call ≡ c = some_same (sym step.live ∙ live) in
      step_cases eq (λ new next. (next.left ≡ None) × (next.turn ≡ turn.Answer (answer.Found None)))
      (λ v u. (v.calls n ≡ None) × (u ≡ turn.Answer (answer.Found None))) s t n r step
      (subst (λ q. OnStep eq (λ new next. (next.left ≡ None) ×
      (next.turn ≡ turn.Answer (answer.Found None))) s.world n step.call q)
      (sym (ap (λ (b : Call K V E). b.plan) is ∙ e))
      (outcomes eq (λ new next. (next.left ≡ None) × (next.turn ≡ turn.Answer (answer.Found None)))
      s.world n step.call (plan.Reply (answer.Found None)) [] (refl, refl)))
      (λ w next g. (put_here s.calls n next.left ∙ g.0, g.1))

  gets_step : (s t : State K V E) (r : Turn K V E) → IsReached eq s →
      HoldsIf Gets s (s.calls n) → Step eq s n r t → HoldsIf Gets t (t.calls n)
  gets_step s t r h i step = by (subst (HoldsIf Gets s) step.live i)
    where
      left : (o : Option (Call K V E)) → is_disabled t.world.desk.rules ≡ false →
          HoldsIf EarlyCall t o → HoldsIf Gets t o
      left None able early = tt
      left (Some d) able early = inl (early, able)

      by : Gets s step.call → HoldsIf Gets t (t.calls n)
      by (inl early) = left (t.calls n) (ap is_disabled (step_rules eq s t n r step) ∙ early.1)
          (early_step s t step.call r h step.live early.0 step).left
      by (inr off) = subst (HoldsIf Gets t)
          (sym (off_step s t step.call r step.live off.0 step).0) tt

  begins : (v : State K V E) → Gets (started v (start.Get key))
      (fresh_call v.world.table.division.parts v.world.desk.rules (start.Get key))
  begins v = by (is_disabled v.world.desk.rules) refl
    where
      by : (b : Bool) → is_disabled v.world.desk.rules ≡ b →
          (Early (started v (start.Get key)) (get_plan b key) × (is_disabled v.world.desk.rules ≡ false)) ⊎
          ((get_plan {V = V} {E = E} b key ≡ plan.Reply (answer.Found None) ∷ []) ×
          (is_disabled v.world.desk.rules ≡ true))
      by true e = inr (refl, e)
      by false e = inl (refl, e)

  -- where a get is
  so_far : (s : State K V E) (c : Call K V E) → WasStarted eq (start.Get key) n s →
      s.calls n ≡ Some c → IsReached eq s × Gets s c
  so_far s c w live =
      let i = holds_since eq (start.Get key) n Gets gets_on gets_step s w begins in
      (i.0, subst (HoldsIf Gets s) live i.1)

module _ {K V E : Type 0} (eq : K → K → Bool) where
  pub gets_show : GetsShow K V E eq
  gets_show s t key n c value reply w live step =
      let i = so_far eq key n s c w live in by i.0 i.1
    where
      by : IsReached eq s → Gets eq key n s c →
          (reply ≡ turn.Answer (answer.Found (Some value))) ↔ SeesValue eq s n c key value
      by h (inl early) = (early_step eq key n s t c reply h live early.0 step).sees value
      by h (inr off) = (
        λ f. absurd (unlike value (sym (same_found None (Some value)
            (sym (off_step eq key n s t c reply live off.0 step).1 ∙ f)))),
        λ sees. absurd (replies_not c.plan off.0 sees.there sees.stored sees.judging),
      )

  pub gets_miss : GetsMiss K V E eq
  gets_miss s t key n c reply w live step =
      let i = so_far eq key n s c w live in by i.0 i.1
    where
      by : IsReached eq s → Gets eq key n s c → (reply ≡ turn.Answer (answer.Found None)) ↔
          ((is_disabled s.world.desk.rules ≡ true) ⊎ SeesNothing s n c key reply t)
      by h (inl early) = (
        λ f. inr ((early_step eq key n s t c reply h live early.0 step).misses.0 f),
        λ why. because why,
      )
        where
          because : (is_disabled s.world.desk.rules ≡ true) ⊎ SeesNothing s n c key reply t →
              reply ≡ turn.Answer (answer.Found None)
          because (inl off) = absurd (false≢true (sym early.1 ∙ off))
          because (inr none) = (early_step eq key n s t c reply h live early.0 step).misses.1 none
      by h (inr off) = (
        λ f. inl off.1,
        λ why. (off_step eq key n s t c reply live off.0 step).1,
      )

  -- ---- loads

  -- a look that answers what it sees, and else goes on, answers it exactly where it sees it
  first_show : (aim : Aim K V) (s t : State K V E) (n : ℕ) (c : Call K V E) (there : K)
      (stored : Stored V) (reply : Turn K V E) →
      ((b : Call K V E) → (hits b aim there stored.value).turn ≡
      turn.Answer (answer.Loaded stored.value false)) →
      ((b : Call K V E) → (misses b aim).turn ≡
      turn.Answer (answer.Loaded stored.value false) → ⊥) →
      s.calls n ≡ Some c → Step eq s n reply t → c.plan ≡ plan.Judge aim there stored ∷ [] →
      (reply ≡ turn.Answer (answer.Loaded stored.value false)) ↔
      (is_seen s.world.desk (replace_of aim) there stored ≡ true)
  first_show aim s t n c there stored reply says goes_on live step e =
      let is : step.call ≡ c = some_same (sym step.live ∙ live) in
      step_cases eq (λ new next. M next.turn) (λ v r. M r) s t n reply step
      (subst (λ q. OnStep eq (λ new next. M next.turn) s.world n step.call q)
      (sym (ap (λ (b : Call K V E). b.plan) is ∙ e))
      (outcomes eq (λ new next. M next.turn) s.world n step.call (plan.Judge aim there stored) [] (
        λ seen. (λ f. seen, λ f. says step.call),
        λ unseen. (
          λ f. absurd (goes_on step.call f),
          λ seen. absurd (false≢true (sym unseen ∙ seen)),
        ),
      )))
      (λ w next m. m)
    where
      M : Turn K V E → Type 0
      M r = (r ≡ turn.Answer (answer.Loaded stored.value false)) ↔
          (is_seen s.world.desk (replace_of aim) there stored ≡ true)

  pub loads_show : LoadsShow K V E eq
  loads_show s t n c sought there stored reply live step e =
      first_show (plan.To_load sought) s t n c there stored reply (λ b. refl) (λ b f. cc) live step e

  pub inserts_show : InsertsShow K V E eq
  inserts_show s t n c key there value stored reply live step e =
      first_show (plan.To_insert key value) s t n c there stored reply (λ b. refl)
      (λ b. put_plans (λ p. (goes b p).turn ≡ turn.Answer (answer.Loaded stored.value false) → ⊥)
      b.rules key value (plan.Reply (answer.Loaded value true) ∷ []) goes_not goes_not) live step e

  pub owners_show : OwnersShow K V E eq
  owners_show s t n c sought there stored reply live step e =
      let is : step.call ≡ c = some_same (sym step.live ∙ live) in
      step_cases eq M (λ v r. Ends (v.calls n) ↔
      (is_seen s.world.desk sought.replace there stored ≡ true)) s t n reply step
      (subst (λ q. OnStep eq M s.world n step.call q)
      (sym (ap (λ (b : Call K V E). b.plan) is ∙ e))
      (outcomes eq M s.world n step.call (plan.Judge (plan.To_own sought) there stored) [] (
        λ seen. (λ f. seen, λ f. refl),
        λ unseen. (λ f. cc, λ seen. absurd (false≢true (sym unseen ∙ seen))),
      )))
      (λ w next m. subst (λ o. Ends o ↔ (is_seen s.world.desk sought.replace there stored ≡ true))
      (sym (put_here s.calls n next.left)) m)
    where
      Ends : Option (Call K V E) → Type 0
      Ends o = IsSomeAnd o
          (λ d. d.plan ≡ end_load (settled.Ready stored.value) (answer.Loaded stored.value false))

      M : World K V E → Next K V E → Type 0
      M new next = Ends next.left ↔ (is_seen s.world.desk sought.replace there stored ≡ true)
