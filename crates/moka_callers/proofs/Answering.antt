-- A get answers what stood under its key in a state since its start.
use Rattle.std.proofs.Common.{◌≡◌, ℕ, ◌+◌, ◌≤◌, Bool, true, false, List, [], ◌∷◌, Option, Some, None, refl, sym, ap, ◌∙◌, subst, arith}
use Rattle.moka_hist.specs.State.{State, World, Call}
use Rattle.moka_hist.specs.Plan.{Item, get_plan, is_disabled, plan_of}
use Rattle.moka_hist.specs.Plan as plan
use Rattle.moka_hist.specs.Next.{Next, goes}
use Rattle.moka_hist.specs.Step.{Step}
use Rattle.moka_hist.specs.Run.{Any, IsReached, Run, fresh_call, started}
use Rattle.moka_hist.specs.declared.accesses.Turn.{Turn}
use Rattle.moka_hist.specs.declared.accesses.Turn.TheVariants as turn
use Rattle.moka_hist.specs.declared.events.Event.{Event}
use Rattle.moka_hist.specs.declared.events.Event.TheVariants as event
use Rattle.moka_hist.specs.declared.events.Start.{Start}
use Rattle.moka_hist.specs.declared.events.Start.TheVariants as start
use Rattle.moka_hist.specs.declared.records.Stored.{Stored}
use Rattle.moka_hist.specs.declared.replies.Answer.{Answer}
use Rattle.moka_hist.specs.declared.replies.Reply.{Reply}
use Rattle.moka_hist.specs.declared.replies.Reply.TheVariants as reply
use Rattle.moka_laws.specs.Starting.{Leads, WasStarted}
use Rattle.moka_laws.proofs.Alongside.{HoldsIf}
use Rattle.moka_laws.proofs.Counting.{put_here}
use Rattle.moka_laws.proofs.Kept.{runs}
use Rattle.moka_laws.proofs.Following.{follow, leads_more, no_leads, one_leads, step_leads}
use Rattle.moka_laws.proofs.Outcomes.{Outcomes, outcomes}
use Rattle.moka_laws.proofs.Reached.{event_reached, run_reached, step_reached}
use Rattle.moka_laws.proofs.Steady.{rules_stable, step_rules}
use Rattle.moka_laws.proofs.StepCases.{OnStep, step_cases}
use Rattle.moka_callers.specs.Reading.{Answers, Between, GetsAnswerStored, Hides, Misses, ReadsSeeWrites, Shows}
use Rattle.moka_callers.proofs.Began.{gives}
use Rattle.moka_callers.proofs.Inserted.{inserts_stand}
use Rattle.moka_callers.proofs.Since.{IsSo, so_followed}

same_answer : {K V E : Type 0} (x y : Answer K V E) →
    ◌≡◌ {A = Turn K V E} (turn.Answer x) (turn.Answer y) → x ≡ y
same_answer x y e = cc

module _ {K V E : Type 0} (eq : K → K → Bool) (key : K) (b : State K V E) where
  -- a state since the get's start had this under the key
  abbrev Looked : State K V E → Option (K × Stored V) → Type 0
  Looked s pair = (look : Between eq b s) × (look.at.world.table.stored key ≡ pair)

  looked_on : (s v : State K V E) (pair : Option (K × Stored V)) → Leads eq s v → Looked s pair →
      Looked v pair
  looked_on s v pair led h = (
    record { at = h.0.at; since = h.0.since; until = leads_more eq h.0.at s v h.0.until led },
    h.1,
  )

  module _ (s : State K V E) where
    -- an item of a get that was started there
    abbrev IsGetting : Item K V E → Type 0
    IsGetting plan.Drain = Unit {0}
    IsGetting (plan.Ended number) = Unit {0}
    IsGetting (plan.Post write) = Unit {0}
    IsGetting plan.Turn = Unit {0}
    IsGetting plan.Apply = Unit {0}
    IsGetting plan.End = Unit {0}
    IsGetting (plan.Get (plan.To_show plan.As_value) at) = at ≡ key
    IsGetting (plan.Judge (plan.To_show plan.As_value) there stored) =
        Looked s (Some (there, stored))
    IsGetting _ = ⊥

    abbrev AreGetting : List (Item K V E) → Type 0
    AreGetting [] = Unit {0}
    AreGetting (item ∷ rest) = IsGetting item × AreGetting rest

  -- where a step from this state leaves the get, and what it answers
  abbrev LeftAt : State K V E → Option (Call K V E) → Type 0
  LeftAt s None = Unit {0}
  LeftAt s (Some d) = AreGetting s d.plan

  abbrev SaysAt : State K V E → Turn K V E → Type 0
  SaysAt s (turn.Answer a) = (look : Between eq b s) × Answers eq key b s look a
  SaysAt s _ = Unit {0}

  item_on : (s v : State K V E) → Leads eq s v → (item : Item K V E) → IsGetting s item →
      IsGetting v item
  item_on s v led (plan.Judge (plan.To_show plan.As_value) there stored) h =
      looked_on s v (Some (there, stored)) led h
  item_on s v led _ h = h

  getting_on : (s v : State K V E) → Leads eq s v → (p : List (Item K V E)) → AreGetting s p →
      AreGetting v p
  getting_on s v led [] h = tt
  getting_on s v led (item ∷ rest) h = (item_on s v led item h.0, getting_on s v led rest h.1)

  module _ (s : State K V E) (led : Leads eq b s) (n : ℕ) (c : Call K V E)
      (are : AreGetting s c.plan) where
    -- what a step has to show
    abbrev After : World K V E → Next K V E → Type 0
    After new next = LeftAt s next.left × SaysAt s next.turn

    abbrev here : Between eq b s
    here = record { at = s; since = led; until = no_leads eq s }

    goes_so : (rest : List (Item K V E)) → AreGetting s rest →
        LeftAt s (goes c rest).left × SaysAt s (goes c rest).turn
    goes_so (plan.Reply a ∷ rest) h = absurd h.0
    goes_so [] h = (h, tt)
    goes_so (item ∷ rest) h = (h, tt)

    on_item : (item : Item K V E) (rest : List (Item K V E)) → c.plan ≡ item ∷ rest →
        AreGetting s (item ∷ rest) → Outcomes eq After s.world n c item rest
    on_item plan.Drain rest is f = (
      λ none. goes_so rest f.1,
      λ x xs some. ((tt, f), tt),
      λ x number xs some. ((tt, (tt, f)), tt),
    )
    on_item (plan.Ended number) rest is f = (λ off. goes_so rest f.1, λ on. (are, tt))
    on_item (plan.Post write) rest is f =
        (λ room. goes_so rest f.1, λ full. ((tt, (tt, (tt, f))), tt))
    on_item plan.Turn rest is f = (λ free. goes_so rest f.1, λ taken. (are, tt))
    on_item plan.Apply rest is f = (λ none. goes_so rest f.1, λ y ys some. (f, tt))
    on_item plan.End rest is f = goes_so rest f.1
    on_item (plan.Get (plan.To_show plan.As_value) at) rest is f = (
      λ more. (are, tt),
      λ none. (tt, (here, Misses (ap s.world.table.stored (sym f.0) ∙ none))),
      λ there stored some. (((here, ap s.world.table.stored (sym f.0) ∙ some), tt), tt),
    )
    on_item (plan.Judge (plan.To_show plan.As_value) there stored) rest is f = (
      λ seen. (tt, (f.0.0, Shows there stored f.0.1)),
      λ unseen. (tt, (f.0.0, Hides there stored f.0.1 unseen)),
    )
    on_item _ rest is f = absurd f.0

    on_plan : (p : List (Item K V E)) → c.plan ≡ p → AreGetting s p → OnStep eq After s.world n c p
    on_plan [] is f = (are, tt)
    on_plan (item ∷ rest) is f = outcomes eq After s.world n c item rest (on_item item rest is f)

  -- ---- the whole call

  -- where the get stands, unless the cache is disabled
  abbrev IsAt : State K V E → Call K V E → Type 0
  IsAt s c = is_disabled s.world.desk.rules ≡ false → AreGetting s c.plan

  at_on : (s v : State K V E) (c : Call K V E) → Leads eq s v →
      v.world.desk.rules ≡ s.world.desk.rules → IsAt s c → IsAt v c
  at_on s v c led rules h able = getting_on s v led c.plan (h (ap is_disabled (sym rules) ∙ able))

  module _ (n : ℕ) where
    -- what a step of the get leaves of it, and what it answers
    step_so : (s t : State K V E) (turn : Turn K V E) → Leads eq b s →
        is_disabled s.world.desk.rules ≡ false → HoldsIf IsAt s (s.calls n) →
        Step eq s n turn t → LeftAt s (t.calls n) × SaysAt s turn
    step_so s t turn led able h step =
        let c : Call K V E = step.call in
        let are : AreGetting s c.plan = (subst (HoldsIf IsAt s) step.live h) able in
        step_cases eq (After s led n c are) (λ v r. LeftAt s (v.calls n) × SaysAt s r) s t n turn step
        (on_plan s led n c are c.plan refl are)
        (λ w next so. (subst (LeftAt s) (sym (put_here s.calls n next.left)) so.0, so.1))

    at_step : (s t : State K V E) (turn : Turn K V E) → Leads eq b s →
        HoldsIf IsAt s (s.calls n) → Step eq s n turn t → HoldsIf IsAt t (t.calls n)
    at_step s t turn led h step = by (is_disabled s.world.desk.rules) refl (t.calls n) refl
      where
        same : is_disabled t.world.desk.rules ≡ is_disabled s.world.desk.rules
        same = ap is_disabled (step_rules eq s t n turn step)

        off : (x : Bool) → x ≡ true → x ≡ false → ⊥
        off x e f = cc

        by : (x : Bool) → is_disabled s.world.desk.rules ≡ x → (o : Option (Call K V E)) →
            t.calls n ≡ o → HoldsIf IsAt t o
        by x e None is = tt
        by true e (Some d) is =
            λ able. absurd (off (is_disabled t.world.desk.rules) (same ∙ e) able)
        by false e (Some d) is = λ able.
            getting_on s t (step_leads eq s t n turn step) d.plan
            (subst (LeftAt s) is (step_so s t turn led e h step).0)

  begins : (v : State K V E) → IsAt (started v (start.Get key))
      (fresh_call v.world.table.division.parts v.world.desk.rules (start.Get key))
  begins v able = subst Begins (sym able) (tt, (refl, tt))
    where
      Begins : Bool → Type 0
      Begins x = AreGetting (started v (start.Get key)) (get_plan x key)

module _ {K V E : Type 0} (eq : K → K → Bool) where
  rules_kept : (s t : State K V E) (es : List (Event K V E)) (rs : List (Reply K V E)) →
      Run eq Any s es rs t → t.world.desk.rules ≡ s.world.desk.rules
  rules_kept s t es rs run = runs eq (λ v. v.world.desk.rules ≡ s.world.desk.rules)
      (rules_stable eq s.world.desk.rules) s t es rs refl run

  pub was_reached : (begin : Start K V) (n : ℕ) (s : State K V E) → WasStarted eq begin n s →
      IsReached eq s
  was_reached begin n s was = run_reached eq was.begun s was.led.events was.led.replies
      (event_reached eq was.before was.begun (event.Start begin) (reply.Call n) was.reached was.begins)
      was.led.run

  pub answer_stored : GetsAnswerStored K V E eq
  answer_stored s b t u m key a es rs reached able begun run step =
      let is = gives eq s b m (start.Get key) begun in
      let so : HoldsIf (IsAt eq key b) b (b.calls m) = first is in
      let now : IsSo eq b m (IsAt eq key b) (at_on eq key b) (at_step eq key b m) t =
      follow eq (IsSo eq b m (IsAt eq key b) (at_on eq key b) (at_step eq key b m))
      (so_followed eq b m (IsAt eq key b) (at_on eq key b) (at_step eq key b m)) b t es rs
      (record { led = no_leads eq b; born = born is; so = so }) run in
      (step_so eq key b m t u (turn.Answer a) now.led (still is) now.so step).1
    where
      Is : Type 0
      Is = (m ≡ s.world.desk.last + 1) × (b ≡ started s (start.Get key))

      born : Is → m ≤ b.world.desk.last
      born is = omega (arith, is.0, ap (λ (v : State K V E). v.world.desk.last) is.1)

      first : Is → HoldsIf (IsAt eq key b) b (b.calls m)
      first is = subst (λ (v : State K V E). HoldsIf (IsAt eq key b) v (v.calls m)) (sym is.1)
          (subst (HoldsIf (IsAt eq key b) (started s (start.Get key)))
          (sym (ap (λ k. (started s (start.Get key)).calls k) is.0 ∙
          put_here s.calls (s.world.desk.last + 1) _)) (begins eq key b s))

      still : Is → is_disabled t.world.desk.rules ≡ false
      still is = ap is_disabled
          (rules_kept b t es rs run ∙
          ap (λ (v : State K V E). v.world.desk.rules) is.1) ∙ able

  pub see_writes : ReadsSeeWrites K V E eq
  see_writes r v s b t u n m key q value done a es fs rs qs was able step run alike begun more asks =
      let got = answer_stored s b t u m q a fs qs reached still begun more asks in
      let on : Leads eq v got.0.at = leads_more eq v s got.0.at
      (record { events = es; replies = rs; run = run })
      (leads_more eq s b got.0.at (one_leads eq s b (event.Start (start.Get q)) (reply.Call m) begun) got.0.since) in
      record {
        look = got.0;
        answers = got.1;
        stands = inserts_stand eq r v got.0.at n key q value done on.events on.replies was able step
            alike on.run;
      }
    where
      reached : IsReached eq s
      reached = run_reached eq v s es rs
          (step_reached eq r v n (turn.Answer done) (was_reached (start.Insert key value) n r was) step)
          run

      still : is_disabled s.world.desk.rules ≡ false
      still = ap is_disabled
          (rules_kept v s es rs run ∙
          step_rules eq r v n (turn.Answer done) step) ∙ able
