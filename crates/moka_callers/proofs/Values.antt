-- A call writes no value but one that it has for the key.
use Rattle.std.proofs.Common.{◌≡◌, ℕ, Bool, true, false, List, [], ◌∷◌, Option, Some, None, MatchOption, refl, sym, subst}
use Rattle.moka_hist.specs.State.{State, Call}
use Rattle.moka_hist.specs.Plan.{Item, Aim, get_plan, insert_plan, is_disabled, iter_plan, load_plan, look, or_insert_plan, pending_plan, plan_of, seek, under_lock}
use Rattle.moka_hist.specs.Plan as plan
use Rattle.moka_hist.specs.Step.{Step}
use Rattle.moka_hist.specs.Run.{IsReached, started}
use Rattle.moka_hist.specs.declared.accesses.Turn.{Turn}
use Rattle.moka_hist.specs.declared.events.Start.{Start}
use Rattle.moka_hist.specs.declared.events.Start.TheVariants as start
use Rattle.moka_hist.specs.declared.events.Told.{Told}
use Rattle.moka_hist.specs.declared.loads.Kind.TheVariants as kind
use Rattle.moka_hist.specs.declared.loads.Sought.{Sought}
use Rattle.moka_hist.specs.declared.replies.Answer.TheVariants as answer
use Rattle.moka_hist.specs.declared.rules.Rules.{Rules}
use Rattle.moka_laws.specs.Given.{asked_key, value_in}
use Rattle.moka_laws.specs.Starting.{HasMade, Leads, WasStarted}
use Rattle.moka_laws.specs.Starts.{brought, key_started}
use Rattle.moka_laws.proofs.Alongside.{HoldsIf, holds_since}
use Rattle.moka_laws.proofs.Counting.{put_here}
use Rattle.moka_laws.proofs.Following.{made_on, no_leads, step_leads}
use Rattle.moka_laws.proofs.Rules.{put_plans}
use Rattle.moka_laws.proofs.StepCases.{step_cases}
use Rattle.moka_callers.specs.Contents.{HasValue, TakesValue}
use Rattle.moka_callers.proofs.Owning.{After, ItemOwned, LeftOwned, PlanOwned, lists_owned, on_plan}

module _ {K V E : Type 0} (Owns More : K → V → Type 0) (For : K → Type 0)
    (f : (key : K) (value : V) → Owns key value → More key value) where
  item_more : (item : Item K V E) → ItemOwned Owns For item → ItemOwned More For item
  item_more (plan.Get (plan.To_insert key value) at) h = f key value h
  item_more (plan.Judge (plan.To_insert key value) at stored) h = f key value h
  item_more (plan.Moment (plan.To_store key value)) h = f key value h
  item_more (plan.Write key value moment) h = f key value h
  item_more _ h = h

  pub plan_more : (p : List (Item K V E)) → PlanOwned Owns For p → PlanOwned More For p
  plan_more [] h = tt
  plan_more (item ∷ rest) h = (item_more item h.0, plan_more rest h.1)

-- a call that was started so is for the key, and brought nothing
abbrev pub For : {K V : Type 0} → Start K V → K → Type 0
For begin key = (brought begin ≡ None) × (key_started begin ≡ Some key)

module _ {K V E : Type 0} (eq : K → K → Bool) (n : ℕ) (s : State K V E) (parts : ℕ)
    (rules : Rules) where
  -- what a call has to do as it is started
  abbrev pub Begins : Start K V → List (Item K V E) → Type 0
  Begins begin p = PlanOwned (HasValue eq begin n s) (For begin) p

  loads_begin : (begin : Start K V) (sought : Sought K) → For begin sought.load.key → (b : Bool) →
      Begins begin (load_plan b sought)
  loads_begin begin sought h true = (tt, (h, tt))
  loads_begin begin sought h false = (tt, (h, tt))

  pub begins : (begin : Start K V) → Begins begin (plan_of parts rules begin)
  begins (start.Get key) = by (is_disabled rules)
    where
      by : (b : Bool) → Begins (start.Get key) (get_plan b key)
      by true = (tt, tt)
      by false = (tt, (tt, tt))
  begins (start.Insert key value) = by (is_disabled rules)
    where
      by : (b : Bool) → Begins (start.Insert key value) (insert_plan b rules key value)
      by true = (tt, tt)
      by false = put_plans (λ p. Begins (start.Insert key value) p) rules key value
          (plan.Reply answer.Done ∷ []) (tt, (refl, (tt, tt))) (tt, (tt, (refl, (tt, tt))))
  begins (start.GetWith key replace) =
      loads_begin (start.GetWith key replace) (seek kind.GetWith key replace) (refl, refl)
      (is_disabled rules)
  begins (start.Optional key) =
      loads_begin (start.Optional key) (seek kind.Optional key None) (refl, refl)
      (is_disabled rules)
  begins (start.Try key) =
      loads_begin (start.Try key) (seek kind.Try key None) (refl, refl) (is_disabled rules)
  begins (start.OrInsert key value) = by (is_disabled rules)
    where
      by : (b : Bool) → Begins (start.OrInsert key value) (or_insert_plan b key value)
      by true = (tt, (tt, tt))
      by false = (tt, (refl, tt))
  begins (start.Compute key) = ((refl, refl), tt)
  begins (start.TryCompute key) = ((refl, refl), tt)
  begins (start.Upsert key) = ((refl, refl), tt)
  begins (start.ComputeAlone key) = ((refl, refl), tt)
  begins (start.Invalidate key) = (tt, by rules.listener)
    where
      by : (b : Bool) → Begins (start.Invalidate key)
          (under_lock b key (plan.Moment (plan.To_take_out plan.To_invalidate key) ∷ []))
      by true = (tt, (tt, tt))
      by false = (tt, tt)
  begins (start.Remove key) = (tt, by rules.listener)
    where
      by : (b : Bool) → Begins (start.Remove key)
          (under_lock b key (plan.Moment (plan.To_take_out plan.To_remove key) ∷ []))
      by true = (tt, (tt, tt))
      by false = (tt, tt)
  begins (start.Evict key stamp cause) = by rules.listener
    where
      by : (b : Bool) → Begins (start.Evict key stamp cause)
          (under_lock b key (look (plan.To_evict key stamp cause) key))
      by true = (tt, (tt, tt))
      by false = (tt, tt)
  begins start.InvalidateAll = (tt, (tt, tt))
  begins (start.InvalidateIf test) = (tt, tt)
  begins start.Iter = by (is_disabled rules)
    where
      by : (b : Bool) → Begins start.Iter (iter_plan b parts)
      by true = (tt, tt)
      by false = lists_owned (HasValue eq start.Iter n s) (For start.Iter) 0 parts _ (tt, tt)
  begins start.Pending = by (is_disabled rules)
    where
      by : (b : Bool) → Begins start.Pending (pending_plan b parts)
      by true = (tt, tt)
      by false = (tt, (tt, (tt, (tt, (tt, tt)))))

module _ {K V E : Type 0} (eq : K → K → Bool) (begin : Start K V) (n : ℕ) where
  -- what the call has still to do goes by what it has
  abbrev pub IsOwn : State K V E → Call K V E → Type 0
  IsOwn s c = PlanOwned (HasValue eq begin n s) (For begin) c.plan

  has_on : (s v : State K V E) → Leads eq s v → (key : K) (value : V) →
      HasValue eq begin n s key value → HasValue eq begin n v key value
  has_on s v led key value h = by (brought begin) h
    where
      by : (o : Option (K × V)) →
          MatchOption o
          ((key_started begin ≡ Some key) × HasMade eq s n (TakesValue n key value))
          (λ pair. pair ≡ (key, value)) →
          MatchOption o
          ((key_started begin ≡ Some key) × HasMade eq v n (TakesValue n key value))
          (λ pair. pair ≡ (key, value))
      by None h = (h.0, made_on eq s v n (TakesValue n key value) led h.1)
      by (Some pair) h = h

  pub own_on : (s v : State K V E) (c : Call K V E) → Leads eq s v →
      v.world.desk.rules ≡ s.world.desk.rules → IsOwn s c → IsOwn v c
  own_on s v c led rules h =
      plan_more (HasValue eq begin n s) (HasValue eq begin n v) (For begin) (has_on s v led) c.plan h

  -- the step takes what the call was told, and so the call has it
  takes : (s t : State K V E) (turn : Turn K V E) → IsReached eq s → (step : Step eq s n turn t) →
      (key : K) (given : Told V E) (value : V) → For begin key →
      asked_key step.call.plan ≡ Some key → s.world.desk.told n ≡ Some given →
      value_in given ≡ Some value → HasValue eq begin n t key value
  takes s t turn reached step key given value for_key asked told has =
      let made : HasMade eq t n (TakesValue n key value) = record {
        before = s;
        reached = reached;
        call = step.call;
        live = step.live;
        turn = turn;
        after = t;
        step = step;
        what = record { asked = asked; given = given; told = told; has = has };
        led = no_leads eq t;
      } in
      subst
      (λ o. MatchOption o
      ((key_started begin ≡ Some key) × HasMade eq t n (TakesValue n key value))
      (λ pair. pair ≡ (key, value))) (sym for_key.0) (for_key.1, made)

  as_held : (t : State K V E) (o : Option (Call K V E)) →
      LeftOwned (HasValue eq begin n t) (For begin) o → HoldsIf IsOwn t o
  as_held t None h = tt
  as_held t (Some c) h = h

  pub own_step : (s t : State K V E) (turn : Turn K V E) → IsReached eq s →
      HoldsIf IsOwn s (s.calls n) → Step eq s n turn t → HoldsIf IsOwn t (t.calls n)
  own_step s t turn reached h step =
      let c : Call K V E = step.call in
      let now : PlanOwned (HasValue eq begin n t) (For begin) c.plan =
      plan_more (HasValue eq begin n s) (HasValue eq begin n t) (For begin)
      (has_on s t (step_leads eq s t n turn step)) c.plan (subst (HoldsIf IsOwn s) step.live h) in
      as_held t (t.calls n)
      (step_cases eq (After (HasValue eq begin n t) (For begin) eq s.world n c now
      (takes s t turn reached step))
      (λ v r. LeftOwned (HasValue eq begin n t) (For begin) (v.calls n)) s t n turn step
      (on_plan (HasValue eq begin n t) (For begin) eq s.world n c now
      (takes s t turn reached step) c.plan refl now)
      (λ w next left. subst (LeftOwned (HasValue eq begin n t) (For begin))
      (sym (put_here s.calls n next.left)) left))

  -- so in each state after its start
  pub own_since : (s : State K V E) (c : Call K V E) → WasStarted eq begin n s →
      s.calls n ≡ Some c → IsOwn s c
  own_since s c was live = subst (HoldsIf IsOwn s) live
      (holds_since eq begin n IsOwn own_on own_step s was
      (λ v. begins eq n (started v begin) v.world.table.division.parts v.world.desk.rules begin)).1

  -- a write that the call is to make next is of a value that it has
  pub writes_own : (s : State K V E) (c : Call K V E) (key : K) (value : V) (moment : ℕ)
      (rest : List (Item K V E)) → WasStarted eq begin n s → s.calls n ≡ Some c →
      c.plan ≡ plan.Write key value moment ∷ rest → HasValue eq begin n s key value
  writes_own s c key value moment rest was live is =
      (subst (PlanOwned (HasValue eq begin n s) (For begin)) is (own_since s c was live)).0
