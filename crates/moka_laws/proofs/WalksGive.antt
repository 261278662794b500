-- What walks give: no key twice, and what their own looks found.
use Rattle.std.proofs.Common.{◌≡◌, ℕ, ◌+◌, ◌<◌, ◌≤◌, ◌==◌, ◌↔◌, Bool, true, false, cond, List, [], ◌∷◌, ◌++◌, map, Option, Some, None, ◌⊎◌, inl, inr, refl, sym, ap, ◌∙◌, subst, arith}
use Rattle.std.specs.Cmp.{IsEquivalence}
use Rattle.std.specs.List.{AllByRecursion}
use Rattle.std.proofs.lemmas.Bool.{eqb-true, false≢true}
use Rattle.moka_hist.specs.Next.{Next, goes, gives}
use Rattle.moka_hist.specs.Plan.{Item, walks}
use Rattle.moka_hist.specs.Plan as plan
use Rattle.moka_hist.specs.Run.{Divides, IsReached}
use Rattle.moka_hist.specs.State.{Call, Division, Listed, State, World}
use Rattle.moka_hist.specs.Step.{Step}
use Rattle.moka_hist.specs.Tables.{GivesKeys, begun}
use Rattle.moka_hist.specs.declared.accesses.Turn.{Turn}
use Rattle.moka_hist.specs.declared.accesses.Turn.TheVariants as turn
use Rattle.moka_hist.specs.declared.records.Stored.{Stored}
use Rattle.moka_hist.specs.declared.replies.Answer.TheVariants as answer
use Rattle.moka_hist.specs.declared.tables.TableOp.TheVariants as op
use Rattle.moka_laws.specs.Looks.{HasDecided, is_visible_in}
use Rattle.moka_laws.specs.Starting.{Leads}
use Rattle.moka_laws.specs.Walks.{IsToFind, IsToJudge, ItemsAreApart, ItemsAreWalks, LooksAreApart, ScansShow}
use Rattle.moka_laws.proofs.Balanced.{in_balance}
use Rattle.moka_laws.proofs.Counting.{differ, put_here, put_there, some_same}
use Rattle.moka_laws.proofs.Following.{IsFollowed, follow}
use Rattle.moka_laws.proofs.NoWalks.{on_calm, on_silent, walking}
use Rattle.moka_laws.proofs.Outcomes.{outcomes}
use Rattle.moka_laws.proofs.OwnKeysKept.{under_own_keys}
use Rattle.moka_laws.proofs.Reached.{run_reached, step_reached}
use Rattle.moka_laws.proofs.StepCases.{OnStep, by_plan, step_cases}
use Rattle.moka_laws.proofs.Steady.{step_calls, step_last}
use Rattle.moka_laws.proofs.WalkPlans.{Apart, Past, all_in_turn, parts_differ, past_finds, look_of}
use Rattle.moka_laws.proofs.Walkers.{AreWalking, BegunBy, GoesWell, LeftWell, begun_named, division_stays, in_walking, orderly_apart, part_begun}
use Rattle.moka_laws.proofs.Walks.{Ends, Finds, IsWalk, Lists, Scans, Applies, Applies_first, Chooses, Ends_first, Ends_turn, Gathers, Hears, IsComing, Posts, Retires, Strikes, Takes_turn, Turns}
use Rattle.moka_laws.proofs.Weights.{weigh, weigh_call}
use Rattle.moka_hist.specs.Maintenance.{carrying}

-- ---- of any world

module _ {K V E : Type 0} where
  same_item : (a b : K) (x y : V) → ◌≡◌ {A = Turn K V E} (turn.Item a x) (turn.Item b y) → (a ≡ b) × (x ≡ y)
  same_item a b x y e = (cc, cc)

module _ {K V E : Type 0} (eq : K → K → Bool) where
  -- a plan that judges first, or not
  judging : (p : List (Item K V E)) →
      ((there : K) × (stored : Stored V) × (rest : List (Item K V E)) × (p ≡ plan.Scan there stored ∷ rest)) ⊎
      ((there : K) (stored : Stored V) (rest : List (Item K V E)) → p ≡ plan.Scan there stored ∷ rest → ⊥)
  judging (plan.Scan there stored ∷ rest) = inl (there, stored, rest, refl)
  judging [] = inr (λ there stored rest e. cc)
  judging (_ ∷ more) = inr (λ there stored rest e. cc)

  -- what a step of a judged record replies
  scan_cases : (w : World K V E) (n : ℕ) (c : Call K V E) (p : List (Item K V E)) (there : K) (stored : Stored V) (rest : List (Item K V E)) →
      p ≡ plan.Scan there stored ∷ rest →
      OnStep eq (λ (new : World K V E) (next : Next K V E). (key : K) (value : V) → next.turn ≡ turn.Item key value →
      (there ≡ key) × (stored.value ≡ value)) w n c p
  scan_cases w n c p there stored rest e =
      subst (λ q. OnStep eq (λ (new : World K V E) (next : Next K V E). (key : K) (value : V) → next.turn ≡ turn.Item key value →
      (there ≡ key) × (stored.value ≡ value)) w n c q) (sym e)
      (outcomes eq (λ (new : World K V E) (next : Next K V E). (key : K) (value : V) → next.turn ≡ turn.Item key value →
      (there ≡ key) × (stored.value ≡ value)) w n c (plan.Scan there stored) rest (
        λ seen key value is. same_item {E = E} there key stored.value value is,
        λ unseen key value is. absurd (silent rest key value is),
      ))
    where
      silent : (rest : List (Item K V E)) (key : K) (value : V) → (goes c rest).turn ≡ turn.Item key value → ⊥
      silent (plan.Reply a ∷ []) key value is = cc
      silent _ key value is = cc

  pub items_walk : ItemsAreWalks K V E eq
  items_walk n c w new given key value gets is = by (judging c.plan)
    where
      walked : (there : K) (stored : Stored V) (rest : List (Item K V E)) → c.plan ≡ plan.Scan there stored ∷ rest → walks c.plan ≡ true
      walked there stored rest e = ap walks e

      by : ((there : K) × (stored : Stored V) × (rest : List (Item K V E)) × (c.plan ≡ plan.Scan there stored ∷ rest)) ⊎
          ((there : K) (stored : Stored V) (rest : List (Item K V E)) → c.plan ≡ plan.Scan there stored ∷ rest → ⊥) →
          (walks c.plan ≡ true) × ((stored : Stored V) × IsToJudge c key stored × (stored.value ≡ value))
      by (inr other) = absurd (by_plan eq (λ (v : World K V E) (next : Next K V E). (k : K) (x : V) → next.turn ≡ turn.Item k x → ⊥)
          w n c.rules c.mode c.plan c.aborts c.carried given new gets (on_silent eq w n c c.plan other) key value is)
      by (inl j) =
          let f = by_plan eq (λ (v : World K V E) (next : Next K V E). (k : K) (x : V) → next.turn ≡ turn.Item k x → (j.0 ≡ k) × (j.1.value ≡ x))
          w n c.rules c.mode c.plan c.aborts c.carried given new gets (scan_cases w n c c.plan j.0 j.1 j.2 j.3) key value is in
          (walked j.0 j.1 j.2 j.3, (j.1, (j.2, subst (λ k. c.plan ≡ plan.Scan k j.1 ∷ j.2) f.0 j.3), f.1))

  pub scans_show : ScansShow K V E eq
  scans_show s t n c there stored reply live judge step =
      let is : step.call ≡ c = some_same (sym step.live ∙ live) in
      let e : step.call.plan ≡ plan.Scan there stored ∷ judge.0 = ap (λ (v : Call K V E). v.plan) is ∙ judge.1 in
      step_cases eq (λ new next. (next.turn ≡ turn.Item there stored.value) ↔ (is_visible_in s there stored ≡ true))
      (λ v r. (r ≡ turn.Item there stored.value) ↔ (is_visible_in s there stored ≡ true)) s t n reply step
      (subst (λ p. OnStep eq (λ (new : World K V E) (next : Next K V E). (next.turn ≡ turn.Item there stored.value) ↔ (is_visible_in s there stored ≡ true))
      s.world n step.call p) (sym e)
      (outcomes eq (λ (new : World K V E) (next : Next K V E). (next.turn ≡ turn.Item there stored.value) ↔ (is_visible_in s there stored ≡ true))
      s.world n step.call (plan.Scan there stored) judge.0 (
        λ seen. (λ f. seen, λ f. refl),
        λ unseen. (λ f. absurd (silent judge.0 f), λ seen. absurd (false≢true (sym unseen ∙ seen))),
      )))
      (λ w next m. m)
    where
      silent : (rest : List (Item K V E)) → (goes step.call rest).turn ≡ turn.Item there stored.value → ⊥
      silent (plan.Reply a ∷ []) is = cc
      silent _ is = cc

-- ---- what plans keep

module _ {K V E : Type 0} (eq : K → K → Bool) where
  -- the call, if it is live, has such a plan
  abbrev pub PlanIf : (List (Item K V E) → Type 0) → Option (Call K V E) → Type 0
  PlanIf P None = Unit {0}
  PlanIf P (Some c) = P c.plan

  -- a plan without an item of a walk is such a plan, and a walk that has one keeps it with each step
  pub record IsPlanKept (P : Division K → List (Item K V E) → Type 0) : Type 0 where
    pub calm : (division : Division K) (p : List (Item K V E)) → weigh walking p ≡ 0 → P division p
    pub walk : (w : World K V E) (n : ℕ) (c : Call K V E) → Divides eq w.table.division →
        ((q : K) (pair : K × Stored V) → w.table.stored q ≡ Some pair → eq pair.0 q ≡ true) →
        BegunBy (part_begun w.table n) (Some c) → (p : List (Item K V E)) → c.plan ≡ p → IsWalk p → P w.table.division p →
        OnStep eq (λ (new : World K V E) (next : Next K V E). PlanIf (P w.table.division) next.left) w n c p
    -- maintenance that is to walk has none
    pub coming : (division : Division K) (parts : ℕ) (p : List (Item K V E)) → IsComing parts p → P division p → ⊥

module _ {K V E : Type 0} (eq : K → K → Bool) (laws : IsEquivalence eq) (P : Division K → List (Item K V E) → Type 0) (keeps : IsPlanKept eq P) where
  calm_if : (division : Division K) (left : Option (Call K V E)) → weigh_call walking left ≡ 0 → PlanIf eq (P division) left
  calm_if division None h = tt
  calm_if division (Some c) h = keeps.calm division c.plan h

  module _ (n : ℕ) where
    -- the call of this number, which was started, has such a plan, if it is live
    pub record IsPlanned (s : State K V E) : Type 0 where
      pub reached : IsReached eq s
      pub born : n ≤ s.world.desk.last
      pub plan : PlanIf eq (P s.world.table.division) (s.calls n)

    own_planned : (s t : State K V E) (turn : Turn K V E) → IsPlanned s → Step eq s n turn t → PlanIf eq (P s.world.table.division) (t.calls n)
    own_planned s t turn i step =
        let orderly : AreWalking eq s = in_walking eq laws s i.reached in
        by (subst (LeftWell eq s.world.table) step.live (orderly.well n)) orderly
      where
        now : P s.world.table.division step.call.plan
        now = subst (PlanIf eq (P s.world.table.division)) step.live i.plan

        by : GoesWell eq s.world.table step.call.plan → AreWalking eq s → PlanIf eq (P s.world.table.division) (t.calls n)
        by (inl calm) a =
            step_cases eq (λ new next. weigh_call walking next.left ≡ 0) (λ v _. PlanIf eq (P s.world.table.division) (v.calls n)) s t n turn step
            (on_calm eq s.world n step.call step.call.plan refl calm)
            (λ w next h. subst (PlanIf eq (P s.world.table.division)) (sym (put_here s.calls n next.left))
            (calm_if s.world.table.division next.left h))
        by (inr (inr coming)) a = absurd (keeps.coming s.world.table.division coming.0 step.call.plan coming.1 now)
        by (inr (inl walk)) a =
            step_cases eq (λ new next. PlanIf eq (P s.world.table.division) next.left) (λ v _. PlanIf eq (P s.world.table.division) (v.calls n)) s t n turn step
            (keeps.walk s.world n step.call a.divides (under_own_keys eq s i.reached) (subst (BegunBy (part_begun s.world.table n)) step.live (a.begun n))
            step.call.plan refl walk.0 now)
            (λ w next h. subst (PlanIf eq (P s.world.table.division)) (sym (put_here s.calls n next.left)) h)

    planned_step : (s t : State K V E) (m : ℕ) (turn : Turn K V E) → Leads eq s t → IsPlanned s → Step eq s m turn t → IsPlanned t
    planned_step s t m turn led i step = record {
      reached = run_reached eq s t led.events led.replies i.reached led.run;
      born = omega (arith, i.born, step_last eq s t m turn step);
      plan = subst (λ d. PlanIf eq (P d) (t.calls n)) (sym (division_stays eq s t m turn step)) (by (m == n) refl);
    }
      where
        by : (b : Bool) → (m == n) ≡ b → PlanIf eq (P s.world.table.division) (t.calls n)
        by true e = own_planned s t turn i (subst (λ v. Step eq s v turn t) (eqb-true m n e) step)
        by false e = subst (PlanIf eq (P s.world.table.division)) (sym (step_calls eq s t m n turn e step)) i.plan

    planned_followed : IsFollowed eq IsPlanned
    planned_followed = record {
      at = λ s moment on led i. record { reached = run_reached eq s _ led.events led.replies i.reached led.run; born = i.born; plan = i.plan };
      start = λ s begin fits led i. record {
        reached = run_reached eq s _ led.events led.replies i.reached led.run;
        born = omega (arith, i.born);
        plan = subst (PlanIf eq (P s.world.table.division))
            (sym (put_there s.calls (s.world.desk.last + 1) _ n (differ (s.world.desk.last + 1) n (λ e. omega (arith, e, i.born))))) i.plan;
      };
      step = planned_step;
      tell = λ s m given asked led i. record { reached = run_reached eq s _ led.events led.replies i.reached led.run; born = i.born; plan = i.plan };
      hear = λ s m off running led i. record { reached = run_reached eq s _ led.events led.replies i.reached led.run; born = i.born; plan = i.plan };
      drop = λ s m c live between led i. record {
        reached = run_reached eq s _ led.events led.replies i.reached led.run;
        born = i.born;
        plan = dropped_plan s m i (m == n) refl;
      };
    }
      where
        dropped_plan : (s : State K V E) (m : ℕ) → IsPlanned s → (b : Bool) → (m == n) ≡ b →
            PlanIf eq (P s.world.table.division) (cond b None (s.calls n))
        dropped_plan s m i true e = tt
        dropped_plan s m i false e = i.plan

    -- once it has such a plan it keeps it
    stays_planned : (s t : State K V E) → IsPlanned s → Leads eq s t → IsPlanned t
    stays_planned s t i led = follow eq IsPlanned planned_followed s t led.events led.replies i led.run

-- ---- no key twice

module _ {K V E : Type 0} (eq : K → K → Bool) where
  -- a plan without an item of a walk comes to no key
  past_calm : (division : Division K) (key : K) (p : List (Item K V E)) → weigh walking p ≡ 0 → Past eq division key p
  past_calm division key [] h = tt
  past_calm division key (plan.List_keys part ∷ rest) h = absurd (omega (arith, h))
  past_calm division key (plan.Find other ∷ rest) h = absurd (omega (arith, h))
  past_calm division key (plan.Scan there stored ∷ rest) h = absurd (omega (arith, h))
  past_calm division key (plan.Candidates parts ∷ rest) h = absurd (omega (arith, h))
  past_calm division key (plan.Strike there stored ∷ rest) h = absurd (omega (arith, h))
  past_calm division key (_ ∷ rest) h = past_calm division key rest (omega (arith, h))

  -- The walk looks up no key that equals this one, and all parts that it has still to list are past
  -- that of the key. It may have such a record to judge.
  abbrev LooksPast : Division K → K → List (Item K V E) → Type 0
  LooksPast division key [] = Unit {0}
  LooksPast division key (plan.List_keys q ∷ rest) = (division.part_of key < q) × LooksPast division key rest
  LooksPast division key (plan.Candidates parts ∷ rest) = ⊥
  LooksPast division key (plan.Find other ∷ rest) = (eq key other ≡ false) × LooksPast division key rest
  LooksPast division key (_ ∷ rest) = LooksPast division key rest

  looks_calm : (division : Division K) (key : K) (p : List (Item K V E)) → weigh walking p ≡ 0 → LooksPast division key p
  looks_calm division key [] h = tt
  looks_calm division key (plan.List_keys part ∷ rest) h = absurd (omega (arith, h))
  looks_calm division key (plan.Find other ∷ rest) h = absurd (omega (arith, h))
  looks_calm division key (plan.Candidates parts ∷ rest) h = absurd (omega (arith, h))
  looks_calm division key (_ ∷ rest) h = looks_calm division key rest (omega (arith, h))

  past_looks : (division : Division K) (key : K) (p : List (Item K V E)) → Past eq division key p → LooksPast division key p
  past_looks division key [] h = tt
  past_looks division key (plan.List_keys part ∷ rest) h = (h.0, past_looks division key rest h.1)
  past_looks division key (plan.Find other ∷ rest) h = (h.0, past_looks division key rest h.1)
  past_looks division key (plan.Scan there stored ∷ rest) h = past_looks division key rest h.1
  past_looks division key (plan.Candidates parts ∷ rest) h = absurd h
  past_looks division key (plan.Strike there stored ∷ rest) h = past_looks division key rest h.1
  past_looks division key (_ ∷ rest) h = past_looks division key rest h

  looks_finds : (division : Division K) (key : K) (keys : List K) (rest : List (Item K V E)) → AllByRecursion (λ q. eq key q ≡ false) keys →
      LooksPast division key rest → LooksPast division key (map plan.Find keys ++ rest)
  looks_finds division key [] rest other h = h
  looks_finds division key (k ∷ keys) rest other h = (other.0, looks_finds division key keys rest other.1 h)

  -- a plan that the call goes on with is such a plan
  goes_planned : (P : List (Item K V E) → Type 0) (c : Call K V E) (p : List (Item K V E)) → P p → PlanIf eq P (goes c p).left
  goes_planned P c (plan.Reply a ∷ []) h = tt
  goes_planned P c [] h = h
  goes_planned P c (_ ∷ rest) h = h

module _ {K V E : Type 0} (eq : K → K → Bool) (laws : IsEquivalence eq) (key : K) where
  module _ (w : World K V E) (n : ℕ) (c : Call K V E) (divides : Divides eq w.table.division)
      (under : (q : K) (p : K × Stored V) → w.table.stored q ≡ Some p → eq p.0 q ≡ true)
      (begins : BegunBy (part_begun w.table n) (Some c)) where
    -- the keys of a later part differ
    later_keys : (part : ℕ) (keys : List K) → w.table.division.part_of key < part → AllByRecursion (λ q. w.table.division.part_of q ≡ part) keys →
        AllByRecursion (λ q. eq key q ≡ false) keys
    later_keys part [] h of = tt
    later_keys part (q ∷ keys) h of = (parts_differ eq w.table.division divides key q (omega (arith, h, of.0)), later_keys part keys h of.1)

    listed_later : (part : ℕ) (rest : List (Item K V E)) (keys : List K) (listed : Listed K) → c.plan ≡ plan.List_keys part ∷ rest →
        (begun w.table n (op.Keys part)).listings n ≡ Some listed → GivesKeys eq (begun w.table n (op.Keys part)) listed keys →
        w.table.division.part_of key < part → AllByRecursion (λ q. eq key q ≡ false) keys
    listed_later part rest keys listed e is gives h =
        later_keys part keys h (subst (λ v. AllByRecursion (λ q. w.table.division.part_of q ≡ v) keys)
        (begun_named w.table n c part rest e begins listed is) (all_in_turn _ keys gives.of_part))

    -- a key that equals one which differs from this one differs from it
    other_there : (listed there : K) → eq key listed ≡ false → eq there listed ≡ true → eq key there ≡ false
    other_there listed there h e = by (eq key there) refl
      where
        by : (b : Bool) → eq key there ≡ b → b ≡ false
        by false f = refl
        by true f = absurd (false≢true (sym h ∙ laws.congr key there listed f ∙ e))

    abbrev After : World K V E → Next K V E → Type 0
    After new next = PlanIf eq (Past eq w.table.division key) next.left

    walk_past : (p : List (Item K V E)) → c.plan ≡ p → IsWalk p → Past eq w.table.division key p → OnStep eq After w n c p
    walk_past p e Ends h = outcomes eq After w n c (plan.Reply answer.End) [] tt
    walk_past p e (Lists part rest walk) h = outcomes eq After w n c (plan.List_keys part) rest (
      λ more. subst (Past eq w.table.division key) (sym e) h,
      λ listed keys is gives. goes_planned eq (Past eq w.table.division key) c (map plan.Find keys ++ rest)
          (past_finds eq w.table.division key keys rest (listed_later part rest keys listed e is gives h.0) h.1),
    )
    walk_past p e (Finds listed rest walk) h = outcomes eq After w n c (plan.Find listed) rest (
      λ more. subst (Past eq w.table.division key) (sym e) h,
      λ none. goes_planned eq (Past eq w.table.division key) c rest h.1,
      λ there stored some none. (other_there listed there h.0 (under listed (there, stored) some), h.1),
      λ there stored ids some is. (other_there listed there h.0 (under listed (there, stored) some), h.1),
    )
    walk_past p e (Scans there stored rest walk) h = outcomes eq After w n c (plan.Scan there stored) rest (
      λ seen. h.1,
      λ unseen. goes_planned eq (Past eq w.table.division key) c rest h.1,
    )
    walk_past p e Retires h = outcomes eq After w n c plan.Retire [] tt
    walk_past p e (Chooses parts) h = absurd h
    walk_past p e (Strikes there stored rest walk) h = outcomes eq After w n c (plan.Strike there stored) rest
        (goes_planned eq (Past eq w.table.division key) (carrying c _) rest h.1)

    abbrev AfterLook : World K V E → Next K V E → Type 0
    AfterLook new next = PlanIf eq (LooksPast eq w.table.division key) next.left

    walk_looks : (p : List (Item K V E)) → c.plan ≡ p → IsWalk p → LooksPast eq w.table.division key p → OnStep eq AfterLook w n c p
    walk_looks p e Ends h = outcomes eq AfterLook w n c (plan.Reply answer.End) [] tt
    walk_looks p e (Lists part rest walk) h = outcomes eq AfterLook w n c (plan.List_keys part) rest (
      λ more. subst (LooksPast eq w.table.division key) (sym e) h,
      λ listed keys is gives. goes_planned eq (LooksPast eq w.table.division key) c (map plan.Find keys ++ rest)
          (looks_finds eq w.table.division key keys rest (listed_later part rest keys listed e is gives h.0) h.1),
    )
    walk_looks p e (Finds listed rest walk) h = outcomes eq AfterLook w n c (plan.Find listed) rest (
      λ more. subst (LooksPast eq w.table.division key) (sym e) h,
      λ none. goes_planned eq (LooksPast eq w.table.division key) c rest h.1,
      λ there stored some none. h.1,
      λ there stored ids some is. h.1,
    )
    walk_looks p e (Scans there stored rest walk) h = outcomes eq AfterLook w n c (plan.Scan there stored) rest (
      λ seen. h,
      λ unseen. goes_planned eq (LooksPast eq w.table.division key) c rest h,
    )
    walk_looks p e Retires h = outcomes eq AfterLook w n c plan.Retire [] tt
    walk_looks p e (Chooses parts) h = absurd h
    walk_looks p e (Strikes there stored rest walk) h = outcomes eq AfterLook w n c (plan.Strike there stored) rest
        (goes_planned eq (LooksPast eq w.table.division key) (carrying c _) rest h)

  coming_past : (division : Division K) (parts : ℕ) (p : List (Item K V E)) → IsComing parts p → Past eq division key p → ⊥
  coming_past division parts p Gathers h = h
  coming_past division parts p (Hears number held) h = h
  coming_past division parts p (Posts held) h = h
  coming_past division parts p (Takes_turn held) h = h
  coming_past division parts p (Applies_first held) h = h
  coming_past division parts p (Ends_first held) h = h
  coming_past division parts p Turns h = h
  coming_past division parts p Applies h = h
  coming_past division parts p Ends_turn h = h

  coming_looks : (division : Division K) (parts : ℕ) (p : List (Item K V E)) → IsComing parts p → LooksPast eq division key p → ⊥
  coming_looks division parts p Gathers h = h
  coming_looks division parts p (Hears number held) h = h
  coming_looks division parts p (Posts held) h = h
  coming_looks division parts p (Takes_turn held) h = h
  coming_looks division parts p (Applies_first held) h = h
  coming_looks division parts p (Ends_first held) h = h
  coming_looks division parts p Turns h = h
  coming_looks division parts p Applies h = h
  coming_looks division parts p Ends_turn h = h

  past_kept : IsPlanKept {K = K} {V = V} {E = E} eq (λ division p. Past eq division key p)
  past_kept = record { calm = λ division p h. past_calm eq division key p h; walk = walk_past; coming = coming_past }

  looks_kept : IsPlanKept {K = K} {V = V} {E = E} eq (λ division p. LooksPast eq division key p)
  looks_kept = record { calm = λ division p h. looks_calm eq division key p h; walk = walk_looks; coming = coming_looks }

module _ {K V E : Type 0} (eq : K → K → Bool) (laws : IsEquivalence eq) where
  -- a plan of a live call comes to no key twice
  pub live_apart : (s : State K V E) (n : ℕ) (c : Call K V E) → IsReached eq s → s.calls n ≡ Some c → IsWalk c.plan → Apart eq s.world.table.division c.plan
  live_apart s n c h live walk =
      orderly_apart eq s.world.table c.plan walk (subst (LeftWell eq s.world.table) live ((in_walking eq laws s h).well n))

  -- a call that looks a listed key up, or judges a record, walks
  pub looking_walk : (s : State K V E) (n : ℕ) (c : Call K V E) → IsReached eq s → s.calls n ≡ Some c → 0 < weigh look_of c.plan → IsWalk c.plan
  looking_walk s n c h live looks = by (subst (LeftWell eq s.world.table) live ((in_walking eq laws s h).well n))
    where
      none : (p : List (Item K V E)) → weigh walking p ≡ 0 → weigh look_of p ≡ 0
      none [] calm = refl
      none (plan.Find key ∷ rest) calm = absurd (omega (arith, calm))
      none (plan.Scan there stored ∷ rest) calm = absurd (omega (arith, calm))
      none (plan.Strike there stored ∷ rest) calm = absurd (omega (arith, calm))
      none (_ ∷ rest) calm = let h = none rest (omega (arith, calm)) in omega (arith, h)

      coming_none : (parts : ℕ) (p : List (Item K V E)) → IsComing parts p → weigh look_of p ≡ 0
      coming_none parts p Gathers = refl
      coming_none parts p (Hears number held) = refl
      coming_none parts p (Posts held) = refl
      coming_none parts p (Takes_turn held) = refl
      coming_none parts p (Applies_first held) = refl
      coming_none parts p (Ends_first held) = refl
      coming_none parts p Turns = refl
      coming_none parts p Applies = refl
      coming_none parts p Ends_turn = refl

      by : GoesWell eq s.world.table c.plan → IsWalk c.plan
      by (inl calm) = absurd (omega (arith, looks, none c.plan calm))
      by (inr (inl h)) = h.0
      by (inr (inr h)) = absurd (omega (arith, looks, coming_none h.0 c.plan h.1))

  module _ (s t : State K V E) (n : ℕ) (c : Call K V E) (reply : Turn K V E) (h : IsReached eq s) (live : s.calls n ≡ Some c) (step : Step eq s n reply t) where
    is_call : step.call ≡ c
    is_call = some_same (sym step.live ∙ live)

    stepped_born : n ≤ t.world.desk.last
    stepped_born = omega (arith, (in_balance eq s h).numbered n c live, step_last eq s t n reply step)

    -- the walk's own step leaves it past the key that it judged
    past_scan : (there : K) (stored : Stored V) → IsToJudge c there stored → IsPlanned eq laws (λ d p. Past eq d there p) (past_kept eq laws there) n t
    past_scan there stored judge = record {
      reached = step_reached eq s t n reply h step;
      born = stepped_born;
      plan = subst (λ d. PlanIf eq (Past eq d there) (t.calls n)) (sym (division_stays eq s t n reply step)) left;
    }
      where
        e : step.call.plan ≡ plan.Scan there stored ∷ judge.0
        e = ap (λ (v : Call K V E). v.plan) is_call ∙ judge.1

        apart : Apart eq s.world.table.division (plan.Scan there stored ∷ judge.0)
        apart = subst (Apart eq s.world.table.division) judge.1 (live_apart s n c h live (looking_walk s n c h live (subst (λ p. 0 < weigh look_of p) (sym judge.1) (omega arith))))

        left : PlanIf eq (Past eq s.world.table.division there) (t.calls n)
        left = step_cases eq (λ new next. PlanIf eq (Past eq s.world.table.division there) next.left)
            (λ v _. PlanIf eq (Past eq s.world.table.division there) (v.calls n)) s t n reply step
            (subst (λ p. OnStep eq (λ (new : World K V E) (next : Next K V E). PlanIf eq (Past eq s.world.table.division there) next.left) s.world n step.call p) (sym e)
            (outcomes eq (λ (new : World K V E) (next : Next K V E). PlanIf eq (Past eq s.world.table.division there) next.left) s.world n step.call
            (plan.Scan there stored) judge.0
            (λ seen. apart.0, λ unseen. goes_planned eq (Past eq s.world.table.division there) step.call judge.0 apart.0)))
            (λ w next k. subst (PlanIf eq (Past eq s.world.table.division there)) (sym (put_here s.calls n next.left)) k)

    -- it is still where it was, or past the key
    abbrev Left : K → Option (Call K V E) → Type 0
    Left key o = ((d : Call K V E) × (o ≡ Some d) × (d.plan ≡ step.call.plan)) ⊎ PlanIf eq (LooksPast eq s.world.table.division key) o

    -- a look that has decided leaves it past the key that it looked up, but for the record that it may have found
    past_find : (key : K) → IsToFind c key → HasDecided n c t → IsPlanned eq laws (λ d p. LooksPast eq d key p) (looks_kept eq laws key) n t
    past_find key find decided = record {
      reached = step_reached eq s t n reply h step;
      born = stepped_born;
      plan = subst (λ d. PlanIf eq (LooksPast eq d key) (t.calls n)) (sym (division_stays eq s t n reply step)) (by left);
    }
      where
        e : step.call.plan ≡ plan.Find key ∷ find.0
        e = ap (λ (v : Call K V E). v.plan) is_call ∙ find.1

        apart : Apart eq s.world.table.division (plan.Find key ∷ find.0)
        apart = subst (Apart eq s.world.table.division) find.1 (live_apart s n c h live (looking_walk s n c h live (subst (λ p. 0 < weigh look_of p) (sym find.1) (omega arith))))

        late : LooksPast eq s.world.table.division key find.0
        late = past_looks eq s.world.table.division key find.0 apart.0

        left : Left key (t.calls n)
        left = step_cases eq (λ new next. Left key next.left) (λ v _. Left key (v.calls n)) s t n reply step
            (subst (λ p. OnStep eq (λ (new : World K V E) (next : Next K V E). Left key next.left) s.world n step.call p) (sym e)
            (outcomes eq (λ (new : World K V E) (next : Next K V E). Left key next.left) s.world n step.call (plan.Find key) find.0 (
              λ more. inl (_, refl, refl),
              λ none. inr (goes_planned eq (LooksPast eq s.world.table.division key) step.call find.0 late),
              λ there stored some none. inr late,
              λ there stored ids some is. inr late,
            )))
            (λ w next k. subst (Left key) (sym (put_here s.calls n next.left)) k)

        by : Left key (t.calls n) → PlanIf eq (LooksPast eq s.world.table.division key) (t.calls n)
        by (inr k) = k
        by (inl k) = absurd (decided k.0 k.1 (k.2 ∙ ap (λ (v : Call K V E). v.plan) is_call))

  pub items_apart : ItemsAreApart K V E eq
  items_apart s t u v n a b x y h first led second =
      let one = items_walk eq n first.call s.world first.world first.given a x first.gets (sym first.turns) in
      let other = items_walk eq n second.call u.world second.world second.given b y second.gets (sym second.turns) in
      let i = stays_planned eq laws (λ d p. Past eq d a p) (past_kept eq laws a) n t u
      (past_scan s t n first.call (turn.Item a x) h first.live first a one.1.0 one.1.1) led in
      apart second.call other.1.0 (subst (PlanIf eq (Past eq u.world.table.division a)) second.live i.plan) other.1.1
    where
      apart : (c : Call K V E) (stored : Stored V) → PlanIf eq (Past eq u.world.table.division a) (Some c) → IsToJudge c b stored → eq a b ≡ false
      apart c stored past judge = (subst (Past eq u.world.table.division a) judge.1 past).0

  pub looks_apart : LooksAreApart K V E eq
  looks_apart s t u n c d a b found reply h live step finds led later find =
      let i = stays_planned eq laws (λ e p. LooksPast eq e a p) (looks_kept eq laws a) n t u
      (past_find s t n c reply h live step a finds.looks finds.decided) led in
      let past : LooksPast eq u.world.table.division a d.plan = subst (PlanIf eq (LooksPast eq u.world.table.division a)) later i.plan in
      (subst (LooksPast eq u.world.table.division a) find.1 past).0
