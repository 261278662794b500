-- What a walk judges its own look has found.
use Rattle.std.proofs.Common.{◌≡◌, ℕ, ◌+◌, ◌==◌, Bool, true, false, cond, List, [], ◌∷◌, ◌++◌, map, Option, Some, None, ◌⊎◌, inl, inr, refl, sym, ap, ◌∙◌, subst, arith}
use Rattle.std.specs.Cmp.{IsEquivalence}
use Rattle.std.proofs.lemmas.Bool.{eqb-true}
use Rattle.moka_hist.specs.Next.{Next, goes}
use Rattle.moka_hist.specs.Plan.{Item, lists_from}
use Rattle.moka_hist.specs.Plan as plan
use Rattle.moka_hist.specs.Run.{IsReached, started}
use Rattle.moka_hist.specs.State.{Call, State, World, fresh}
use Rattle.moka_hist.specs.Step.{Step}
use Rattle.moka_hist.specs.declared.accesses.Turn.{Turn}
use Rattle.moka_hist.specs.declared.accesses.Turn.TheVariants as turn
use Rattle.moka_hist.specs.declared.events.Start.{Start}
use Rattle.moka_hist.specs.declared.records.Stored.{Stored}
use Rattle.moka_hist.specs.declared.replies.Answer.TheVariants as answer
use Rattle.moka_hist.specs.declared.rules.Rules.{Rules}
use Rattle.moka_laws.specs.Looks.{is_visible_in}
use Rattle.moka_laws.specs.Starting.{HasMade, Leads}
use Rattle.moka_laws.specs.Walks.{FindsListed, IsToJudge, ItemsAreFound}
use Rattle.moka_laws.proofs.Counting.{put_here, put_there, some_same}
use Rattle.moka_laws.proofs.Following.{IsFollowed, follow, made_on, no_leads}
use Rattle.moka_laws.proofs.NoWalks.{on_calm, walking}
use Rattle.moka_laws.proofs.Outcomes.{outcomes}
use Rattle.moka_laws.proofs.Reached.{fresh_reached, run_reached}
use Rattle.moka_laws.proofs.StepCases.{OnStep, step_cases}
use Rattle.moka_laws.proofs.Steady.{step_calls}
use Rattle.moka_laws.proofs.Rules.{IsFresh, Disabled, Walks_over, fresh_plan}
use Rattle.moka_laws.proofs.WalkPlans.{look_of, no_looks_from}
use Rattle.moka_laws.proofs.Walkers.{GoesWell, LeftWell, in_walking}
use Rattle.moka_laws.proofs.WalksGive.{items_walk, scans_show}
use Rattle.moka_laws.proofs.Walks.{Ends, Finds, IsWalk, Lists, Scans, Applies, Applies_first, Chooses, Comes, Comes_not, Comes_on, Comes_to, Ends_first, Ends_turn, Gathers, Hears, IsComing, Posts, Retires, Strikes, Takes_turn, Turns, on_coming}
use Rattle.moka_laws.proofs.Weights.{weigh, weigh_call}
use Rattle.moka_hist.specs.Maintenance.{carrying}

module _ {K V E : Type 0} (eq : K → K → Bool) where
  -- the walk's own look has found the record that it is to judge
  abbrev WasFound : State K V E → ℕ → K → Stored V → Type 0
  WasFound s n there stored = (listed : K) × HasMade eq s n (FindsListed n listed (Some (there, stored)))

  -- so of each record that the plan is to judge
  abbrev AllFound : State K V E → ℕ → List (Item K V E) → Type 0
  AllFound s n [] = Unit {0}
  AllFound s n (plan.Scan there stored ∷ rest) = WasFound s n there stored × AllFound s n rest
  AllFound s n (_ ∷ rest) = AllFound s n rest

  found_on : (s t : State K V E) (n : ℕ) → Leads eq s t → (p : List (Item K V E)) → AllFound s n p → AllFound t n p
  found_on s t n led [] h = tt
  found_on s t n led (plan.Scan there stored ∷ rest) h =
      ((h.0.0, made_on eq s t n (FindsListed n h.0.0 (Some (there, stored))) led h.0.1), found_on s t n led rest h.1)
  found_on s t n led (_ ∷ rest) h = found_on s t n led rest h

  calm_found : (s : State K V E) (n : ℕ) (p : List (Item K V E)) → weigh walking p ≡ 0 → AllFound s n p
  calm_found s n [] h = tt
  calm_found s n (plan.List_keys part ∷ rest) h = absurd (omega (arith, h))
  calm_found s n (plan.Find key ∷ rest) h = absurd (omega (arith, h))
  calm_found s n (plan.Scan there stored ∷ rest) h = absurd (omega (arith, h))
  calm_found s n (_ ∷ rest) h = calm_found s n rest (omega (arith, h))

  finds_found : (s : State K V E) (n : ℕ) (keys : List K) (rest : List (Item K V E)) → AllFound s n rest → AllFound s n (map plan.Find keys ++ rest)
  finds_found s n [] rest h = h
  finds_found s n (key ∷ keys) rest h = finds_found s n keys rest h

  abbrev FoundIf : State K V E → ℕ → Option (Call K V E) → Type 0
  FoundIf s n None = Unit {0}
  FoundIf s n (Some c) = AllFound s n c.plan

  found_if_on : (s t : State K V E) (n : ℕ) → Leads eq s t → (o : Option (Call K V E)) → FoundIf s n o → FoundIf t n o
  found_if_on s t n led None h = tt
  found_if_on s t n led (Some c) h = found_on s t n led c.plan h

  calm_found_if : (s : State K V E) (n : ℕ) (o : Option (Call K V E)) → weigh_call walking o ≡ 0 → FoundIf s n o
  calm_found_if s n None h = tt
  calm_found_if s n (Some c) h = calm_found s n c.plan h

  -- ---- fresh calls

  -- a plan without a look has nothing to judge
  unlooked_found : (s : State K V E) (n : ℕ) (p : List (Item K V E)) → weigh look_of p ≡ 0 → AllFound s n p
  unlooked_found s n [] h = tt
  unlooked_found s n (plan.Find key ∷ rest) h = absurd (omega (arith, h))
  unlooked_found s n (plan.Scan there stored ∷ rest) h = absurd (omega (arith, h))
  unlooked_found s n (_ ∷ rest) h = unlooked_found s n rest (omega (arith, h))

  fresh_looks : (rules : Rules) (p : List (Item K V E)) → IsFresh rules p → weigh look_of p ≡ 0
  fresh_looks rules p (Walks_over parts able) = no_looks_from _ 0 parts refl
  fresh_looks rules p (Disabled a d plain) = refl
  fresh_looks rules p _ = refl

  -- ---- a step

  -- the look of this step found the record that the call is to judge now
  record Finds_now (s : State K V E) (n : ℕ) (c : Call K V E) (left : Option (Call K V E)) : Type 0 where
    listed : K
    there : K
    stored : Stored V
    rest : List (Item K V E)
    looks : c.plan ≡ plan.Find listed ∷ rest
    stood : s.world.table.stored listed ≡ Some (there, stored)
    call : Call K V E
    live : left ≡ Some call
    judges : call.plan ≡ plan.Scan there stored ∷ rest
    others : AllFound s n rest

  abbrev FindsOrHas : State K V E → ℕ → Call K V E → Option (Call K V E) → Type 0
  FindsOrHas s n c left = FoundIf s n left ⊎ Finds_now s n c left

  goes_found : (s : State K V E) (n : ℕ) (c : Call K V E) (p : List (Item K V E)) → AllFound s n p → FoundIf s n (goes c p).left
  goes_found s n c (plan.Reply a ∷ []) h = tt
  goes_found s n c [] h = h
  goes_found s n c (_ ∷ rest) h = h

  walk_finds : (s : State K V E) (n : ℕ) (c : Call K V E) (p : List (Item K V E)) → c.plan ≡ p → IsWalk p → AllFound s n p →
      OnStep eq (λ (new : World K V E) (next : Next K V E). FindsOrHas s n c next.left) s.world n c p
  walk_finds s n c p e Ends h =
      outcomes eq (λ (new : World K V E) (next : Next K V E). FindsOrHas s n c next.left) s.world n c (plan.Reply answer.End) [] (inl tt)
  walk_finds s n c p e (Lists part rest walk) h =
      outcomes eq (λ (new : World K V E) (next : Next K V E). FindsOrHas s n c next.left) s.world n c (plan.List_keys part) rest (
        λ more. inl (subst (AllFound s n) (sym e) h),
        λ listed keys is gives. inl (goes_found s n c (map plan.Find keys ++ rest) (finds_found s n keys rest h)),
      )
  walk_finds s n c p e (Finds listed rest walk) h =
      outcomes eq (λ (new : World K V E) (next : Next K V E). FindsOrHas s n c next.left) s.world n c (plan.Find listed) rest (
        λ more. inl (subst (AllFound s n) (sym e) h),
        λ none. inl (goes_found s n c rest h),
        λ there stored some none. inr (record {
          listed = listed;
          there = there;
          stored = stored;
          rest = rest;
          looks = e;
          stood = some;
          call = _;
          live = refl;
          judges = refl;
          others = h;
        }),
        λ there stored ids some is. inl h,
      )
  walk_finds s n c p e (Scans there stored rest walk) h =
      outcomes eq (λ (new : World K V E) (next : Next K V E). FindsOrHas s n c next.left) s.world n c (plan.Scan there stored) rest (
        λ seen. inl h.1,
        λ unseen. inl (goes_found s n c rest h.1),
      )
  walk_finds s n c p e Retires h =
      outcomes eq (λ (new : World K V E) (next : Next K V E). FindsOrHas s n c next.left) s.world n c plan.Retire [] (inl tt)
  walk_finds s n c p e (Chooses parts) h =
      outcomes eq (λ (new : World K V E) (next : Next K V E). FindsOrHas s n c next.left) s.world n c (plan.Candidates parts) [] (
        λ none. inl tt,
        λ id more some. inl (goes_found s n (carrying c (id ∷ more)) (lists_from 0 parts (plan.Retire ∷ []))
            (unlooked_found s n (lists_from 0 parts (plan.Retire ∷ [])) (no_looks_from (plan.Retire ∷ []) 0 parts refl))),
      )
  walk_finds s n c p e (Strikes there stored rest walk) h =
      outcomes eq (λ (new : World K V E) (next : Next K V E). FindsOrHas s n c next.left) s.world n c (plan.Strike there stored) rest
      (inl (goes_found s n (carrying c _) rest h))

  -- maintenance that is to walk has nothing to judge
  coming_found : (s : State K V E) (n parts : ℕ) (p : List (Item K V E)) → IsComing parts p → AllFound s n p
  coming_found s n parts p Gathers = tt
  coming_found s n parts p (Hears number held) = tt
  coming_found s n parts p (Posts held) = tt
  coming_found s n parts p (Takes_turn held) = tt
  coming_found s n parts p (Applies_first held) = tt
  coming_found s n parts p (Ends_first held) = tt
  coming_found s n parts p Turns = tt
  coming_found s n parts p Applies = tt
  coming_found s n parts p Ends_turn = tt

  comes_found : (s : State K V E) (n parts : ℕ) (c : Call K V E) → AllFound s n c.plan → (next : Next K V E) → Comes parts c next → FoundIf s n next.left
  comes_found s n parts c was next (Comes_on rest coming) = goes_found s n c rest (coming_found s n parts rest coming)
  comes_found s n parts c was next Comes_to = tt
  comes_found s n parts c was next Comes_not = was

  -- ---- of a state

  record AreFound (s : State K V E) : Type 0 where
    reached : IsReached eq s
    found : (n : ℕ) → FoundIf s n (s.calls n)

  judges_finds : (p q : List (Item K V E)) (listed there : K) (stored : Stored V) (rest more : List (Item K V E)) → p ≡ plan.Find listed ∷ rest →
      q ≡ plan.Scan there stored ∷ more → q ≡ p → ⊥
  judges_finds p q listed there stored rest more e f g = cc

  module _ (laws : IsEquivalence eq) where
    own_found : (s t : State K V E) (n : ℕ) (turn : Turn K V E) → Leads eq s t → AreFound s → Step eq s n turn t → FoundIf t n (t.calls n)
    own_found s t n turn led i step = now (by (subst (LeftWell eq s.world.table) step.live ((in_walking eq laws s i.reached).well n)))
      where
        was : AllFound s n step.call.plan
        was = subst (FoundIf s n) step.live (i.found n)

        by : GoesWell eq s.world.table step.call.plan → FindsOrHas s n step.call (t.calls n)
        by (inl calm) = inl (calm_found_if s n (t.calls n)
            (step_cases eq (λ new next. weigh_call walking next.left ≡ 0) (λ v _. weigh_call walking (v.calls n) ≡ 0) s t n turn step
            (on_calm eq s.world n step.call step.call.plan refl calm)
            (λ w next h. ap (weigh_call walking) (put_here s.calls n next.left) ∙ h)))
        by (inr (inl walk)) =
            step_cases eq (λ new next. FindsOrHas s n step.call next.left) (λ v _. FindsOrHas s n step.call (v.calls n)) s t n turn step
            (walk_finds s n step.call step.call.plan refl walk.0 was)
            (λ w next h. subst (FindsOrHas s n step.call) (sym (put_here s.calls n next.left)) h)
        by (inr (inr coming)) =
            step_cases eq (λ new next. FindsOrHas s n step.call next.left) (λ v _. FindsOrHas s n step.call (v.calls n)) s t n turn step
            (on_coming eq (λ new next. FindsOrHas s n step.call next.left) s.world n step.call coming.0 step.call.plan coming.1
            (λ d spares next comes. inl (comes_found s n coming.0 step.call was next comes)))
            (λ w next h. subst (FindsOrHas s n step.call) (sym (put_here s.calls n next.left)) h)

        now : FindsOrHas s n step.call (t.calls n) → FoundIf t n (t.calls n)
        now (inl h) = found_if_on s t n led (t.calls n) h
        now (inr f) =
            let made : HasMade eq t n (FindsListed n f.listed (Some (f.there, f.stored))) = record {
              before = s;
              reached = i.reached;
              call = step.call;
              live = step.live;
              turn = turn;
              after = t;
              step = step;
              what = record {
                looks = (f.rest, f.looks);
                stood = f.stood;
                decided = λ d live same. judges_finds step.call.plan d.plan f.listed f.there f.stored f.rest f.rest f.looks
                    (ap (λ (v : Call K V E). v.plan) (some_same (sym live ∙ f.live)) ∙ f.judges) same;
              };
              led = no_leads eq t;
            } in
            subst (FoundIf t n) (sym f.live) (subst (AllFound t n) (sym f.judges) ((f.listed, made), found_on s t n led f.rest f.others))

    found_step : (s t : State K V E) (n : ℕ) (turn : Turn K V E) → Leads eq s t → AreFound s → Step eq s n turn t → AreFound t
    found_step s t n turn led i step = record {
      reached = run_reached eq s t led.events led.replies i.reached led.run;
      found = λ m. by m (n == m) refl;
    }
      where
        by : (m : ℕ) (b : Bool) → (n == m) ≡ b → FoundIf t m (t.calls m)
        by m true e = subst (λ v. FoundIf t v (t.calls v)) (eqb-true n m e) (own_found s t n turn led i step)
        by m false e = subst (FoundIf t m) (sym (step_calls eq s t n m turn e step)) (found_if_on s t m led (s.calls m) (i.found m))

    found_followed : IsFollowed eq AreFound
    found_followed = record {
      at = λ s moment on led i. more s _ led (λ m. inl refl) i;
      start = λ s begin fits led i. record {
        reached = run_reached eq s _ led.events led.replies i.reached led.run;
        found = λ m. by_start s begin led i m (s.world.desk.last + 1 == m) refl;
      };
      step = found_step;
      tell = λ s n given asked led i. more s _ led (λ m. inl refl) i;
      hear = λ s n off running led i. more s _ led (λ m. inl refl) i;
      drop = λ s n c live between led i. more s _ led (λ m. by_drop s n m (n == m) refl) i;
    }
      where
        more : (s t : State K V E) → Leads eq s t → ((m : ℕ) → (t.calls m ≡ s.calls m) ⊎ (t.calls m ≡ None)) → AreFound s → AreFound t
        more s t led same i = record {
          reached = run_reached eq s t led.events led.replies i.reached led.run;
          found = λ m. by m (same m);
        }
          where
            by : (m : ℕ) → (t.calls m ≡ s.calls m) ⊎ (t.calls m ≡ None) → FoundIf t m (t.calls m)
            by m (inl e) = subst (FoundIf t m) (sym e) (found_if_on s t m led (s.calls m) (i.found m))
            by m (inr e) = subst (FoundIf t m) (sym e) tt

        by_drop : (s : State K V E) (n m : ℕ) (b : Bool) → (n == m) ≡ b →
            (cond b None (s.calls m) ≡ s.calls m) ⊎ (cond b None (s.calls m) ≡ None)
        by_drop s n m true e = inr refl
        by_drop s n m false e = inl refl

        by_start : (s : State K V E) (begin : Start K V) → Leads eq s (started s begin) → AreFound s → (m : ℕ) (b : Bool) →
            (s.world.desk.last + 1 == m) ≡ b → FoundIf (started s begin) m ((started s begin).calls m)
        by_start s begin led i m true e =
            subst (λ v. FoundIf (started s begin) v ((started s begin).calls v)) (eqb-true (s.world.desk.last + 1) m e)
            (subst (FoundIf (started s begin) (s.world.desk.last + 1)) (sym (put_here s.calls (s.world.desk.last + 1) _))
            (unlooked_found (started s begin) (s.world.desk.last + 1) _
            (fresh_looks s.world.desk.rules _ (fresh_plan s.world.table.division.parts s.world.desk.rules begin))))
        by_start s begin led i m false e =
            subst (FoundIf (started s begin) m) (sym (put_there s.calls (s.world.desk.last + 1) _ m e))
            (found_if_on s (started s begin) m led (s.calls m) (i.found m))

    in_found : (s : State K V E) → IsReached eq s → AreFound s
    in_found s h = follow eq AreFound found_followed (fresh K V E h.division h.rules h.size h.handed) s h.events h.replies (record {
      reached = fresh_reached eq h.division h.divides h.rules h.size h.handed h.has_log;
      found = λ n. tt;
    }) h.run

    pub items_found : ItemsAreFound K V E eq
    items_found s t n key value h step =
        let item = items_walk eq n step.call s.world step.world step.given key value step.gets (sym step.turns) in
        let stored : Stored V = item.1.0 in
        let judge : IsToJudge step.call key stored = item.1.1 in
        let seen : is_visible_in s key stored ≡ true =
        (scans_show eq s t n step.call key stored (turn.Item key value) step.live judge step).0 (ap (λ v. turn.Item key v) (sym item.1.2)) in
        let all : AllFound s n (plan.Scan key stored ∷ judge.0) =
        subst (AllFound s n) judge.1 (subst (FoundIf s n) step.live ((in_found s h).found n)) in
        (stored, item.1.2, seen, all.0)
