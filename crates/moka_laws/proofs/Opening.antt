-- By which step a call comes to ask, and to end its own load without a value.
use Rattle.std.proofs.Common.{◌≡◌, ℕ, ◌+◌, ◌==◌, Bool, true, false, List, [], ◌∷◌, Option, Some, None, inl, inr, refl, sym, ap, ◌∙◌, subst, arith, map, ◌++◌}
use Rattle.std.proofs.lemmas.Bool.{eqb-true}
use Rattle.std.specs.Cmp.{IsEquivalence}
use Rattle.moka_hist.specs.State.{State, World, Call, fresh}
use Rattle.moka_hist.specs.Plan.{Item, Aim, Removal, end_load, is_disabled, look, lists_from}
use Rattle.moka_hist.specs.Entries.{put_answer}
use Rattle.moka_hist.specs.Writing.{nothing_answer, removed_answer, said}
use Rattle.moka_hist.specs.Plan as plan
use Rattle.moka_hist.specs.Next.{Next, goes, stays}
use Rattle.moka_hist.specs.Looking.{hits, misses, keeps, finds_pair}
use Rattle.moka_hist.specs.Loading.{after_read, after_abort, after_told, retries}
use Rattle.moka_hist.specs.Step.{Step, replace_of}
use Rattle.moka_hist.specs.Visits.{is_seen}
use Rattle.moka_hist.specs.Run.{IsReached, fresh_call, started}
use Rattle.moka_hist.specs.declared.accesses.Turn.{Turn}
use Rattle.moka_hist.specs.declared.accesses.Turn.TheVariants as turn
use Rattle.moka_hist.specs.declared.events.Start.{Start}
use Rattle.moka_hist.specs.declared.events.Told.{Told}
use Rattle.moka_hist.specs.declared.events.Told.TheVariants as told
use Rattle.moka_hist.specs.declared.loads.Load.{Load}
use Rattle.moka_hist.specs.declared.loads.Sought.{Sought}
use Rattle.moka_hist.specs.declared.records.Stored.{Stored}
use Rattle.moka_hist.specs.declared.replies.Answer.{Answer}
use Rattle.moka_hist.specs.declared.replies.Answer.TheVariants as answer
use Rattle.moka_hist.specs.declared.replies.Ask.TheVariants as ask
use Rattle.moka_hist.specs.declared.rules.Rules.{Rules}
use Rattle.moka_hist.specs.declared.visits.Settled.{Settled}
use Rattle.moka_hist.specs.declared.visits.Settled.TheVariants as settled
use Rattle.moka_hist.specs.declared.visits.Found.TheVariants as found
use Rattle.moka_laws.specs.Loads.{said_of, told_as, TakesTold, LooksInVain, AsksNext, CameBy, OpenedByOwners, OwnEndsAreTold}
use Rattle.moka_laws.specs.Starting.{Leads}
use Rattle.moka_laws.proofs.Counting.{none_some, some_same, put_cases, put_here}
use Rattle.moka_laws.proofs.Following.{IsFollowed, follow, leads_more, no_leads}
use Rattle.moka_laws.proofs.Owning.{plan_left, in_owned, wanted}
use Rattle.moka_laws.proofs.Steady.{step_calls}
use Rattle.moka_laws.proofs.Reached.{fresh_reached, run_reached}
use Rattle.moka_laws.proofs.Roles.{IsLast}
use Rattle.moka_laws.proofs.Rules.{put_plans, loaded_plans, kept_next, chosen_next, IsFresh, Disabled, fresh_plan, read_key_next, told_op_next_by, IsComputed, unchanged_computed, put_computed, Walks_over}
use Rattle.moka_laws.proofs.Served.{in_served}
use Rattle.moka_laws.proofs.StepCases.{OnStep, step_cases}
use Rattle.moka_laws.proofs.Outcomes.{Outcomes, outcomes, passes_on}
use Rattle.moka_hist.specs.declared.loads.Compute.{Compute}
use Rattle.moka_hist.specs.Computing.{after_told_op, after_read_key}
use Rattle.moka_laws.proofs.Walks.{Ends, Finds, IsWalk, Lists, Scans, walk_is_walk, Chooses, Retires, Strikes, retiring_walk}
use Rattle.moka_hist.specs.Maintenance.{carrying}

module _ {K V E : Type 0} where
  -- 1 where a load is ended so without a value, and that answered
  abbrev ends_load : Settled V E → Answer K V E → ℕ
  ends_load settled.Nothing answer.Nothing = 1
  ends_load (settled.Err error) (answer.InitErr other) = 1
  ends_load _ _ = 0

  -- how many parts of the plan come first where they stand at all: an ask, an owner's look, an end
  -- of a load without a value
  abbrev lates : List (Item K V E) → ℕ
  lates [] = 0
  lates (plan.Ask load ∷ rest) = 1 + lates rest
  lates (plan.Get (plan.To_own sought) key ∷ rest) = 1 + lates rest
  lates (plan.Settle with ∷ plan.Reply a ∷ rest) = ends_load with a + lates rest
  lates (_ ∷ rest) = lates rest

  abbrev behind : List (Item K V E) → List (Item K V E)
  behind [] = []
  behind (item ∷ rest) = rest

  -- an owner's look is for the key of its load
  abbrev LooksAtOwn : List (Item K V E) → Type 0
  LooksAtOwn (plan.Get (plan.To_own sought) key ∷ rest) = key ≡ sought.load.key
  LooksAtOwn _ = Unit {0}

  -- what a step of the call has to show
  record Leaves (s : State K V E) (n : ℕ) (c : Call K V E) (next : Next K V E) : Type 0 where
    later : lates (behind (plan_left next.left)) ≡ 0
    looks : LooksAtOwn (plan_left next.left)
    ends : (with : Settled V E) (said : Answer K V E) (given : Told V E) →
        told_as with ≡ Some given →
        said_of with false ≡ Some said → plan_left next.left ≡ end_load with said →
        TakesTold s n c given
    asks : (load : Load K) → plan_left next.left ≡ plan.Ask load ∷ [] → AsksNext s c load
    opens : next.turn ≡ turn.Ask ask.Init → (load : Load K) × (c.plan ≡ plan.Ask load ∷ [])

  -- ---- plans with no such item

  behind_none : (p : List (Item K V E)) → lates p ≡ 0 → lates (behind p) ≡ 0
  behind_none [] h = refl
  behind_none (plan.Ask load ∷ rest) h = absurd (omega (arith, h))
  behind_none (plan.Get (plan.To_own sought) key ∷ rest) h = absurd (omega (arith, h))
  behind_none (plan.Settle with ∷ plan.Reply a ∷ rest) h = omega (arith, h)
  behind_none (_ ∷ rest) h = h

  looks_none : (p : List (Item K V E)) → lates p ≡ 0 → LooksAtOwn p
  looks_none (plan.Get (plan.To_own sought) key ∷ rest) h = absurd (omega (arith, h))
  looks_none [] h = tt
  looks_none (_ ∷ rest) h = tt

  ends_one : (with : Settled V E) (said : Answer K V E) (given : Told V E) →
      told_as with ≡ Some given → said_of with false ≡ Some said → ends_load with said ≡ 1
  ends_one settled.Nothing said given e f = sym (ap (ends_load settled.Nothing) (some_same f))
  ends_one (settled.Err error) said given e f =
      sym (ap (ends_load (settled.Err error)) (some_same f))
  ends_one _ said given e f = absurd (none_some e)

  ends_not : (p : List (Item K V E)) (with : Settled V E) (said : Answer K V E) (given : Told V E) →
      lates p ≡ 0 → told_as with ≡ Some given → said_of with false ≡ Some said →
      p ≡ end_load with said → ⊥
  ends_not p with said given h e f is =
      omega (arith, ends_one with said given e f, sym h ∙ ap lates is)

  asks_not : (p : List (Item K V E)) (load : Load K) → lates p ≡ 0 → p ≡ plan.Ask load ∷ [] → ⊥
  asks_not p load h is = omega (arith, sym h ∙ ap lates is)

  goes_late : (c : Call K V E) (rest : List (Item K V E)) →
      lates (plan_left (goes c rest).left) ≡ lates rest
  goes_late c (plan.Reply a ∷ []) = refl
  goes_late c _ = refl

  -- a compute ends no load
  computed_ends : (a : Answer K V E) → IsComputed a → ends_load settled.Nothing a ≡ 0
  computed_ends (answer.Computed done) is = refl
  computed_ends (answer.ComputeErr error) is = refl
  computed_ends _ is = absurd is

  nothing_late : (c : Call K V E) (removal : Removal K) →
      lates (said {V = V} {E = E} removal (nothing_answer removal)) ≡ 0
  nothing_late c (plan.To_remove_as_told key) = refl
  nothing_late c _ = refl

  removed_late : (c : Call K V E) (removal : Removal K) (value : V) →
      lates (said {V = V} {E = E} removal (removed_answer removal value)) ≡ 0
  removed_late c (plan.To_remove_as_told key) value = refl
  removed_late c _ value = refl

  goes_not : (c : Call K V E) (rest : List (Item K V E)) → (goes c rest).turn ≡ turn.Ask ask.Init → ⊥
  goes_not c (plan.Reply a ∷ []) e = cc
  goes_not c _ e = cc

  finds_late : (keys : List K) (rest : List (Item K V E)) → lates (map plan.Find keys ++ rest) ≡ lates rest
  finds_late [] rest = refl
  finds_late (key ∷ keys) rest = finds_late keys rest

  walk_late : (p : List (Item K V E)) → IsWalk p → lates p ≡ 0
  walk_late p Ends = refl
  walk_late p Retires = refl
  walk_late p (Chooses parts) = refl
  walk_late p (Strikes there stored rest walk) = walk_late rest walk
  walk_late p (Lists part rest walk) = walk_late rest walk
  walk_late p (Finds key rest walk) = walk_late rest walk
  walk_late p (Scans there stored rest walk) = walk_late rest walk

  fresh_quiet : (rules : Rules) (p : List (Item K V E)) → IsFresh rules p → lates p ≡ 0
  fresh_quiet rules p (Disabled a d plain) = refl
  fresh_quiet rules p (Walks_over parts able) = walk_late p (walk_is_walk 0 parts)
  fresh_quiet rules p _ = refl

  module _ (s : State K V E) (n : ℕ) (c : Call K V E) where
    quiet : (next : Next K V E) → lates (plan_left next.left) ≡ 0 →
        (next.turn ≡ turn.Ask ask.Init → ⊥) → Leaves s n c next
    quiet next h not = record {
      later = behind_none (plan_left next.left) h;
      looks = looks_none (plan_left next.left) h;
      ends = λ with said given e f is.
          absurd (ends_not (plan_left next.left) with said given h e f is);
      asks = λ load is. absurd (asks_not (plan_left next.left) load h is);
      opens = λ e. absurd (not e);
    }

    goes_on : (rest : List (Item K V E)) → lates rest ≡ 0 → Leaves s n c (goes c rest)
    goes_on rest h = quiet (goes c rest)
        (goes_late c rest ∙ h) (goes_not c rest)

    -- the call is as it was, at an item that isn't one of these
    parks : (next : Next K V E) → plan_left next.left ≡ c.plan → lates c.plan ≡ 0 →
        (next.turn ≡ turn.Ask ask.Init → ⊥) → Leaves s n c next
    parks next same h not = quiet next (ap lates same ∙ h) not

    keeps_quiet : Leaves s n c (keeps c)
    keeps_quiet = kept_next (Leaves s n c) c (λ off. quiet _ refl (λ e. cc)) (λ on. quiet _ refl (λ e. cc))

    -- the owner has looked in vain, and asks
    asks_now : (sought : Sought K) → LooksInVain s c sought →
        Leaves s n c (goes c (plan.Ask sought.load ∷ []))
    asks_now sought why = record {
      later = refl;
      looks = tt;
      ends = λ with said given e g is. cc;
      asks = λ load is. record { sought = sought; seeks = cc; why = inl why };
      opens = λ e. cc;
    }

    misses_leave : (aim : Aim K V) (key : K) → c.plan ≡ plan.Get aim key ∷ [] →
        LooksAtOwn (plan.Get aim key ∷ []) → s.world.table.stored key ≡ None → Leaves s n c (misses c aim)
    misses_leave (plan.To_own sought) key e l none = asks_now sought (inl (
      e ∙ ap (λ k. look (plan.To_own sought) k) l,
      subst (λ k. s.world.table.stored k ≡ None) l none,
    ))
    misses_leave (plan.To_insert there value) key e l none =
        put_plans (λ p. Leaves s n c (goes c p)) c.rules there value _
        (goes_on (plan.Drain ∷ plan.Moment (plan.To_store there value) ∷ _) refl)
        (goes_on (plan.Drain ∷ plan.Lock there ∷ plan.Moment (plan.To_store there value) ∷ _) refl)
    misses_leave (plan.To_evict there stamp cause) key e l none = keeps_quiet
    misses_leave _ key e l none = quiet _ refl (λ f. cc)

    unseen_leave : (aim : Aim K V) (key : K) (stored : Stored V) → c.plan ≡ plan.Judge aim key stored ∷ [] →
        is_seen s.world.desk (replace_of aim) key stored ≡ false → Leaves s n c (misses c aim)
    unseen_leave (plan.To_own sought) key stored e unseen =
        asks_now sought (inr (key, stored, e, unseen))
    unseen_leave (plan.To_insert there value) key stored e unseen =
        put_plans (λ p. Leaves s n c (goes c p)) c.rules there value _
        (goes_on (plan.Drain ∷ plan.Moment (plan.To_store there value) ∷ _) refl)
        (goes_on (plan.Drain ∷ plan.Lock there ∷ plan.Moment (plan.To_store there value) ∷ _) refl)
    unseen_leave (plan.To_evict there stamp cause) key stored e unseen = keeps_quiet
    unseen_leave _ key stored e unseen = quiet _ refl (λ f. cc)

    finds_leave : (aim : Aim K V) (k : K) (stored : Stored V) → Leaves s n c (finds_pair c aim k stored)
    finds_leave (plan.To_evict there stamp cause) k stored =
        chosen_next (Leaves s n c) c there stamp cause k stored (λ off. quiet _ refl (λ e. cc))
        (λ on. quiet _ refl (λ e. cc)) (quiet _ refl (λ e. cc))
    finds_leave _ k stored = quiet _ refl (λ e. cc)

    hits_leave : (aim : Aim K V) (there : K) (value : V) → lates c.plan ≡ 0 →
        Leaves s n c (hits c aim there value)
    hits_leave (plan.To_evict under stamp cause) there value h = parks _ refl h (λ e. cc)
    hits_leave _ there value h = quiet _ refl (λ e. cc)

    read_leave : (sought : Sought K) (with : Settled V E) → lates c.plan ≡ 0 →
        Leaves s n c (after_read c sought (found.ReadSettled with))
    read_leave sought settled.NotYet h = parks _ refl h (λ e. cc)
    read_leave sought settled.Aborted h = by (c.aborts + 1 == retries) refl
      where
        by : (b : Bool) → (c.aborts + 1 == retries) ≡ b → Leaves s n c (after_abort c sought)
        by true is = rw is (quiet _ refl (λ e. cc))
        by false is = rw is (quiet _ refl (λ e. cc))
    read_leave sought _ h = quiet _ refl (λ e. cc)

    read_key_leave : (compute : Compute K) (with : Settled V E) → lates c.plan ≡ 0 →
        Leaves s n c (after_read_key c compute (found.ReadSettled with))
    read_key_leave compute with h = read_key_next (λ v. Leaves s n c v) c compute with
        (parks _ refl h (λ e. cc))
        (quiet _ refl (λ f. cc))

    -- the own told answer
    ends_now : (with : Settled V E) (said : Answer K V E) (load : Load K) (given : Told V E) →
        told_as with ≡ Some given → c.plan ≡ plan.Told load ∷ [] →
        s.world.desk.told n ≡ Some given → Leaves s n c (goes c (end_load with said))
    ends_now with said load given is e took = record {
      later = refl;
      looks = tt;
      ends = λ other a tells f g same.
          let one : with ≡ other = cc in
          record {
            load = load;
            telling = e;
            told = took ∙ sym is ∙ ap told_as one ∙ f;
          };
      asks = λ load same. cc;
      opens = λ f. cc;
    }

    told_leave : (load : Load K) (given : Told V E) → c.plan ≡ plan.Told load ∷ [] →
        s.world.desk.told n ≡ Some given →
        Leaves s n c (after_told c load (found.TakeTold (Some given)))
    told_leave load (told.Value value) e took =
        loaded_plans (λ p. Leaves s n c (goes c p)) c.rules load value
        (quiet _ refl (λ f. cc)) (quiet _ refl (λ f. cc)) (quiet _ refl (λ f. cc))
    told_leave load told.Nothing e took = ends_now settled.Nothing _ load told.Nothing refl e took
    told_leave load (told.Err error) e took =
        ends_now (settled.Err error) _ load (told.Err error) refl e took
    told_leave load _ e took =
        parks _ refl (ap lates e) (λ f. cc)

    told_op_leave : (compute : Compute K) (pair : Option (K × V)) (given : Told V E) →
        c.plan ≡ plan.Told_op compute pair ∷ [] →
        Leaves s n c (after_told_op c compute pair (found.TakeTold (Some given)))
    told_op_leave compute pair given e = told_op_next_by (Leaves s n c) c compute pair given
        (quiet _ (omega (arith, computed_ends _ (unchanged_computed E compute.key pair))) (λ f. cc))
        (λ error is. quiet _ refl (λ f. cc))
        (λ value disabled. quiet _ (omega (arith, puts value)) (λ f. cc))
        (λ value able off. quiet _ (omega (arith, puts value)) (λ f. cc))
        (λ value able on. quiet _ (omega (arith, puts value)) (λ f. cc))
        (λ off. quiet _ refl (λ f. cc))
        (λ on. quiet _ refl (λ f. cc))
        (λ lost. parks _ refl (ap lates e) (λ f. cc))
      where
        puts : (value : V) →
            ends_load settled.Nothing (put_answer {E = E} compute.key pair value) ≡ 0
        puts value = computed_ends _ (put_computed E compute.key pair value)

  module _ (eq : K → K → Bool) (s : State K V E) (n : ℕ) (c : Call K V E) where
    abbrev After : World K V E → Next K V E → Type 0
    After new next = Leaves s n c next

    -- the owner's look stays undecided
    looks_on : (aim : Aim K V) (key : K) (rest : List (Item K V E)) → c.plan ≡ plan.Get aim key ∷ rest →
        lates rest ≡ 0 → LooksAtOwn (plan.Get aim key ∷ rest) → Leaves s n c (stays c)
    looks_on aim key rest e h l = record {
      later = ap (λ p. lates (behind p)) e ∙ h;
      looks = subst LooksAtOwn (sym e) l;
      ends = λ with said given f g is. cc;
      asks = λ load is. cc;
      opens = λ f. cc;
    }

    on_item : (item : Item K V E) (rest : List (Item K V E)) → c.plan ≡ item ∷ rest → IsLast (item ∷ rest) →
        lates rest ≡ 0 → LooksAtOwn (item ∷ rest) → Outcomes eq After s.world n c item rest
    on_item plan.Drain rest e l h o = (
      λ f. goes_on s n c rest h,
      λ x xs f. quiet s n c _ (omega (arith, h)) (λ g. cc),
      λ x number xs f. quiet s n c _ (omega (arith, h)) (λ g. cc),
    )
    on_item (plan.Notice key old cause upsert) rest e l h o =
        (λ f. goes_on s n c rest h, λ f. quiet s n c _ (omega (arith, h)) (λ g. cc))
    on_item (plan.Post write) rest e l h o =
        (λ f. goes_on s n c rest h, λ f. quiet s n c _ (omega (arith, h)) (λ g. cc))
    on_item plan.Apply rest e l h o =
        (λ f. goes_on s n c rest h, λ x xs f. quiet s n c _ (omega (arith, h)) (λ g. cc))
    on_item (plan.Get aim key) rest e l h o = (
      (λ more. looks_on aim key rest e h o),
      (λ none. misses_leave s n c aim key (e ∙ ap (λ r. plan.Get aim key ∷ r) l)
          (subst (λ r. LooksAtOwn (plan.Get aim key ∷ r)) l o) none),
      λ k stored some. finds_leave s n c aim k stored,
    )
    on_item (plan.Judge aim key stored) rest e l h o = (
      (λ seen. hits_leave s n c aim key stored.value (ap lates e ∙ omega (arith, h))),
      λ unseen. unseen_leave s n c aim key stored
          (e ∙ ap (λ r. plan.Judge aim key stored ∷ r) l) unseen,
    )
    on_item (plan.Own sought) rest e l h o = (
      λ able none. record {
        later = refl;
        looks = refl;
        ends = λ with said given f g is. cc;
        asks = λ load is. cc;
        opens = λ f. cc;
      },
      λ disabled none. record {
        later = refl;
        looks = tt;
        ends = λ with said given f g is. cc;
        asks = λ load is.
            let same : sought.load ≡ load = cc in
            record {
              sought = sought;
              seeks = same;
              why = inr (
                disabled,
                e ∙ ap (λ r. plan.Own sought ∷ r) l,
                subst (λ v. s.world.desk.owners v ≡ None) same none,
              );
            };
        opens = λ f. cc;
      },
      λ owner some. quiet s n c _ refl (λ g. cc),
    )
    on_item (plan.Own_key compute) rest e l h o = (
      (λ able none. quiet s n c _ refl (λ g. cc), λ disabled none. quiet s n c _ refl (λ g. cc)),
      λ owner some. quiet s n c _ refl (λ g. cc),
    )
    on_item (plan.Own_alone key) rest e l h o = (
      (λ able none. quiet s n c _ refl (λ g. cc), λ disabled none. quiet s n c _ refl (λ g. cc)),
      λ owner some. (λ able. quiet s n c _ refl (λ g. cc), λ not. quiet s n c _ refl (λ g. cc)),
    )
    on_item (plan.Read sought) rest e l h o = (
      λ none. parks s n c _ refl (ap lates e ∙ omega (arith, h)) (λ g. cc),
      λ with some. read_leave s n c sought with (ap lates e ∙ omega (arith, h)),
    )
    on_item (plan.Read_key compute) rest e l h o = (
      λ none. parks s n c _ refl (ap lates e ∙ omega (arith, h)) (λ g. cc),
      λ with some. read_key_leave s n c compute with (ap lates e ∙ omega (arith, h)),
    )
    on_item (plan.Ask load) rest e l h o = record {
      later = refl;
      looks = tt;
      ends = λ with said given f g is. cc;
      asks = λ other is. cc;
      opens = λ f. (load, e ∙ ap (λ r. plan.Ask load ∷ r) l);
    }
    on_item (plan.Ask_op compute pair) rest e l h o = quiet s n c _ refl (λ g. cc)
    on_item (plan.Told load) rest e l h o = (
      λ none. parks s n c _ refl (ap lates e ∙ omega (arith, h)) (λ g. cc),
      λ given some. told_leave s n c load given (e ∙ ap (λ r. plan.Told load ∷ r) l) some,
    )
    on_item (plan.Told_op compute pair) rest e l h o = (
      λ none. parks s n c _ refl (ap lates e ∙ omega (arith, h)) (λ g. cc),
      λ given some. told_op_leave s n c compute pair given (e ∙ ap (λ r. plan.Told_op compute pair ∷ r) l),
    )
    on_item (plan.Holds key stamp cause there stored) rest e l h o =
        (λ f. quiet s n c _ refl (λ g. cc), λ f. keeps_quiet s n c)
    on_item (plan.Moment (plan.To_store key value)) rest e l h o =
        quiet s n c _ (omega (arith, h)) (λ g. cc)
    on_item (plan.Moment (plan.To_take_out removal key)) rest e l h o =
        quiet s n c _ (omega (arith, h)) (λ g. cc)
    on_item (plan.Write key value moment) rest e l h o = (
      (λ more. parks s n c _ refl (ap lates e ∙ omega (arith, h)) (λ g. cc)),
      (λ off old. quiet s n c _ (omega (arith, h)) (λ g. cc)),
      (λ on. quiet s n c _ (omega (arith, h)) (λ g. cc)),
      λ k old on some. quiet s n c _ (omega (arith, h)) (λ g. cc),
    )
    on_item (plan.Out removal key) rest e l h o = (
      (λ more. parks s n c _ refl (ap lates e ∙ omega (arith, h)) (λ g. cc)),
      (λ off none. quiet s n c _ (nothing_late c removal) (λ g. cc)),
      (λ on none. quiet s n c _ (nothing_late c removal) (λ g. cc)),
      (λ k old off some. quiet s n c _ (removed_late c removal old.value) (λ g. cc)),
      λ k old on some. quiet s n c _ (removed_late c removal old.value) (λ g. cc),
    )
    on_item (plan.List_keys part) rest e l h o = (
      (λ more. parks s n c _ refl (ap lates e ∙ h) (λ g. cc)),
      λ listed keys is gives. goes_on s n c (map plan.Find keys ++ rest) (finds_late keys rest ∙ h),
    )
    on_item (plan.Find key) rest e l h o = (
      (λ more. parks s n c _ refl (ap lates e ∙ h) (λ g. cc)),
      (λ none. goes_on s n c rest h),
      (λ k stored some none. quiet s n c _ h (λ g. cc)),
      λ k stored ids some is. quiet s n c _ h (λ g. cc),
    )
    on_item (plan.Scan there stored) rest e l h o =
        ((λ seen. quiet s n c _ h (λ g. cc)), λ unseen. goes_on s n c rest h)
    on_item (plan.Register test) rest e l h o = quiet s n c _ refl (λ g. cc)
    on_item (plan.Candidates parts) rest e l h o = (
      (λ none. quiet s n c _ refl (λ g. cc)),
      λ id more some.
          let lists : List (Item K V E) = lists_from 0 parts (plan.Retire ∷ []) in
          quiet s n c _ (goes_late (carrying c (id ∷ more)) lists ∙ walk_late lists (retiring_walk parts)) (goes_not (carrying c (id ∷ more)) lists),
    )
    on_item (plan.Strike there stored) rest e l h o = quiet s n c _ (goes_late (carrying c _) rest ∙ h) (goes_not (carrying c _) rest)
    on_item plan.Retire rest e l h o = quiet s n c _ refl (λ g. cc)
    on_item (plan.Reply a) rest e l h o = quiet s n c _ refl (λ g. cc)
    on_item (plan.Settle with) rest e l h o = goes_on s n c rest h
    on_item item rest e l h o = passes_on eq After s.world n c item rest tt
        (λ d. goes_on s n c rest h)
        (parks s n c _ refl (ap lates e ∙ omega (arith, h)) (λ g. cc))

    on_plan : (p : List (Item K V E)) → c.plan ≡ p → IsLast p → lates (behind p) ≡ 0 →
        LooksAtOwn p →
        OnStep eq After s.world n c p
    on_plan [] e l h o = parks s n c _ refl (ap lates e) (λ g. cc)
    on_plan (item ∷ rest) e l h o = outcomes eq After s.world n c item rest (on_item item rest e l h o)

-- ---- of a state

module _ {K V E : Type 0} (eq : K → K → Bool) where
  -- the call came to ask, or to end its own load, by its cause
  record IsLed (s : State K V E) (n : ℕ) (c : Call K V E) : Type 0 where
    later : lates (behind c.plan) ≡ 0
    looks : LooksAtOwn c.plan
    ends : (with : Settled V E) (said : Answer K V E) (given : Told V E) →
        told_as with ≡ Some given →
        said_of with false ≡ Some said → c.plan ≡ end_load with said →
        CameBy eq s n c (λ u b. TakesTold u n b given)
    asks : (load : Load K) → c.plan ≡ plan.Ask load ∷ [] → CameBy eq s n c (λ u b. AsksNext u b load)

  record AreLed (s : State K V E) : Type 0 where
    reached : IsReached eq s
    led : (n : ℕ) (c : Call K V E) → s.calls n ≡ Some c → IsLed s n c

  -- what led to a state led to what follows
  came_on : (s t : State K V E) (n : ℕ) (c : Call K V E) (Cause : State K V E → Call K V E → Type 0) →
      Leads eq s t → CameBy eq s n c Cause → CameBy eq t n c Cause
  came_on s t n c Cause led b = record {
    before = b.before;
    reached = b.reached;
    call = b.call;
    live = b.live;
    cause = b.cause;
    after = b.after;
    turn = b.turn;
    step = b.step;
    left = b.left;
    led = leads_more eq b.after s t b.led led;
  }

  led_on : (s t : State K V E) (n : ℕ) (c : Call K V E) → Leads eq s t → IsLed s n c → IsLed t n c
  led_on s t n c led i = record {
    later = i.later;
    looks = i.looks;
    ends = λ with said given e f is. came_on s t n c _ led (i.ends with said given e f is);
    asks = λ load is. came_on s t n c _ led (i.asks load is);
  }

  -- a live call of the state that was led to was one of the state before
  more : (s t : State K V E) → Leads eq s t → ((n : ℕ) (c : Call K V E) → t.calls n ≡ Some c → s.calls n ≡ Some c) →
      AreLed s → AreLed t
  more s t led same i = record {
    reached = run_reached eq s t led.events led.replies i.reached led.run;
    led = λ n c live. led_on s t n c led (i.led n c (same n c live));
  }

  last_of : (s : State K V E) (n : ℕ) (c : Call K V E) → IsReached eq s → s.calls n ≡ Some c → IsLast c.plan
  last_of s n c h live = subst (λ v. IsLast (plan_left v)) live ((in_served eq s h).fits n).last

  -- what the step leaves of the call, and what it opens
  step_leaves : (s t : State K V E) (n : ℕ) (reply : Turn K V E) → AreLed s → (step : Step eq s n reply t) →
      (next : Next K V E) × Leaves s n step.call next × (t.calls n ≡ next.left) × (reply ≡ next.turn)
  step_leaves s t n reply i step =
      let c : Call K V E = step.call in
      let was : IsLed s n c = i.led n c step.live in
      step_cases eq (λ new next. Leaves s n c next)
      (λ v r. (next : Next K V E) × Leaves s n c next × (v.calls n ≡ next.left) × (r ≡ next.turn))
      s t n reply step
      (on_plan eq s n c c.plan refl (last_of s n c i.reached step.live) was.later was.looks)
      (λ w next l. (next, l, put_here s.calls n next.left, refl))

  led_now : (s t : State K V E) (n : ℕ) (c : Call K V E) (reply : Turn K V E) → Leads eq s t → AreLed s →
      Step eq s n reply t → t.calls n ≡ Some c → IsLed t n c
  led_now s t n c reply led i step live =
      let l = step_leaves s t n reply i step in
      let is : l.0.left ≡ Some c = sym l.2 ∙ live in
      let same : plan_left l.0.left ≡ c.plan = ap plan_left is in
      record {
        later = subst (λ p. lates (behind p) ≡ 0) same l.1.later;
        looks = subst LooksAtOwn same l.1.looks;
        ends = λ with said given e f ends. record {
          before = s;
          reached = i.reached;
          call = step.call;
          live = step.live;
          cause = l.1.ends with said given e f (same ∙ ends);
          after = t;
          turn = reply;
          step = step;
          left = live;
          led = no_leads eq t;
        };
        asks = λ load asks. record {
          before = s;
          reached = i.reached;
          call = step.call;
          live = step.live;
          cause = l.1.asks load (same ∙ asks);
          after = t;
          turn = reply;
          step = step;
          left = live;
          led = no_leads eq t;
        };
      }

  led_step : (s t : State K V E) (n : ℕ) (reply : Turn K V E) → Leads eq s t → AreLed s → Step eq s n reply t →
      AreLed t
  led_step s t n reply led i step = record {
    reached = run_reached eq s t led.events led.replies i.reached led.run;
    led = λ m c live. by m c live (n == m) refl;
  }
    where
      by : (m : ℕ) (c : Call K V E) → t.calls m ≡ Some c → (b : Bool) → (n == m) ≡ b → IsLed t m c
      by m c live true e =
          let here : n ≡ m = eqb-true n m e in
          subst (λ v. IsLed t v c) here (led_now s t n c reply led i step (ap t.calls here ∙ live))
      by m c live false e = led_on s t m c led (i.led m c (sym (step_calls eq s t n m reply e step) ∙ live))

  -- a fresh call neither asks nor ends a load
  led_fresh : (s : State K V E) (n parts : ℕ) (rules : Rules) (start : Start K V) → IsLed s n (fresh_call parts rules start)
  led_fresh s n parts rules start =
      let c : Call K V E = fresh_call parts rules start in
      let h : lates c.plan ≡ 0 = fresh_quiet rules c.plan (fresh_plan parts rules start) in
      record {
        later = behind_none c.plan h;
        looks = looks_none c.plan h;
        ends = λ with said given e f is. absurd (ends_not c.plan with said given h e f is);
        asks = λ load is. absurd (asks_not c.plan load h is);
      }

  led_followed : IsFollowed eq AreLed
  led_followed = record {
    at = λ s moment on led i. more s _ led (λ n c live. live) i;
    start = λ s start fits led i. record {
      reached = run_reached eq s _ led.events led.replies i.reached led.run;
      led = λ n c live.
          put_cases s.calls (s.world.desk.last + 1) (Some (fresh_call s.world.table.division.parts s.world.desk.rules start)) n (Some c)
          (IsLed (started s start) n c) live
          (λ here is. subst (IsLed (started s start) n) (some_same is)
          (led_fresh (started s start) n s.world.table.division.parts s.world.desk.rules start))
          (λ there is. led_on s (started s start) n c led (i.led n c is));
    };
    step = led_step;
    tell = λ s n given asked led i. more s _ led (λ m c live. live) i;
    hear = λ s n off running led i. more s _ led (λ m c live. live) i;
    drop = λ s n c live between led i. more s _ led
        (λ m d lives. put_cases s.calls n None m (Some d) (s.calls m ≡ Some d) lives
        (λ here is. absurd (none_some is)) (λ there is. is)) i;
  }

  in_led : (s : State K V E) → IsReached eq s → AreLed s
  in_led s h =
      follow eq AreLed led_followed (fresh K V E h.division h.rules h.size h.handed) s h.events h.replies (record {
        reached = fresh_reached eq h.division h.divides h.rules h.size h.handed h.has_log;
        led = λ n c live. absurd (none_some live);
      }) h.run

  pub own_ends_told : OwnEndsAreTold K V E eq
  own_ends_told s n c with said given h live e f is =
      ((in_led s h).led n c live).ends with said given e f is

  pub opened_by_owners : IsEquivalence eq → OpenedByOwners K V E eq
  opened_by_owners laws s t n c h live step =
      let i : AreLed s = in_led s h in
      let l = step_leaves s t n (turn.Ask ask.Init) i step in
      let is : step.call ≡ c = some_same (sym step.live ∙ live) in
      let opens = l.1.opens (sym l.3) in
      let asks : c.plan ≡ plan.Ask opens.0 ∷ [] = ap (λ (v : Call K V E). v.plan) (sym is) ∙ opens.1 in
      record {
        load = opens.0;
        asking = asks;
        owner = ((in_owned eq laws s h).calls n c live).first opens.0 (ap wanted asks);
        came = (i.led n c live).asks opens.0 asks;
      }
